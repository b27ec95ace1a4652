-- What the frames of a thread ask of the world, as a record of functions, so that a state can be put in without being
-- told here. This project's own.
use Rattle.std.specs.Prelude.{ℕ, Bool, Option}

-- an item's handler and info, of which there may be none; a registration's handler and observer
pub record Callout : Type 0 where
  pub handler : ℕ
  pub info : Option ℕ

-- the time; whether a mode of a thread's loop holds an item, and whether it is empty; whether an item is valid, a
-- source signalled, an observer called again and again; the next date of a timer; the callout of an item, and that
-- of a registration that is there, with a live observer and filter object, whose info is the observer; what a place
-- of a thread's parcel has; and what a finalised body gives up next, if it is at this place of its slots
pub record Facts : Type 0 where
  pub time : ℕ
  pub holds : (thread mode item : ℕ) → Bool
  pub is_empty : (thread mode : ℕ) → Bool
  pub is_valid : ℕ → Bool
  pub is_signalled : ℕ → Bool
  pub next_date : ℕ → Option ℕ
  pub repeats : ℕ → Bool
  pub callout : ℕ → Option Callout
  pub receiver : ℕ → Option Callout
  pub parcel : (thread place : ℕ) → Option ℕ
  pub slot : (body place : ℕ) → Option ℕ
