-- The state after a journal: the objects made, those finalised, the slots that finalised bodies have given up, what
-- run loops and the notification centre know, the references, and where each thread stands. What modes, common items
-- and parcels have is no part of it but the references that they hold, and there are no counts in it: a count is a
-- number of references. This project's own.
use Rattle.std.specs.Prelude.{ℕ, zero, suc, Bool, true, false, ◌&&◌, List, [], ◌∷◌, length, map, drop, Option, Some, None, slice_get, nat_lt, ◌==◌, if◌then◌else◌}
use Rattle.std.specs.List.{range_with_len}
use Rattle.rl_base.specs.declared.registrations.Registration.{Registration}
use Rattle.cf_syntax.specs.declared.script.Script.{Script}
use Rattle.cf_graph.specs.Holders.{Holder, same_holder}
use Rattle.cf_graph.specs.Edges.{Reference}
use Rattle.cf_contents.specs.Contents.{Object, slots_at}
pub use Rattle.cf_contents.specs.Contents.{times}
use Rattle.cf_next.specs.Stands.{Stand, opening_stand}

-- ---- lists with a default

-- what stands at a place of a list, or the default past its end
abbrev pub at_or : {A : Type 0} → A → ℕ → List A → A
at_or a n [] = a
at_or a zero (x ∷ xs) = x
at_or a (suc n) (x ∷ xs) = at_or a n xs

-- a list with something else at a place; past its end the default fills the places before that
abbrev pub with_at : {A : Type 0} → A → ℕ → A → List A → List A
with_at a zero y [] = y ∷ []
with_at a (suc n) y [] = a ∷ with_at a n y []
with_at a zero y (x ∷ xs) = y ∷ xs
with_at a (suc n) y (x ∷ xs) = x ∷ with_at a n y xs

-- ---- parts

-- a mode that is a common mode of a thread's run loop
pub record CommonMode : Type 0 where
  pub thread : ℕ
  pub mode : ℕ

-- a thread's run loop is awake, or it sleeps until a date, if it has one
pub data Sleeping : Type 0 where
  awake : Sleeping
  until : Option ℕ → Sleeping

-- a thread is started when setup is done; a wake of a loop that does not sleep is kept for its next sleep
pub record Flags : Type 0 where
  pub is_started : Bool
  pub sleep : Sleeping
  pub is_woken : Bool

-- what is neither references nor stands: the objects that were made, those that are finalised, the body of each slot
-- that was given up, the common modes, the registrations, of which a forgotten one stands as none at its number, the
-- flags of each thread, and the time
pub record Parts : Type 0 where
  pub objects : List Object
  pub finalised : List ℕ
  pub dropped : List ℕ
  pub commons : List CommonMode
  pub registrations : List (Option Registration)
  pub flags : List Flags
  pub time : ℕ

-- a state: its parts, the references, and where each thread stands
pub record State : Type 0 where
  pub parts : Parts
  pub edges : List Reference
  pub stands : List Stand

-- the flags of a thread that is started or not, is awake and was not woken
abbrev pub flags_of : Bool → Flags
flags_of started = record { is_started = started; sleep = awake; is_woken = false }

-- a thread that is not there has no frame
abbrev pub blank : Stand
blank = record { frames = []; work = []; is_done = false }

-- where a thread stands
abbrev pub stand_at : ℕ → List Stand → Stand
stand_at t ss = at_or blank t ss

-- the stands with another one of a thread
abbrev pub with_stand : ℕ → Stand → List Stand → List Stand
with_stand t s ss = with_at blank t s ss

-- the flags of a thread
abbrev pub flags_at : ℕ → List Flags → Flags
flags_at t fs = at_or (flags_of false) t fs

-- the flags with others of a thread
abbrev pub with_flags : ℕ → Flags → List Flags → List Flags
with_flags t f fs = with_at (flags_of false) t f fs

-- the threads of a script, by number
abbrev pub threads_of : Script → List ℕ
threads_of s = range_with_len 0 s.thread_count

-- the modes of a script, by number
abbrev pub modes_of : Script → List ℕ
modes_of s = range_with_len 0 (length s.modes)

-- no object, no reference, time 0; setup alone is started, and each loop has `default`, mode 0, as its one common mode
abbrev pub start : Script → State
start s = record {
  parts = record {
    objects = [];
    finalised = [];
    dropped = [];
    commons = map (λ t. record { thread = t; mode = 0 }) (threads_of s);
    registrations = [];
    flags = map (λ t. flags_of (t == 0)) (threads_of s);
    time = 0;
  };
  edges = [];
  stands = map opening_stand (threads_of s);
}

-- ---- objects

-- the slots that are left to a body
abbrev pub left_of : List Object → List ℕ → ℕ → List ℕ
left_of objects dropped b = drop (times b dropped) (slots_at (slice_get objects b))

-- an object was made
abbrev pub is_made : Parts → ℕ → Bool
is_made p o = nat_lt o (length p.objects)

-- an object is live if it was made and is not finalised
abbrev pub is_live : Parts → ℕ → Bool
is_live p o = is_made p o && (times o p.finalised == 0)

-- the numbers of the objects made, in order
abbrev pub objects_of : Parts → List ℕ
objects_of p = range_with_len 0 (length p.objects)

-- the object that a holder has, the first of its references if it has several
abbrev pub first_held : Holder → List Reference → Option ℕ
first_held h [] = None
first_held h (r ∷ rs) = if same_holder h r.holder then Some r.object else first_held h rs

-- a mode is a common mode of a thread's loop
abbrev pub is_common : ℕ → List CommonMode → ℕ → Bool
is_common t [] m = false
is_common t (c ∷ cs) m = if (c.thread == t) && (c.mode == m) then true else is_common t cs m
