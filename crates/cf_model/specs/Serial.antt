-- The serial order: a pointer goes round the threads, and the first thread at or after it that can go on makes one
-- entry; if none can, the lead makes one, and the pointer stays. This project's own.
use Rattle.std.specs.Prelude.{◌≡◌, ℕ, ◌+◌, ◌-◌, List, [], ◌∷◌, ◌++◌, Option, Some, None, find}
use Rattle.std.specs.List.{range_with_len}
use Rattle.cf_syntax.specs.declared.script.Script.{Script}
use Rattle.cf_model.specs.declared.entry.Entry.{Entry}
use Rattle.cf_model.specs.State.{State, start}
use Rattle.cf_model.specs.Journals.{can_go, after_action, lead, IsLegal}

-- the threads from the pointer on, cyclically
abbrev pub round : ℕ → ℕ → List ℕ
round count pointer = range_with_len pointer (count - pointer) ++ range_with_len 0 pointer

-- the thread that the pointer picks
abbrev pub picked : Script → State → ℕ → Option ℕ
picked s st pointer = find (can_go st) (round s.thread_count pointer)

-- who makes the next entry: the thread that is picked, or the lead if none is
abbrev pub picked_or_lead : Option ℕ → ℕ
picked_or_lead None = lead
picked_or_lead (Some t) = t

-- where the pointer stands after it: at the number after the thread, or where it stood
abbrev pub moved_by : ℕ → Option ℕ → ℕ
moved_by pointer None = pointer
moved_by pointer (Some t) = t + 1

-- from a state and a pointer on, each entry is one of the thread that the pointer picks, and the pointer goes to the
-- number after it
abbrev pub IsSerialFrom : Script → State → ℕ → List Entry → Type 0
IsSerialFrom s st pointer [] = Unit {0}
IsSerialFrom s st pointer (e ∷ es) =
    (e.thread ≡ picked_or_lead (picked s st pointer))
    × IsSerialFrom s (after_action s e.thread st e.action) (moved_by pointer (picked s st pointer)) es

-- where the pointer stands after entries, from a state and a pointer on
abbrev pub pointer_after : Script → State → ℕ → List Entry → ℕ
pointer_after s st pointer [] = pointer
pointer_after s st pointer (e ∷ es) =
    pointer_after s (after_action s e.thread st e.action) (moved_by pointer (picked s st pointer)) es

-- where the pointer stands after a journal
abbrev pub pointer_of : Script → List Entry → ℕ
pointer_of s es = pointer_after s (start s) 0 es

-- a legal journal in the serial order
pub record IsSerial (s : Script) (es : List Entry) : Type 0 where
  pub legal : IsLegal s es
  pub order : IsSerialFrom s (start s) 0 es
