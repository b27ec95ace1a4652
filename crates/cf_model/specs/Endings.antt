-- How journals end. This project's own.
use Rattle.std.specs.Prelude.{◌≡◌, ℕ, ◌<◌, List, length, IsTrue, false}
use Rattle.cf_ids.specs.declared.limits.TheConstants.{OBJECTS}
use Rattle.cf_syntax.specs.declared.script.Script.{Script}
use Rattle.cf_model.specs.declared.entry.Entry.{Entry}
use Rattle.cf_model.specs.declared.ending.Ending.{Ending}
use Rattle.cf_model.specs.declared.ending.Ending.TheVariants as endings
use Rattle.cf_model.specs.State.{State}
use Rattle.cf_model.specs.Journals.{can_go, makes, After, has_stalled, IsWhole}

-- as many objects were made as one run may make, and the next action of a thread makes another
pub record IsFull (s : Script) (st : State) : Type 0 where
  pub thread : ℕ
  pub going : IsTrue (can_go st thread)
  pub making : IsTrue (makes s st thread)
  pub made : length st.parts.objects ≡ OBJECTS

-- a journal that ends with a stall, and one that is whole; one that is neither, and as long as its limit; and one that
-- is none of these, since the next action of a thread makes an object too many
abbrev pub Ends : Script → (limit : ℕ) → List Entry → Ending → Type 0
Ends s limit es endings.Stalled = IsTrue (has_stalled es)
Ends s limit es endings.Done = IsWhole s es
Ends s limit es endings.Limit = (has_stalled es ≡ false) × (IsWhole s es → ⊥) × (length es ≡ limit)
Ends s limit es endings.Full =
    (has_stalled es ≡ false) × (IsWhole s es → ⊥) × (length es < limit) × IsFull s (After s es)
