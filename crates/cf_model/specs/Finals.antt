-- Finalised at most once, never used later, and unfinalised exactly if a reference is left. This
-- project's own, after the ownership rule.
use Rattle.std.specs.Prelude.{◌≡◌, ℕ, ◌+◌, ◌<◌, ◌≤◌, ◌↔◌, ◌⊎◌, List, [], ◌∷◌, ◌++◌, Option, Some, None, IsTrue, if◌then◌else◌, ◌==◌}
use Rattle.cf_ids.specs.declared.answer.Answer.{Answer}
use Rattle.cf_ids.specs.declared.answer.Answer.TheVariants as answers
use Rattle.cf_syntax.specs.declared.script.Script.{Script}
use Rattle.cf_graph.specs.Edges.{weigh, owning, holding}
use Rattle.cf_graph.specs.Flows.{gains}
use Rattle.cf_next.specs.Actions.{cut_of}
use Rattle.cf_model.specs.declared.entry.Entry.{Entry}
use Rattle.cf_model.specs.State.{State, is_made}
use Rattle.cf_model.specs.Flowing.{flow_in}
use Rattle.cf_model.specs.Journals.{After, Use, reaches, takes, knows, uses_of}

-- the object that an answer says is finalised
abbrev pub final_if : Answer → Option ℕ → Option ℕ
final_if (answers.Final c) o = o
final_if _ o = None

-- the object that an action with this answer finalises
abbrev pub final_of : Entry → Option ℕ
final_of e = final_if e.answer (cut_of e.action)

-- 1 if this is the object
abbrev pub one_at : ℕ → Option ℕ → ℕ
one_at o None = 0
one_at o (Some p) = if p == o then 1 else 0

-- how many entries finalise an object
abbrev pub finals : ℕ → List Entry → ℕ
finals o [] = 0
finals o (e ∷ es) = one_at o (final_of e) + finals o es

-- the object that an entry binds, which its answer names
abbrev pub bound_in : Answer → Option ℕ
bound_in (answers.Object o) = Some o
bound_in _ = None

-- the object that is used
abbrev pub object_of_use : Use → ℕ
object_of_use (reaches o) = o
object_of_use (takes o) = o
object_of_use (knows o) = o

-- how often an object is among those used
abbrev pub uses_among : ℕ → List Use → ℕ
uses_among o [] = 0
uses_among o (u ∷ us) = one_at o (Some (object_of_use u)) + uses_among o us

-- how often an entry uses an object: it acts on it or calls it, or it binds it
abbrev pub uses : ℕ → Entry → ℕ
uses o e = one_at o (bound_in e.answer) + uses_among o (uses_of e.action e.answer)

-- an object is owned if a reference leads to it from a thread or a parcel
abbrev pub IsOwned : State → ℕ → Type 0
IsOwned st o = 0 < weigh (owning o) st.edges

-- an object is held if a reference leads to it from elsewhere, such as a slot
abbrev pub IsHeld : State → ℕ → Type 0
IsHeld st o = 0 < weigh (holding o) st.edges

-- each object is finalised at most once, no later entry uses it or adds a reference to it, and an object that was made
-- is unfinalised exactly if it is owned or held at the end
pub record FinalsFit (s : Script) (es : List Entry) : Type 0 where
  pub once : (o : ℕ) → finals o es ≤ 1
  pub unused : (earlier later : List Entry) (e : Entry) (o : ℕ)
      → es ≡ earlier ++ e ∷ later → 0 < finals o earlier → uses o e ≡ 0
  pub ungained : (earlier later : List Entry) (e : Entry) (o : ℕ)
      → es ≡ earlier ++ e ∷ later → 0 < finals o earlier
      → gains o (flow_in s e.thread (After s earlier) e.action) ≡ 0
  pub left : (o : ℕ) → IsTrue (is_made (After s es).parts o)
      → (finals o es ≡ 0) ↔ (IsOwned (After s es) o ⊎ IsHeld (After s es) o)
