-- What holds after every list of entries of an owned script, legal or not, since what an entry does is what its thread
-- demands. This project's own, after the ownership rule of the Memory Management guide.
use Rattle.std.specs.Prelude.{◌≡◌, ℕ, ◌<◌, List, [], ◌∷◌, length, Some, IsTrue}
use Rattle.cf_ids.specs.declared.limits.TheConstants.{OBJECTS}
use Rattle.cf_syntax.specs.declared.script.Script.{Script}
use Rattle.cf_syntax.specs.declared.statement.Statement.TheVariants.{Release}
use Rattle.cf_syntax.specs.BlockLines.{says}
use Rattle.cf_graph.specs.Holders.{variable}
use Rattle.cf_graph.specs.Edges.{held_by}
use Rattle.cf_graph.specs.Flows.{shrinks}
use Rattle.cf_next.specs.declared.action.Action.{Action}
use Rattle.cf_next.specs.Stands.{look, Stand}
use Rattle.cf_next.specs.Demands.{does}
use Rattle.cf_model.specs.declared.entry.Entry.{Entry}
use Rattle.cf_model.specs.Steps.{demanded, answer_if, frames_at, bindings_of, depth_of}
use Rattle.cf_model.specs.Journals.{After, Next, makes, action_uses, owners_of, MayUseAll, IsLegalEntry, HasGivenUp}
use Rattle.cf_model.specs.Flowing.{flow_if}

-- whatever a thread does next uses only what is live and at hand
abbrev pub UsesFit : Script → List Entry → Type 0
UsesFit s es =
    (t : ℕ) (a : Action) → Next s (After s es) t ≡ Some a → MayUseAll (After s es) t (owners_of a) (action_uses a)

-- the next action of a thread is a legal entry with the answer that the state gives, if it makes no object too many
abbrev pub NextIsLegal : Script → List Entry → Type 0
NextIsLegal s es =
    let st = After s es in
    (t : ℕ) (a : Action) → Next s st t ≡ Some a → (IsTrue (makes s st t) → length st.parts.objects < OBJECTS)
    → IsLegalEntry s st (record { thread = t; action = a; answer = answer_if s t st (demanded s st t) })

-- if a thread's next statement releases the object of a variable, the variable's reference is taken away
abbrev pub ReleaseIsOwn : Script → List Entry → Type 0
ReleaseIsOwn s es =
    let st = After s es in
    (t v o : ℕ) → demanded s st t ≡ Some (does (says (Release v))) → look v (bindings_of (frames_at t st)) ≡ Some o
    → flow_if s t st (demanded s st t) ≡ shrinks (held_by (variable t (depth_of (frames_at t st)) v) o)

-- no thread has work left
abbrev pub AllIdle : List Stand → Type 0
AllIdle [] = Unit {0}
AllIdle (s ∷ ss) = (s.work ≡ []) × AllIdle ss

-- if no thread has work left, each finalised body has given up its slots
abbrev pub GivesUp : Script → List Entry → Type 0
GivesUp s es = AllIdle (After s es).stands → HasGivenUp (After s es)
