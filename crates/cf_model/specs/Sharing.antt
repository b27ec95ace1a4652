-- What one who answers for some threads needs to know of journals: which references are left to others, where objects
-- were made, what times the lead told, and that nothing is there without threads. This project's own.
use Rattle.std.specs.Prelude.{◌≡◌, ℕ, ◌+◌, ◌<◌, ◌↔◌, Bool, false, ◌&&◌, not, IsTrue, List, [], ◌∷◌, ◌++◌, filter, None, ◌==◌}
use Rattle.std.specs.List.{list_any}
use Rattle.cf_syntax.specs.declared.script.Script.{Script}
use Rattle.cf_graph.specs.declared.edge.Owner.{Owner}
use Rattle.cf_graph.specs.declared.edge.Owner.TheVariants.{Thread}
use Rattle.cf_graph.specs.Holders.{owner_of}
use Rattle.cf_graph.specs.Edges.{Reference, weigh, counted, held_with, degree}
use Rattle.cf_next.specs.declared.action.Action.{Action}
use Rattle.cf_next.specs.declared.action.Action.TheVariants as actions
use Rattle.cf_model.specs.declared.entry.Entry.{Entry}
use Rattle.cf_model.specs.State.{is_made}
use Rattle.cf_model.specs.Journals.{After, Next, lead}
use Rattle.cf_model.specs.Changes.{changes}
use Rattle.cf_model.specs.Coming.{next_retains}

-- the owner is a thread that is none of these
abbrev pub is_other_thread : List ℕ → Owner → Bool
is_other_thread ts (Thread u) = not (list_any (λ t. t == u) ts)
is_other_thread ts _ = false

-- the weight of an object: 1 for each reference that leads to it from a thread that is none of these
abbrev pub from_others : List ℕ → ℕ → Reference → ℕ
from_others ts o e = counted ((e.object == o) && is_other_thread ts (owner_of e.holder))

-- all references to an object are those that one who answers for some threads has in view, and those of other threads
abbrev pub AllInView : List ℕ → ℕ → List Reference → Type 0
AllInView ts o es = degree o es ≡ weigh (held_with ts o) es + weigh (from_others ts o) es

-- an object was made exactly if its changes are above 0
abbrev pub MadeWhereChanged : Script → List Entry → Type 0
MadeWhereChanged s es = (o : ℕ) → IsTrue (is_made (After s es).parts o) ↔ (0 < changes s o es)

-- the time of a tick
abbrev pub times_in : Action → List ℕ
times_in (actions.Tick time) = time ∷ []
times_in _ = []

-- the times of ticks, in order
abbrev pub tick_times : List Entry → List ℕ
tick_times [] = []
tick_times (e ∷ es) = times_in e.action ++ tick_times es

-- the entries of the lead
abbrev pub by_lead : List Entry → List Entry
by_lead es = filter (λ e. e.thread == lead) es

-- the times of ticks are read off the entries of the lead alone
abbrev pub TimesByLead : List Entry → Type 0
TimesByLead es = tick_times es ≡ tick_times (by_lead es)

-- no reference is there, and no thread does anything next
pub record IsEmpty (s : Script) (es : List Entry) : Type 0 where
  pub references : (After s es).edges ≡ []
  pub next : (t : ℕ) → Next s (After s es) t ≡ None
  pub retains : (t : ℕ) → next_retains s (After s es) t ≡ []
