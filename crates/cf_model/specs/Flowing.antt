-- What an entry does to references, for one who answers for some threads alone. This project's own.
use Rattle.std.specs.Prelude.{◌≡◌, ℕ, ◌+◌, ◌<◌, ◌≤◌, ◌⊎◌, List, [], ◌∷◌, ◌++◌, length, Option, Some, None, IsTrue, ◌==◌}
use Rattle.std.specs.List.{list_any}
use Rattle.cf_ids.specs.declared.limits.TheConstants.{MODES}
use Rattle.cf_syntax.specs.declared.script.Script.{Script}
use Rattle.cf_graph.specs.Edges.{weigh, held_with}
use Rattle.cf_graph.specs.Flows.{Flow, still, gains, cuts}
use Rattle.cf_next.specs.declared.action.Action.{Action}
use Rattle.cf_next.specs.declared.action.Action.TheVariants as actions
use Rattle.cf_next.specs.Demands.{Demand}
use Rattle.cf_model.specs.declared.entry.Entry.{Entry}
use Rattle.cf_model.specs.State.{State, times}
use Rattle.cf_model.specs.Steps.{step_of, frames_at, demanded}
use Rattle.cf_model.specs.Journals.{after_action, After}
use Rattle.cf_model.specs.Changes.{most_gained, changes}

-- the flow of what a thread demands, if it demands something
abbrev pub flow_if : Script → ℕ → State → Option Demand → Flow
flow_if s t st None = still
flow_if s t st (Some d) = (step_of s t st (frames_at t st) d).flow

-- the flow of an action of a thread; ticks and stalls have none
abbrev pub flow_in : Script → ℕ → State → Action → Flow
flow_in s t st (actions.Tick time) = still
flow_in s t st actions.Stall = still
flow_in s t st a = flow_if s t st (demanded s st t)

-- the references to an object but those from threads that are none of these: after an entry of one of these they are
-- those before it, with what the entry adds and without what it takes away
abbrev pub HeldChanges : Script → List Entry → Entry → List ℕ → Type 0
HeldChanges s journal e ts =
    let st = After s journal in
    let flow = flow_in s e.thread st e.action in
    (o : ℕ) → IsTrue (list_any (λ t. t == e.thread) ts)
    → weigh (held_with ts o) (after_action s e.thread st e.action).edges + cuts o flow
    ≡ weigh (held_with ts o) st.edges + gains o flow

-- what an entry adds references to is live, or it is the next object, which the entry makes
abbrev pub GainsFit : Script → List Entry → Entry → Type 0
GainsFit s journal e =
    let st = After s journal in
    (o : ℕ) → 0 < gains o (flow_in s e.thread st e.action)
    → ((times o st.parts.finalised ≡ 0) × (o < length st.parts.objects)) ⊎ (o ≡ length st.parts.objects)

-- the changes of an object grow by the references to it that an entry adds and by the one that it takes away
abbrev pub ChangesGrow : Script → List Entry → Entry → Type 0
ChangesGrow s journal e =
    let flow = flow_in s e.thread (After s journal) e.action in
    (o : ℕ) → changes s o (journal ++ e ∷ []) ≡ changes s o journal + (gains o flow + cuts o flow)

-- an entry of a script with at most 1,024 modes adds no more references to one object than one for each mode and one
-- for the common items
abbrev pub GainsFew : Script → List Entry → Entry → Type 0
GainsFew s journal e =
    (o : ℕ) → length s.modes ≤ MODES → gains o (flow_in s e.thread (After s journal) e.action) ≤ most_gained
