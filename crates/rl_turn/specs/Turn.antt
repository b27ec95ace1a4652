-- The turn of a run loop: which phase comes after which, and what the test at a turn's end gives. The phases and the
-- results are those of the Run Loops guide, their order is that of CFRunLoop.c in outline; where the two tables here
-- say more or something else, that is this project's own.
use Rattle.std.specs.Prelude.{ℕ, Bool, true, false, ◌&&◌, ◌||◌, ◌==◌, List, [], ◌∷◌, Option, is_some, IsTrue, find, if◌then◌else◌}
use Rattle.std.specs.List.{list_any}
use Rattle.std.specs.Option.{option_map}
use Rattle.rl_turn.specs.declared.phases.Phase.{Phase}
use Rattle.rl_turn.specs.declared.phases.Phase.TheVariants.{Note, Sources, Sleep, Timers, Test, Ran}
use Rattle.rl_turn.specs.declared.phases.TurnFacts.{TurnFacts}

-- ---- the test

-- what a run can end with, and whether that applies
pub record Outcome : Type 0 where
  pub number : ℕ
  pub applies : TurnFacts → Bool

-- the outcomes, in the order in which they are tried: HandledSource, TimedOut, Stopped, Finished
abbrev pub outcomes : List Outcome
outcomes =
    record { number = 4; applies = λ f. f.handled && f.once }
    ∷ record { number = 3; applies = λ f. f.past }
    ∷ record { number = 2; applies = λ f. f.stopped }
    ∷ record { number = 1; applies = λ f. f.empty }
    ∷ []

-- the result of a test: the first outcome that applies. Where none does, the run goes on with another turn
abbrev pub result_of : TurnFacts → Option ℕ
result_of f = option_map (λ o. o.number) (find (λ o. o.applies f) outcomes)

-- ---- the phases

-- a phase, and the one that comes next
pub record Row : Type 0 where
  pub phase : Phase
  pub next : TurnFacts → Phase

-- a row whose next phase is always the same
abbrev pub row : Phase → Phase → Row
row phase next = record { phase = phase; next = λ _. next }

-- a row with two next phases: the first if the test says so
abbrev pub fork : Phase → (TurnFacts → Bool) → Phase → Phase → Row
fork phase test first second = record { phase = phase; next = λ f. if test f then first else second }

-- the table. A note has its activity: Entry 1, BeforeTimers 2, BeforeSources 4, BeforeWaiting 32, AfterWaiting 64,
-- Exit 128. `Ran` ends the run and has no row
abbrev pub rows : List Row
rows =
    row (Note 1) (Note 2)
    ∷ row (Note 2) (Note 4)
    ∷ row (Note 4) Sources
    ∷ fork Sources (λ f. f.handled || f.past) Timers (Note 32)
    ∷ row (Note 32) Sleep
    ∷ row Sleep (Note 64)
    ∷ row (Note 64) Timers
    ∷ row Timers Test
    ∷ fork Test (λ f. is_some (result_of f)) (Note 128) (Note 2)
    ∷ row (Note 128) Ran
    ∷ []

-- whether two phases are the same
abbrev pub same_phase : Phase → Phase → Bool
same_phase (Note a) (Note b) = a == b
same_phase Sources Sources = true
same_phase Sleep Sleep = true
same_phase Timers Timers = true
same_phase Test Test = true
same_phase Ran Ran = true
same_phase _ _ = false

-- the phase has a row in the table
abbrev pub HasRow : Phase → Type 0
HasRow p = IsTrue (list_any (λ r. same_phase p r.phase) rows)

-- the phase after this one, if it has a row
abbrev pub next_of : TurnFacts → Phase → Option Phase
next_of f p = option_map (λ r. r.next f) (find (λ r. same_phase p r.phase) rows)
