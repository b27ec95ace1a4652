-- What is looked for in the innermost frame.
use Rattle.std.specs.Prelude.{ℕ, false, List}
use Rattle.cf_syntax.specs.declared.script.Script.{Script}
use Rattle.cf_syntax.specs.BlockLines.{BlockLine}
use Rattle.cf_next.specs.declared.parts.Work.{Work as CodeWork}
use Rattle.cf_next.specs.declared.step.Step.{Step}
use Rattle.cf_next.specs.Facts.{Facts}
use Rattle.cf_next.specs.Stands.{Kind, of_block, of_handler, of_run, Frame, Work, Stand}
use Rattle.cf_next.specs.Demands.{Demand, ends, returns, frame_lines, kind_demand}
use Rattle.cf_next.specs.Steps.{IsFound}
use Rattle.cf_next.specs.Views.{works_of}

-- the stand of a thread that is not done
abbrev pub stand_in : List Frame → List CodeWork → Stand
stand_in fs work = record { frames = fs; work = works_of work; is_done = false }

-- the lines of a frame, and what it demands where it has nothing to call
abbrev pub top_lines : Script → Frame → List BlockLine
top_lines s f = frame_lines s f.kind f.block

abbrev pub top_demand : Script → Facts → ℕ → Frame → Demand
top_demand s facts t f = kind_demand s facts t f.kind f.block f.number

-- the end of a block
abbrev pub end_demand : Kind → Demand
end_demand of_block = ends
end_demand (of_handler k) = returns
end_demand (of_run r) = ends

-- what was found beside a step, whatever work there is
abbrev pub IsFoundIn : Facts → ℕ → List Frame → Step → Type 0
IsFoundIn facts t fs x = (work : List Work) → IsFound facts t (record { frames = fs; work = work; is_done = false }) x
