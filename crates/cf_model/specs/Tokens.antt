-- What each holder holds by what a state says beside its references: a frame's variable what its lines gave it and did
-- not take, a callout its item, a thread what its work owes, a body what is left of its slots. Places of loops and
-- parcels hold what they hold. This project's own.
use Rattle.std.specs.Prelude.{◌≡◌, ℕ, ◌+◌, ◌-◌, List, [], ◌∷◌, length, take, Option, Some, None, ◌==◌, if◌then◌else◌}
use Rattle.cf_syntax.specs.declared.script.Script.{Script}
use Rattle.cf_syntax.specs.BlockLines.{BlockLine}
use Rattle.cf_syntax.specs.Owned.{given, released}
use Rattle.cf_graph.specs.Holders.{Holder, variable, callout, owed, parcel, slot, in_mode, in_common}
use Rattle.cf_graph.specs.Edges.{weigh, one, counted, held_by}
use Rattle.cf_contents.specs.Contents.{times}
use Rattle.cf_next.specs.Stands.{look, Frame, Work, release_of, spend_of, slots_of}
use Rattle.cf_next.specs.Demands.{frame_lines}
use Rattle.cf_next.specs.Advance.{kind_item}
use Rattle.cf_model.specs.State.{State, stand_at, left_of}

-- an object that is one
abbrev pub one_if : Option ℕ → ℕ → ℕ → ℕ
one_if None o n = 0
one_if (Some p) o n = if p == o then n else 0

-- the lines of a frame that are done
abbrev pub lines_done : Script → Frame → List BlockLine
lines_done c f = take f.number (frame_lines c f.kind f.block)

-- how many references to an object a variable of a frame has: what the lines done gave it less what they took
abbrev pub frame_holds : Script → Frame → ℕ → ℕ → ℕ
frame_holds c f v o = one_if (look v f.bindings) o (given v (lines_done c f) - released v (lines_done c f))

-- the same of the frame at a depth: as many are below it
abbrev pub frames_hold : Script → List Frame → ℕ → ℕ → ℕ → ℕ
frames_hold c [] d v o = 0
frames_hold c (f ∷ fs) d v o = if length fs == d then frame_holds c f v o else frames_hold c fs d v o

-- how many references to an object the callout of the frame at a depth has
abbrev pub callouts_hold : List Frame → ℕ → ℕ → ℕ
callouts_hold [] d o = 0
callouts_hold (f ∷ fs) d o = if length fs == d then one_if (kind_item f.kind) o 1 else callouts_hold fs d o

-- how often work owes the release of an object
abbrev pub owed_in : ℕ → List Work → ℕ
owed_in o [] = 0
owed_in o (release_of p ∷ work) = counted (p == o) + owed_in o work
owed_in o (spend_of i ∷ work) = owed_in o work
owed_in o (slots_of b k ∷ work) = owed_in o work

-- how many references to an object a holder has by what the state tells; places of parcels and loops have what they
-- have
abbrev pub tokens : Script → State → Holder → ℕ → ℕ
tokens c st (variable t d v) o = frames_hold c (stand_at t st.stands).frames d v o
tokens c st (callout t d) o = callouts_hold (stand_at t st.stands).frames d o
tokens c st (owed t) o = owed_in o (stand_at t st.stands).work
tokens c st (slot b) o = times o (left_of st.parts.objects st.parts.dropped b)
tokens c st (parcel t k) o = weigh (one (held_by (parcel t k) o)) st.edges
tokens c st (in_mode t m) o = weigh (one (held_by (in_mode t m) o)) st.edges
tokens c st (in_common t) o = weigh (one (held_by (in_common t) o)) st.edges

-- each holder holds what the state tells
abbrev pub HeldAsTold : Script → State → Type 0
HeldAsTold c st = (h : Holder) (o : ℕ) → weigh (one (held_by h o)) st.edges ≡ tokens c st h o
