-- A run that is over.
use Rattle.std.proofs.Common.{◌≡◌, ℕ, false, List, Option, Some, None, sym, ◌∙◌, subst}
use Rattle.std.specs.Prelude.{IfOk, IfSome, Result, Ok, Err}
use Rattle.cf_syntax.specs.declared.script.Script.{Script}
use Rattle.cf_graph.specs.declared.edge.Edge.{Edge}
use Rattle.cf_model.specs.declared.entry.Entry.{Entry}
use Rattle.cf_model.specs.declared.ending.Ending.{Ending}
use Rattle.cf_model.specs.Journals.{After}
use Rattle.cf_model.specs.Serial.{IsSerial}
use Rattle.cf_model.proofs.Finality.{finals_fit}
use Rattle.cf_model.proofs.Held.{never_gained}
use Rattle.cf_history.specs.Clocks.{IsTimed}
use Rattle.cf_history.proofs.CalloutLaws.{callouts_fit}
use Rattle.cf_syntax.specs.Owned.{Owned}
use Rattle.cf_world.specs.Worlds.{WorldView, edges_by, edges_in}
use Rattle.cf_serial.specs.declared.run.Run.{Run}
use Rattle.cf_serial.specs.declared.run.Turn.{Turn}
use Rattle.cf_serial.specs.declared.run.Turn.TheVariants as turns
use Rattle.cf_serial.specs.Serial.{AreEdges, ClockFits, HasRun}
use Rattle.cf_serial.specs.Running.{EndsBy, Goes, IsRun, ending_of, goes_on}

ends_of : (r : Run) (turn : Turn) → Goes r turn → goes_on turn ≡ false
    → EndsBy r.world.script r.world.limit r.world.journal (ending_of turn)
ends_of r (turns.Over ending) h stop = h
ends_of r (turns.Acts t cut) h stop = absurd cc
ends_of r (turns.Ticks date) h stop = absurd cc
ends_of r turns.Stalls h stop = absurd cc

timed : (s : Script) (es : List Entry) (times now : Option (List ℕ)) → ClockFits s es times now
    → IfSome times (λ ts. IsTimed s ts es)
timed s es None now h = tt
timed s es (Some ts) now h = h.1

same_script : (s script : Script) → ◌≡◌ {A = Option Script} (Some s) (Some script) → s ≡ script
same_script s script e = cc

-- what the run has done
pub over : (r : Run) (s : Script) (limit : ℕ) (times now : Option (List ℕ)) (ending : Ending) (turn : Turn) → IsRun r
    → r.world.script ≡ Some s → r.world.limit ≡ limit → Goes r turn → goes_on turn ≡ false → ending ≡ ending_of turn
    → ClockFits s r.world.journal times now → HasRun s limit times ending r.world.journal
over r s limit times now ending turn run begun limit_is goes stop is clock =
    let es = r.world.journal in
    let same : run.script ≡ s = same_script run.script s (sym run.begun ∙ begun) in
    let ends : EndsBy (Some s) limit es ending = subst (λ (e : Ending). EndsBy (Some s) limit es e) (sym is) (subst (λ (n : ℕ). EndsBy (Some s) n es (ending_of turn)) limit_is (subst (λ (o : Option Script). EndsBy o r.world.limit es (ending_of turn)) begun (ends_of r turn goes stop))) in
    let serial : IsSerial s es = subst (λ (x : Script). IsSerial x es) same run.serial in
    record {
      owned = subst Owned same run.owned;
      serial = serial;
      ends = ends.0;
      stops = ends.1;
      timed = timed s es times now clock;
      callouts = callouts_fit s es serial.legal;
      finals = finals_fit s es serial.legal (never_gained s es serial.legal);
    }

-- the edges are those after its journal
pub edges_after : (w : WorldView) (s : Script) (edges : List Edge) → w.script ≡ Some s → AreEdges (edges_in w) edges
    → AreEdges (After s w.journal).edges edges
edges_after w s edges begun h = subst (λ (o : Option Script). AreEdges (edges_by o w.journal) edges) begun h

-- what holds of a result by two things that hold of it
pub both_ok : {A E : Type 0} (result : Result A E) (P Q R : A → Type 0) → ((x : A) → P x → Q x → R x) → IfOk result P
    → IfOk result Q → IfOk result R
both_ok (Ok x) P Q R f p q = f x p q
both_ok (Err e) P Q R f p q = tt

pub has_run : (s : Script) (limit : ℕ) (times : Option (List ℕ)) (ending told : Ending) (es journal : List Entry)
    → HasRun s limit times ending es → journal ≡ es → told ≡ ending → HasRun s limit times told journal
has_run s limit times ending told es journal h j e =
    subst (λ (x : Ending). HasRun s limit times x journal) (sym e) (subst (λ (xs : List Entry). HasRun s limit times ending xs) (sym j) h)
