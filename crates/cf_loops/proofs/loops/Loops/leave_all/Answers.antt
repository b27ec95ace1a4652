use Rattle.std.proofs.Common.{◌≡◌, ◌<◌, ℕ, arith, length}
use Rattle.cf_model.specs.State.{State}
use Rattle.cf_syntax.specs.declared.script.Script.{Script}
use Rattle.cf_model.specs.Deals.{every_place, leaving}
use Rattle.cf_model.specs.Own.{present_of}
use Rattle.cf_loops.specs.Following.{AreLoops, AfterDeal}
use Rattle.cf_loops.proofs.Invalidating.{all_left, all_invalidated}
use Rattle.cf_loops.proofs.Summing.{left_none, left_more, left_by_all}
use Rattle.cf_loops.proofs.loops.Loops.leave_all.Goals as goal

pub loop-t-init : goal.loop-t-init
loop-t-init c = left_none c.args.i c.self.inside.loops.items

pub loop-t-preserved : goal.loop-t-preserved
loop-t-preserved c =
    let before = c.self.inside.loops in
    let now = c.loop-t.self-inside.loops in
    let within : c.loop-t.t < length now.items = omega (arith, before.ok.0, c.loop-t.invariant.count) in
    left_more c.args.i c.loop-t.t before.items now.items c.index_mut.result.now c.leave_places.new.modes
    c.loop-t.invariant within c.index_mut.ensures.value c.leave_places.ensures

pub returns : goal.returns
returns c =
    let before = c.self.inside.loops in
    let now = c.loop-t.self-inside.loops in
    let all : c.loop-t.t ≡ length before.items = omega (arith, before.ok.0, c.loop-t.auto.t-end) in
    let left : (s : Script) (st : State) → AreLoops s st.parts st.edges c.args.self.now → (by : ℕ)
    → AfterDeal s st by (leaving st.parts (present_of (every_place s c.args.i st.edges) st.edges)) now.items =
    λ s st h by. all_left s st c.args.self.now c.args.i h by now.items
    (left_by_all c.args.i c.loop-t.t c.args.self.now before.items now.items c.self.view_is all c.loop-t.invariant) in
    record {
      left = left;
      invalidated = λ s st h by x is valid. all_invalidated s st by c.args.i x now.items (left s st h by) is valid;
    }
