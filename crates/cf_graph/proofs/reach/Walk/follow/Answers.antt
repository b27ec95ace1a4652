-- Answers to the goals of `reach::Walk::follow`.
use Rattle.std.proofs.Common.{◌≡◌, ℕ, ◌-◌, ◌<◌, ◌≤◌, List, length, get_or, sym, ◌∙◌, subst, arith}
use Rattle.std.proofs.lemmas.List.{get_or_read, length-map}
use Rattle.cf_graph.specs.declared.edge.Edge.{Edge}
use Rattle.cf_graph.specs.Walks.{source, sources, targets, IsLatest}
use Rattle.cf_graph.proofs.Closure.{targets-at}
use Rattle.cf_graph.proofs.Follows.{Marks, marks_from, grows-more}
use Rattle.cf_graph.proofs.reach.Walk.follow.Goals as goal

pub loop-next-preserved : goal.loop-next-preserved
loop-next-preserved c =
    let es : List Edge = c.args.edges.now in
    let k : ℕ = c.loop-next.next in
    let q : ℕ = c.place_of_object-to.result in
    let above : 0 < k = c.loop-next-test.true in
    let upto : k ≤ length es = c.loop-next.invariant.within in
    let within : k - 1 < length es = omega arith in
    let number : length c.args.links.now.before.items ≡ length es = c.requires.linked.number in
    let read : c.index-next-in-loop-next.result.now ≡ get_or c.args.links.now.before.items (k - 1) 0 =
    get_or_read c.args.links.now.before.items (k - 1) c.index-next-in-loop-next.result.now (omega arith)
    c.index-next-in-loop-next.ensures 0 in
    let Latest : ℕ → Type 0 = λ n. IsLatest (sources es) (get_or (sources es) (k - 1) 0) (k - 1) n in
    let From : ℕ → Type 0 = λ p. IsLatest (sources es) p (k - 1) c.index-next-in-loop-next.result.now in
    let here : get_or (sources es) (k - 1) 0 ≡ c.args.place = c.loop-next.invariant.here above in
    let below : IsLatest (sources es) c.args.place (k - 1) c.index-next-in-loop-next.result.now =
    subst From here (subst Latest (sym read) (c.requires.linked.links (k - 1) within)) in
    let to : get_or (targets es) (k - 1) 0 ≡ q =
    targets-at es (k - 1) c.index-edges-next.result within ∙ sym c.place_of_object-to.ensures.place in
    let size : length c.loop-next.self.marks.items ≡ length c.args.self.now.marks.items =
    c.loop-next.invariant.grows.size in
    let places : length c.args.self.now.marks.items ≡ 66562 = c.requires.marks in
    let fits : q < 66562 = c.place_of_object-to.ensures.within in
    let now : Marks q c.loop-next.self.marks.items c.mark.new.self.marks.items c.loop-next.self.stack.items
    c.mark.new.self.stack.items =
    marks_from q _ _ _ _ (omega arith) c.in_ok-mark.ensures.marks c.in_ok-mark.ensures.stack in
    let long : length (sources es) ≡ length es = length-map es (λ (e : Edge). source e.owner) in
    record {
      within = omega (arith, below.within);
      here = below.here;
      grows = grows-more _ _ c.args.place k _ q _ _ _ _ _ _ (omega arith) here above below to
          c.loop-next.invariant.grows now;
    }
