-- Answers to the goals of `rows::Rows::row`.
use Rattle.std.proofs.Common.{◌∷◌, reverse, arith}
use Rattle.std.proofs.lemmas.List.{length-reverse}
use Rattle.cf_next.proofs.DepthLaws.{row-cut, rows-count}
use Rattle.cf_next.proofs.rows.Rows.row.Goals as goal

pub overflow_add-depth : goal.overflow_add-depth
overflow_add-depth g c =
    let r = c.self.inside in
    let lt = rw (← c.self.view_is) at c.requires in
    omega (arith, lt, rows-count (r.start ∷ reverse r.below.items) r.cells.items, length-reverse r.below.items, r.below.ok.0, r.below.small)

pub offset_bounds-deref-start : goal.offset_bounds-deref-start
offset_bounds-deref-start g c =
    let r = c.self.inside in
    let cut =
    row-cut r.start r.below.items c.as_slice-below.result.now r.cells.items c.deref.result.now c.args.depth c.len-count.result c.start_at-start.result c.start_at-end.result c.self.invariant (rw (← c.self.view_is) at c.requires)
    c.as_slice-below.ensures.value (omega (arith, c.len-count.ensures, r.cells.ok.0)) c.deref.ensures.value c.start_at-start.ensures c.start_at-end.ensures in
    omega (arith, cut.ordered, cut.within)

pub slice_bounds-result-count : goal.slice_bounds-result-count
slice_bounds-result-count g c =
    let r = c.self.inside in
    let cut =
    row-cut r.start r.below.items c.as_slice-below.result.now r.cells.items c.deref.result.now c.args.depth c.len-count.result c.start_at-start.result c.start_at-end.result c.self.invariant (rw (← c.self.view_is) at c.requires)
    c.as_slice-below.ensures.value (omega (arith, c.len-count.ensures, r.cells.ok.0)) c.deref.ensures.value c.start_at-start.ensures c.start_at-end.ensures in
    cut.ordered

pub slice_bounds-result-start : goal.slice_bounds-result-start
slice_bounds-result-start g c =
    let r = c.self.inside in
    let cut =
    row-cut r.start r.below.items c.as_slice-below.result.now r.cells.items c.deref.result.now c.args.depth c.len-count.result c.start_at-start.result c.start_at-end.result c.self.invariant (rw (← c.self.view_is) at c.requires)
    c.as_slice-below.ensures.value (omega (arith, c.len-count.ensures, r.cells.ok.0)) c.deref.ensures.value c.start_at-start.ensures c.start_at-end.ensures in
    cut.ordered

pub slice_bounds-result-end : goal.slice_bounds-result-end
slice_bounds-result-end g c =
    let r = c.self.inside in
    let cut =
    row-cut r.start r.below.items c.as_slice-below.result.now r.cells.items c.deref.result.now c.args.depth c.len-count.result c.start_at-start.result c.start_at-end.result c.self.invariant (rw (← c.self.view_is) at c.requires)
    c.as_slice-below.ensures.value (omega (arith, c.len-count.ensures, r.cells.ok.0)) c.deref.ensures.value c.start_at-start.ensures c.start_at-end.ensures in
    cut.within

pub returns : goal.returns
returns g c =
    let r = c.self.inside in
    let cut =
    row-cut r.start r.below.items c.as_slice-below.result.now r.cells.items c.deref.result.now c.args.depth c.len-count.result c.start_at-start.result c.start_at-end.result c.self.invariant (rw (← c.self.view_is) at c.requires)
    c.as_slice-below.ensures.value (omega (arith, c.len-count.ensures, r.cells.ok.0)) c.deref.ensures.value c.start_at-start.ensures c.start_at-end.ensures in
    rw (← c.self.view_is) cut.row
