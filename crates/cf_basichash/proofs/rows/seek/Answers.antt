-- Answers to the goals of `rows::seek`.
use Rattle.std.proofs.Common.{◌≡◌, ℕ, ◌%◌, ◌<◌, length, get_or, ap, sym, rules, arith}
use Rattle.cf_basichash.proofs.PlacesLemmas.{passed_from, free_of, pass_on, pass_nearer}
use Rattle.cf_basichash.proofs.SeekLemmas.{Fails, fails_at, seek_found, seek_none, count_of_hashes}
use Rattle.cf_basichash.proofs.rows.seek.Goals as goal

pub loop-row-init : goal.loop-row-init
loop-row-init g c =
    passed_from c.args.index.now.places
    (Fails (g.C.Callbacks.same c.args.callbacks.now c.args.k.now) c.args.rows.now)
    (c.args.hash % length c.args.index.now.places) c.home-place.result c.home-place.ensures.within
    c.home-place.ensures.home

pub returns-then-has_key : goal.returns-then-has_key
returns-then-has_key g c =
    let count : length c.args.index.now.hashes ≡ length c.args.rows.now =
    count_of_hashes (g.C.Callbacks.hash_of c.args.callbacks.now) c.args.rows.now c.args.index.now.hashes
    c.requires.hashes in
    let below : c.in-Some.row < length c.args.rows.now = omega (arith, c.in-Some.ensures.below) in
    sym (seek_found (g.C.Callbacks.same c.args.callbacks.now) (g.met.C.Callbacks.equivalence c.args.callbacks.now)
    c.args.k.now c.args.rows.now c.in-Some.row c.has_key.result below c.requires.distinct c.has_key.ensures
    c.if-has_key.true)

pub loop-row-smaller : goal.loop-row-smaller
loop-row-smaller g c =
    let full : 0 < get_or c.args.index.now.places c.loop-row.place 0 = omega (arith, c.in-Some.ensures.some) in
    let fails : Fails (g.C.Callbacks.same c.args.callbacks.now c.args.k.now) c.args.rows.now
    (get_or c.args.index.now.places c.loop-row.place 0) =
    fails_at (g.C.Callbacks.same c.args.callbacks.now) c.args.k.now c.args.rows.now c.in-Some.row _ c.has_key.result
    c.in-Some.ensures.some c.has_key.ensures c.if-has_key.false in
    pass_nearer c.args.index.now.places
    (Fails (g.C.Callbacks.same c.args.callbacks.now c.args.k.now) c.args.rows.now)
    (c.args.hash % length c.args.index.now.places) c.loop-row.place c.after-place.result
    (free_of c.args.index.now.hashes c.args.index.now.places c.home-place.ensures.rule c.home-place.ensures.larger)
    c.loop-row.invariant full fails c.after-place.ensures

pub loop-row-preserved : goal.loop-row-preserved
loop-row-preserved g c =
    let full : 0 < get_or c.args.index.now.places c.loop-row.place 0 = omega (arith, c.in-Some.ensures.some) in
    let fails : Fails (g.C.Callbacks.same c.args.callbacks.now c.args.k.now) c.args.rows.now
    (get_or c.args.index.now.places c.loop-row.place 0) =
    fails_at (g.C.Callbacks.same c.args.callbacks.now) c.args.k.now c.args.rows.now c.in-Some.row _ c.has_key.result
    c.in-Some.ensures.some c.has_key.ensures c.if-has_key.false in
    pass_on c.args.index.now.places
    (Fails (g.C.Callbacks.same c.args.callbacks.now c.args.k.now) c.args.rows.now)
    (c.args.hash % length c.args.index.now.places) c.loop-row.place c.after-place.result
    (free_of c.args.index.now.hashes c.args.index.now.places c.home-place.ensures.rule c.home-place.ensures.larger)
    c.loop-row.invariant full fails c.after-place.ensures

pub returns : goal.returns
returns g c =
    let empty : get_or c.args.index.now.places c.loop-row.place 0 ≡ 0 =
    first_of (search rules, grind arith, omega (arith, c.in_default.ensures.none)) in
    sym (seek_none (g.C.Callbacks.same c.args.callbacks.now) (g.C.Callbacks.hash_of c.args.callbacks.now)
    (g.met.C.Callbacks.equal_hashes c.args.callbacks.now) c.args.k.now c.args.rows.now c.args.index.now.hashes
    c.args.index.now.places (c.args.hash % length c.args.index.now.places) c.loop-row.place c.requires.hashes
    c.home-place.ensures.rule (ap (λ (h : ℕ). h % length c.args.index.now.places) c.requires.hash)
    c.loop-row.invariant empty)
