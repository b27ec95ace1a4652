-- Answers to the goals of `links::Links::first`.
use Rattle.std.proofs.Common.{◌≡◌, Some, length, ap, refl}
use Rattle.std.specs.List.{slice_get}
use Rattle.std.proofs.lemmas.Option.{slice_get_read}
use Rattle.cf_links.proofs.FieldLemmas.{valid_seen, first_seen}
use Rattle.cf_links.proofs.links.Links.first.Goals as goal

pub returns-clause-valid : goal.returns-clause-valid
returns-clause-valid g c =
    valid_seen c.self.inside.nodes c.self.inside.ends.items _ c.self.invariant (ap (λ s. s.lists) c.self.view_is)
    (ap (λ s. s.values) c.self.view_is)

pub returns-in_err-get-clause-valid : goal.returns-in_err-get-clause-valid
returns-in_err-get-clause-valid g c =
    valid_seen c.self.inside.nodes c.self.inside.ends.items _ c.self.invariant (ap (λ s. s.lists) c.self.view_is)
    (ap (λ s. s.values) c.self.view_is)

pub returns-clause-node : goal.returns-clause-node
returns-clause-node g c =
    let here : c.l.inside.0 ≡ c.args.l = c.l.view_is in
    let item = c.in_ok-get.ensures.lookup in
    let found : slice_get c.self.inside.ends.items c.args.l ≡ Some c.in_ok-get.field-0.now =
    slice_get_read c.self.inside.ends.items (length c.self.inside.ends.items) c.args.l c.in_ok-get.field-0.now refl
    (rw (here, c.deref.ensures.value) at (item.3.0)) (rw (here, c.deref.ensures.value) at (item.1))
    in
    rw (← c.self.view_is) (first_seen c.self.inside.nodes c.self.inside.ends.items c.args.l
    (Some c.in_ok-get.field-0.now) c.self.invariant found)
