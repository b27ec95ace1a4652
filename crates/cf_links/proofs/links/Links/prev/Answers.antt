-- Answers to the goals of `links::Links::prev`.
use Rattle.std.proofs.Common.{ap}
use Rattle.cf_links.proofs.FieldLemmas.{valid_seen}
use Rattle.cf_links.proofs.links.Links.prev.Goals as goal

pub returns-clause-valid : goal.returns-clause-valid
returns-clause-valid g c =
    valid_seen c.self.inside.nodes c.self.inside.ends.items _ c.self.invariant (ap (λ s. s.lists) c.self.view_is)
    (ap (λ s. s.values) c.self.view_is)

pub returns-in_err-get-clause-valid : goal.returns-in_err-get-clause-valid
returns-in_err-get-clause-valid g c =
    valid_seen c.self.inside.nodes c.self.inside.ends.items _ c.self.invariant (ap (λ s. s.lists) c.self.view_is)
    (ap (λ s. s.values) c.self.view_is)
