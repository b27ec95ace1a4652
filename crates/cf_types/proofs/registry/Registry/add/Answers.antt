-- Answers to the goals of `registry::Registry::add`.
use Rattle.std.proofs.Common.{◌≡◌, ◌∙◌, arith}
use Rattle.std.specs.String.{string_eq}
use Rattle.indexmap.specs.IndexMap.{insert_entry}
use Rattle.cf_types.specs.declared.classes.Class.{Class}
use Rattle.cf_types.proofs.Names.{HasLast, put_last}
use Rattle.cf_types.proofs.registry.Registry.add.Goals as goal

-- what is beside the list after the insert
last : (c : goal.Joined-branch-4)
    → HasLast c.insert.new.self.entries c.args.self.now (record { name = c.args.name.now; fields = c.args.fields; equality = c.args.equality })
last c =
    let name : c.from_vec-name.result ≡ c.args.name.now = c.from_vec-name.ensures ∙ c.in_ok-from_slice.ensures.items ∙ c.as_bytes.ensures.value in
    let class : Class = record { name = c.args.name.now; fields = c.args.fields; equality = c.args.equality } in
    put_last c.self.inside.classes c.insert.new.self.entries c.args.self.now c.in_ok-key.key class c.self.invariant.1 c.self.view_is c.in_ok-key.ensures.ok c.requires.free (c.in_ok-insert.ensures.entries ∙ (λ i. insert_entry string_eq c.self.inside.classes.entries c.in_ok-key.key (record { name = name i; fields = c.args.fields; equality = c.args.equality })))

pub invariant_of-self-2 : goal.invariant_of-self-2
invariant_of-self-2 c = (omega (arith, (last c).count, c.requires.room), (last c).named)

pub returns-clause-ok : goal.returns-clause-ok
returns-clause-ok c = (last c).list
