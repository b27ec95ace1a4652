-- Answers to the goals of `counts::start_all`.
use Rattle.std.proofs.Common.{◌∙◌, ap, arith, rules}
use Rattle.std.proofs.lemmas.List.{length-map}
use Rattle.cf_world.specs.Grounds.{flags_of}
use Rattle.cf_world.proofs.Waking.{changed_more, changed_all}
use Rattle.cf_world.proofs.Counting.{started}
use Rattle.cf_world.proofs.counts.start_all.Goals as goal

pub loop-t-preserved : goal.loop-t-preserved
loop-t-preserved c = record {
  items = changed_more flags_of started c.loop-t.t _ _ _ _ (omega arith) c.loop-t.invariant.items (ap (λ f. started (flags_of f)) c.index_mut.ensures.value);
  len = search rules;
}

pub returns : goal.returns
returns c =
    c.loop-t.invariant.items
    ∙ changed_all flags_of started c.loop-t.t _ (omega (arith, length-map c.args.flags.now.items flags_of))
