-- Answers to the goals of `leading::wake`.
use Rattle.std.proofs.Common.{◌∙◌, ap, arith, rules}
use Rattle.cf_model.specs.Journals.{tick_flags}
use Rattle.std.proofs.lemmas.List.{length-map}
use Rattle.cf_world.specs.Grounds.{flags_of}
use Rattle.cf_world.proofs.Waking.{changed_more, changed_all}
use Rattle.cf_world.proofs.leading.wake.Goals as goal

pub loop-t-preserved : goal.loop-t-preserved
loop-t-preserved c = record {
  items = changed_more flags_of (tick_flags c.args.time) c.loop-t.t _ _ _ _ (omega arith) c.loop-t.invariant.items (c.after_tick.ensures ∙ ap (λ f. tick_flags c.args.time (flags_of f)) c.index.ensures);
  len = search rules;
}

pub returns : goal.returns
returns c =
    c.loop-t.invariant.items
    ∙ changed_all flags_of (tick_flags c.args.time) c.loop-t.t _ (omega (arith, length-map c.args.flags.now.items flags_of))
