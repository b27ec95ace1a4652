-- Answers to the goals of `centre::Centre::take_out`.
use Rattle.std.proofs.Common.{◌∙◌, None, ap, sym, refl, arith}
use Rattle.std.proofs.lemmas.List.{length-set}
use Rattle.cf_notify.specs.Links.{Marks}
use Rattle.cf_notify.specs.Registered.{name_mark, observer_mark}
use Rattle.cf_notify.proofs.Numbers.{there_less, map_without, there_at}
use Rattle.cf_notify.proofs.centre.Centre.take_out.Goals as goal

pub overflow_sub-self : goal.overflow_sub-self
overflow_sub-self c =
    let there = there_at c.self.inside.made.items c.args.k (rw (← c.self.view_is) at c.requires) in
    omega (arith, there_less c.self.inside.made.items c.args.k there, c.self.invariant.counted)

pub invariant_of-self : goal.invariant_of-self
invariant_of-self c =
    let there = there_at c.self.inside.made.items c.args.k (rw (← c.self.view_is) at c.requires) in
    record {
      named = ap {A = Marks} (λ m. m.marks) c.remove.ensures ∙ (rw c.self.invariant.named
          (sym (map_without name_mark c.self.inside.made.items c.args.k refl)));
      observed = ap {A = Marks} (λ m. m.marks) c.remove-2.ensures ∙ (rw c.self.invariant.observed
          (sym (map_without observer_mark c.self.inside.made.items c.args.k refl)));
      counted = omega (arith, there_less c.self.inside.made.items c.args.k there, c.self.invariant.counted);
      len = length-set c.self.inside.made.items c.args.k None ∙ c.self.invariant.len;
      within = c.self.invariant.within;
      made_fit = c.self.invariant.made_fit;
      names_fit = rw c.remove.ensures (omega (
        arith,
        length-set c.self.inside.names.marks c.args.k None,
        c.self.invariant.names_fit,
      ));
      observers_fit = rw c.remove-2.ensures (omega (
        arith,
        length-set c.self.inside.observers.marks c.args.k None,
        c.self.invariant.observers_fit,
      ));
      name_lists = rw c.remove.ensures c.self.invariant.name_lists;
      observer_lists = rw c.remove-2.ensures c.self.invariant.observer_lists;
      names_whole = rw c.remove.ensures c.self.invariant.names_whole;
      observers_whole = rw c.remove-2.ensures c.self.invariant.observers_whole;
    }
