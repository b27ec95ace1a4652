-- Answers to the goals of `centre::Centre::reserve`.
use Rattle.std.proofs.Common.{◌∙◌, ℕ, List, Option, ap, length, arith}
use Rattle.std.proofs.lemmas.List.{length-map}
use Rattle.cf_ids.specs.declared.limits.TheConstants.{OBJECT_NUMBERS}
use Rattle.cf_notify.specs.Registered.{name_mark, observer_mark}
use Rattle.cf_notify.proofs.Numbers.{whole_after, made_after}
use Rattle.cf_notify.proofs.centre.Centre.reserve.Goals as goal

pub invariant_of-self-in_err-hold-2 : goal.invariant_of-self-in_err-hold-2
invariant_of-self-in_err-hold-2 c =
    record {
      named = c.in_ok-hold.ensures.marks ∙ c.self.invariant.named;
      observed = c.hold-2.ensures.marks ∙ c.self.invariant.observed;
      counted = c.self.invariant.counted;
      len = c.self.invariant.len;
      within = c.self.invariant.within;
      made_fit = c.self.invariant.made_fit;
      names_fit = omega (
        arith,
        ap {A = List (Option ℕ)} length c.in_ok-hold.ensures.marks,
        c.in_ok-hold.ensures.kept,
        c.self.invariant.names_fit,
      );
      observers_fit = omega (
        arith,
        ap {A = List (Option ℕ)} length c.hold-2.ensures.marks,
        c.hold-2.ensures.kept,
        c.self.invariant.observers_fit,
      );
      name_lists = λ h. omega (arith, c.in_ok-hold.ensures.lists_kept, c.self.invariant.name_lists h);
      observer_lists = λ h. omega (arith, c.hold-2.ensures.lists_kept, c.self.invariant.observer_lists h);
      names_whole = whole_after c.self.inside.names.lists c.hold.new.self.lists 1025 c.in_ok-hold.ensures.whole
          c.self.invariant.names_whole;
      observers_whole = whole_after c.self.inside.observers.lists c.hold-2.new.self.lists OBJECT_NUMBERS c.hold-2.ensures.whole
          c.self.invariant.observers_whole;
    }

pub invariant_of-self : goal.invariant_of-self
invariant_of-self c =
    record {
      named = c.in_err-hold.ensures.marks ∙ c.self.invariant.named;
      observed = c.self.invariant.observed;
      counted = c.self.invariant.counted;
      len = c.self.invariant.len;
      within = c.self.invariant.within;
      made_fit = c.self.invariant.made_fit;
      names_fit = omega (
        arith,
        ap {A = List (Option ℕ)} length c.in_err-hold.ensures.marks,
        c.in_err-hold.ensures.kept,
        c.self.invariant.names_fit,
      );
      observers_fit = c.self.invariant.observers_fit;
      name_lists = λ h. omega (arith, c.in_err-hold.ensures.lists_kept, c.self.invariant.name_lists h);
      observer_lists = c.self.invariant.observer_lists;
      names_whole = whole_after c.self.inside.names.lists c.hold.new.self.lists 1025 c.in_err-hold.ensures.whole
          c.self.invariant.names_whole;
      observers_whole = c.self.invariant.observers_whole;
    }

pub invariant_of-self-2 : goal.invariant_of-self-2
invariant_of-self-2 c =
    record {
      named = rw c.in_ok-reserve.ensures.items (c.in_ok-hold.ensures.marks ∙ c.self.invariant.named);
      observed = rw c.in_ok-reserve.ensures.items (c.in_ok-hold-2.ensures.marks ∙ c.self.invariant.observed);
      counted = rw c.in_ok-reserve.ensures.items c.self.invariant.counted;
      len = omega (arith, ap length c.in_ok-reserve.ensures.items, c.in_ok-reserve.ensures.len, c.self.invariant.len);
      within = omega (arith, c.in_ok-reserve.ensures.len, c.self.invariant.within, c.in-Some.ensures);
      made_fit = omega (
        arith,
        c.in_ok-reserve.ensures.ok,
        c.in_ok-reserve.ensures.len,
        c.in-Some.ensures,
        c.len-used.ensures,
      );
      names_fit = omega (
        arith,
        ap {A = List (Option ℕ)} length c.in_ok-hold.ensures.marks,
        ap {A = List (Option ℕ)}
            length c.self.invariant.named,
        length-map c.self.inside.made.items name_mark,
        c.in_ok-hold.ensures.room,
        c.self.invariant.len,
        c.len-used.ensures,
        c.in-Some.ensures,
      );
      observers_fit = omega (
        arith,
        ap {A = List (Option ℕ)} length c.in_ok-hold-2.ensures.marks,
        ap
            {A = List (Option ℕ)} length c.self.invariant.observed,
        length-map c.self.inside.made.items observer_mark,
        c.in_ok-hold-2.ensures.room,
        c.self.invariant.len,
        c.len-used.ensures,
        c.in-Some.ensures,
      );
      name_lists = λ _. made_after c.self.inside.names.lists c.hold.new.self.lists 1025 (omega arith)
          c.in_ok-hold.ensures.lists;
      observer_lists = λ _. made_after c.self.inside.observers.lists c.hold-2.new.self.lists OBJECT_NUMBERS (omega arith)
          c.in_ok-hold-2.ensures.lists;
      names_whole = whole_after c.self.inside.names.lists c.hold.new.self.lists 1025 c.in_ok-hold.ensures.whole
          c.self.invariant.names_whole;
      observers_whole = whole_after c.self.inside.observers.lists c.hold-2.new.self.lists OBJECT_NUMBERS
          c.in_ok-hold-2.ensures.whole c.self.invariant.observers_whole;
    }
