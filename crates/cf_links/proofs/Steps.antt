-- Lemmas on the single steps that change links.
use Rattle.std.proofs.Common.{◌≡◌, ◌≢◌, ℕ, Option, Some, None, sym, ◌∙◌}
use Rattle.cf_links.proofs.Turned.{turned_next}
use Rattle.cf_links.specs.Chain.{Web, next_from, prev_from, Leads, mirror, Joins, Marks, Clears, Puts, Removes}

-- the links backwards lead elsewhere, and those onwards stay
turned_nexts : (mid new : Web) (l : ℕ) (from to : Option ℕ) → Leads (mirror mid) (mirror new) l from to
    → (k : ℕ) (x : Option ℕ) → next_from new k x ≡ next_from mid k x
turned_nexts mid new l from to leads k None = leads.lasts k
turned_nexts mid new l from to leads k (Some n) = leads.prevs n

leads_prevs : (old mid : Web) (l : ℕ) (from to : Option ℕ) → Leads old mid l from to → (k : ℕ) (x : Option ℕ)
    → prev_from mid k x ≡ prev_from old k x
leads_prevs old mid l from to leads k None = leads.lasts k
leads_prevs old mid l from to leads k (Some n) = leads.prevs n

pub joins_from : (old mid new : Web) (l : ℕ) (from to : Option ℕ) → Leads old mid l from to
    → Leads (mirror mid) (mirror new) l to from → Joins old new l from to
joins_from old mid new l from to onwards backwards =
    record {
      joined = record {
        onwards = turned_nexts mid new l to from backwards l from ∙ onwards.set;
        backwards = sym (turned_next new l to) ∙ backwards.set;
      };
      nexts = λ x apart. turned_nexts mid new l to from backwards l x ∙ onwards.nexts x apart;
      prevs = λ x apart. sym (turned_next new l x) ∙ backwards.nexts x apart ∙ turned_next mid l x
          ∙ leads_prevs old mid l from to onwards l x;
      firsts = λ k apart. backwards.lasts k ∙ onwards.firsts k apart;
      lasts = λ k apart. backwards.firsts k apart ∙ onwards.lasts k;
      marks = λ n. backwards.marks n ∙ onwards.marks n;
    }

pub puts_from : (old a b new : Web) (l n : ℕ) (from to : Option ℕ) → Joins old a l from (Some n)
    → Joins a b l (Some n) to → Marks b new n (Some l) → from ≢ Some n → to ≢ Some n → Puts old new l n from to
puts_from old a b new l n from to first second marks before after =
    record {
      before = record {
        onwards = marks.nexts l from ∙ second.nexts from before ∙ first.joined.onwards;
        backwards = marks.prevs l (Some n) ∙ second.prevs (Some n) (λ e. after (sym e)) ∙ first.joined.backwards;
      };
      after = record {
        onwards = marks.nexts l (Some n) ∙ second.joined.onwards;
        backwards = marks.prevs l to ∙ second.joined.backwards;
      };
      mark = marks.set;
      nexts = λ x other apart. marks.nexts l x ∙ second.nexts x apart ∙ first.nexts x other;
      prevs = λ x other apart. marks.prevs l x ∙ second.prevs x other ∙ first.prevs x apart;
      marks = λ m apart. marks.marks m apart ∙ second.marks m ∙ first.marks m;
      firsts = λ k apart. marks.nexts k None ∙ second.firsts k apart ∙ first.firsts k apart;
      lasts = λ k apart. marks.prevs k None ∙ second.lasts k apart ∙ first.lasts k apart;
    }

pub removes_from : (old mid new : Web) (l n : ℕ) (from to : Option ℕ) → Joins old mid l from to → Clears mid new n
    → from ≢ Some n → to ≢ Some n → Removes old new l n from to
removes_from old mid new l n from to joins clears before after =
    record {
      closed = record {
        onwards = clears.nexts l from before ∙ joins.joined.onwards;
        backwards = clears.prevs l to after ∙ joins.joined.backwards;
      };
      mark = clears.mark;
      next = clears.next;
      prev = clears.prev;
      nexts = λ x other apart. clears.nexts l x apart ∙ joins.nexts x other;
      prevs = λ x other apart. clears.prevs l x apart ∙ joins.prevs x other;
      marks = λ m apart. clears.marks m apart ∙ joins.marks m;
      firsts = λ k apart. clears.nexts k None (λ e. absurd (cc)) ∙ joins.firsts k apart;
      lasts = λ k apart. clears.prevs k None (λ e. absurd (cc)) ∙ joins.lasts k apart;
    }
