-- What a legal entry does to what objects are as items of run loops, and that its words say the same.
use Rattle.std.proofs.Common.{◌≡◌, ℕ, zero, suc, ◌+◌, Bool, true, false, cond, ◌&&◌, ◌||◌, not, List, [], ◌∷◌, ◌++◌, length, length-append, Option, Some, None, eqb, ltb, refl, sym, ap, ◌∙◌, subst, inl, inr, arith}
use Rattle.std.specs.Prelude.{slice_get, is_some}
use Rattle.std.proofs.lemmas.Bool.Decides.{eqb_tells, nat_tests}
use Rattle.cf_syntax.specs.declared.script.Script.{Script}
use Rattle.cf_contents.specs.Items.{Item, source_item, timer_item}
use Rattle.cf_contents.specs.Contents.{Content, text_content, data_content, number_content, instance_content, array_content, dictionary_content, set_content, bag_content, heap_content, item_content, Object}
use Rattle.cf_contents.specs.Deeds.{Change, in_item, item_after, with_change}
use Rattle.cf_model.specs.declared.entry.Entry.{Entry}
use Rattle.cf_model.specs.State.{Parts, is_made}
use Rattle.cf_model.specs.Things.{Thing, thing_at, thing_in, thing_of, is_signalled_thing, is_valid_thing, date_of_thing}
use Rattle.cf_history.specs.History.{names, signals, calls, binds, makes_source, makes_item, invalidates}
use Rattle.cf_history.specs.Timing.{time_in, Timing, timing_by, or_timing, date_by}

abbrev pub timing_of_item : Item → Option Timing
timing_of_item (timer_item first interval date) = Some (record { first = first; interval = interval })
timing_of_item _ = None

abbrev pub timing_of_thing : Option Thing → Option Timing
timing_of_thing None = None
timing_of_thing (Some x) = timing_of_item x.item

abbrev pub is_source_item : Item → Bool
is_source_item (source_item order signalled) = true
is_source_item _ = false

abbrev pub is_source_thing : Option Thing → Bool
is_source_thing None = false
is_source_thing (Some x) = is_source_item x.item

-- what an entry says of an object is what happens to it between these parts
pub record Tells (s : Script) (i : ℕ) (e : Entry) (p q : Parts) : Type 0 where
  pub time : q.time ≡ time_in p.time e.action
  pub made : is_made q i ≡ (is_made p i || binds i e)
  pub some : is_some (thing_at q i) ≡ (is_some (thing_at p i) || makes_item i e)
  pub source : is_source_thing (thing_at q i) ≡ (is_source_thing (thing_at p i) || makes_source i e)
  pub signalled : is_signalled_thing (thing_at q i) ≡ (signals i e || (is_signalled_thing (thing_at p i) && not (calls i e)))
  pub valid : is_valid_thing (thing_at q i) ≡ ((is_valid_thing (thing_at p i) || makes_item i e) && not (invalidates i e))
  pub new : makes_item i e ≡ true → is_made p i ≡ false
  pub gone : invalidates i e ≡ true → is_made p i ≡ true
  pub called : calls i e ≡ true → thing_at p i ≡ None → ⊥
  pub timing : timing_of_thing (thing_at q i) ≡ or_timing (timing_of_thing (thing_at p i)) (timing_by s i e)
  pub date : (last : Option ℕ) → (thing_at p i ≡ None → last ≡ None)
      → date_of_thing (thing_at p i) ≡ date_by (timing_of_thing (thing_at p i)) last
      → date_of_thing (thing_at q i) ≡ date_by (timing_of_thing (thing_at q i)) (cond (calls i e) (Some p.time) last)

-- an entry that says nothing of an item
pub record Quiet (s : Script) (i : ℕ) (e : Entry) : Type 0 where
  pub signal : signals i e ≡ false
  pub call : calls i e ≡ false
  pub make : makes_item i e ≡ false
  pub source : makes_source i e ≡ false
  pub invalidation : invalidates i e ≡ false
  pub timing : timing_by s i e ≡ None

or_none : (b c : Bool) → c ≡ false → b ≡ (b || c)
or_none b c e = grind arith

or_signal : (b c d : Bool) → c ≡ false → d ≡ false → b ≡ (c || (b && not d))
or_signal b c d e f = grind arith

or_valid : (b c d : Bool) → c ≡ false → d ≡ false → b ≡ ((b || c) && not d)
or_valid b c d e f = grind arith

not_both : (b : Bool) → b ≡ false → b ≡ true → ⊥
not_both true e f = cc
not_both false e f = cc

timing_none : (t u : Option Timing) → u ≡ None → t ≡ or_timing t u
timing_none None u e = sym e
timing_none (Some x) u e = refl

pub quiet_tells : (s : Script) (i : ℕ) (e : Entry) (p q : Parts) → Quiet s i e → q.time ≡ time_in p.time e.action
    → is_made q i ≡ (is_made p i || binds i e)
    → thing_at q i ≡ thing_at p i → Tells s i e p q
quiet_tells s i e p q h time made same = record {
  time = time;
  made = made;
  some = ap is_some same ∙ or_none (is_some (thing_at p i)) (makes_item i e) h.make;
  source = ap is_source_thing same ∙ or_none (is_source_thing (thing_at p i)) (makes_source i e) h.source;
  signalled = ap is_signalled_thing same ∙ or_signal (is_signalled_thing (thing_at p i)) (signals i e) (calls i e) h.signal h.call;
  valid = ap is_valid_thing same ∙ or_valid (is_valid_thing (thing_at p i)) (makes_item i e) (invalidates i e) h.make h.invalidation;
  new = λ f. absurd (not_both (makes_item i e) h.make f);
  gone = λ f. absurd (not_both (invalidates i e) h.invalidation f);
  called = λ f. absurd (not_both (calls i e) h.call f);
  timing = ap timing_of_thing same ∙ timing_none (timing_of_thing (thing_at p i)) (timing_by s i e) h.timing;
  date = λ last none was.
      ap date_of_thing same ∙ was ∙ ap (λ (x : Option Thing). date_by (timing_of_thing x) last) (sym same)
      ∙ ap (λ (b : Bool). date_by (timing_of_thing (thing_at q i)) (cond b (Some p.time) last)) (sym h.call);
}

-- ---- objects and things

pub made_same : (p q : Parts) (i : ℕ) (b : Bool) → length q.objects ≡ length p.objects → b ≡ false
    → is_made q i ≡ (is_made p i || b)
made_same p q i b size e = ap (ltb i) size ∙ or_none (ltb i (length p.objects)) b e

pub names_none : (i : ℕ) (o : Option ℕ) → o ≡ None → names i o ≡ false
names_none i o e = ap (names i) e

pub thing_made : (objects : List Object) (i : ℕ) (x : Thing) → thing_of (slice_get objects i) ≡ Some x
    → ltb i (length objects) ≡ true
thing_made [] i x e = absurd cc
thing_made (ob ∷ obs) zero x e = less_suc (length obs)
  where
    less_suc : (n : ℕ) → ltb 0 (suc n) ≡ true
    less_suc n = grind (arith, nat_tests)
thing_made (ob ∷ obs) (suc i) x e = next i (length obs) (thing_made obs i x e)
  where
    next : (m n : ℕ) → ltb m n ≡ true → ltb (suc m) (suc n) ≡ true
    next m n h = grind (arith, nat_tests)

pub own_thing : (objects : List Object) (j : ℕ) (valid : Bool) (item : Item) (x : Thing)
    → thing_of (slice_get objects j) ≡ Some x
    → thing_of (slice_get (with_change j (in_item valid item) objects) j) ≡ Some (record { handler = x.handler; info = x.info; valid = valid; item = item })
own_thing [] j valid item x e = absurd cc
own_thing (ob ∷ obs) zero valid item x e = by ob.content e
  where
    by : (c : Content) → thing_in c ≡ Some x
        → thing_in (item_after valid item c) ≡ Some (record { handler = x.handler; info = x.info; valid = valid; item = item })
    by (item_content h info v it) e = let same : record { handler = h; info = info; valid = v; item = it } ≡ x = cc in ap (λ (z : Thing). Some (record { handler = z.handler; info = z.info; valid = valid; item = item })) same
    by (text_content m u) e = absurd cc
    by (data_content m u) e = absurd cc
    by (number_content n) e = absurd cc
    by (instance_content k f) e = absurd cc
    by (array_content p o) e = absurd cc
    by (dictionary_content p o) e = absurd cc
    by (set_content p o) e = absurd cc
    by (bag_content p o) e = absurd cc
    by (heap_content p a o) e = absurd cc
own_thing (ob ∷ obs) (suc j) valid item x e = own_thing obs j valid item x e

pub other_thing : (objects : List Object) (j i : ℕ) (change : Change) → (j ≡ i → ⊥)
    → thing_of (slice_get (with_change j change objects) i) ≡ thing_of (slice_get objects i)
other_thing [] j i change h = refl
other_thing (ob ∷ obs) zero zero change h = absurd (h refl)
other_thing (ob ∷ obs) zero (suc i) change h = refl
other_thing (ob ∷ obs) (suc j) zero change h = refl
other_thing (ob ∷ obs) (suc j) (suc i) change h = other_thing obs j i change (λ e. h (ap suc e))

-- one object more
pub thing_more : (objects : List Object) (ob : Object) (i : ℕ) → (length objects ≡ i → ⊥)
    → thing_of (slice_get (objects ++ ob ∷ []) i) ≡ thing_of (slice_get objects i)
thing_more [] ob zero h = absurd (h refl)
thing_more [] ob (suc i) h = refl
thing_more (o ∷ os) ob zero h = refl
thing_more (o ∷ os) ob (suc i) h = thing_more os ob i (λ e. h (ap suc e))

pub thing_new : (objects : List Object) (ob : Object)
    → thing_of (slice_get (objects ++ ob ∷ []) (length objects)) ≡ thing_in ob.content
thing_new [] ob = refl
thing_new (o ∷ os) ob = thing_new os ob

pub thing_past : (objects : List Object) → thing_of (slice_get objects (length objects)) ≡ None
thing_past [] = refl
thing_past (o ∷ os) = thing_past os

pub thing_plain : (objects : List Object) (ob : Object) (i : ℕ) → thing_in ob.content ≡ None
    → thing_of (slice_get (objects ++ ob ∷ []) i) ≡ thing_of (slice_get objects i)
thing_plain objects ob i none = elim (eqb_tells (length objects) i) [
  | inl e ↦ subst (λ (j : ℕ). thing_of (slice_get (objects ++ ob ∷ []) j) ≡ thing_of (slice_get objects j)) e.1 (thing_new objects ob ∙ none ∙ sym (thing_past objects))
  | inr e ↦ thing_more objects ob i e.1
]

pub made_more : (objects : List Object) (ob : Object) (i : ℕ)
    → ltb i (length (objects ++ ob ∷ [])) ≡ (ltb i (length objects) || eqb (length objects) i)
made_more objects ob i = by (length objects) (length (objects ++ ob ∷ [])) (omega (arith, length-append objects (ob ∷ [])))
  where
    by : (m n : ℕ) → n ≡ m + 1 → ltb i n ≡ (ltb i m || eqb m i)
    by m n e = grind (arith, nat_tests)
