-- What single steps say of items: a signal, the end of an item, a callout, and an item that is made.
use Rattle.std.proofs.Common.{◌≡◌, ℕ, ℤ, Bool, true, false, cond, ◌&&◌, ◌||◌, not, List, [], ◌∷◌, ◌++◌, length, Option, Some, None, eqb, ltb, refl, sym, ap, ◌∙◌, subst, inl, inr, arith}
use Rattle.std.specs.Prelude.{is_some}
use Rattle.std.proofs.lemmas.Bool.{eq-eqb}
use Rattle.std.proofs.lemmas.Bool.Decides.{eqb_tells, nat_tests}
use Rattle.cf_ids.specs.declared.answer.Answer.{Answer}
use Rattle.cf_ids.specs.declared.answer.Answer.TheVariants as answers
use Rattle.cf_syntax.specs.declared.script.Script.{Script}
use Rattle.cf_syntax.specs.Mentions.{first_of}
use Rattle.cf_contents.specs.Items.{Item, source_item, timer_item, observer_item, is_signalled_item, date_in}
use Rattle.cf_contents.specs.Contents.{Object, item_content}
use Rattle.cf_contents.specs.Deeds.{in_item}
use Rattle.cf_contents.proofs.ContentLaws.{length-with_change}
use Rattle.cf_next.specs.declared.action.Action.{Action}
use Rattle.cf_next.specs.declared.action.Action.TheVariants as actions
use Rattle.cf_model.specs.declared.entry.Entry.{Entry}
use Rattle.cf_model.specs.Finals.{bound_in}
use Rattle.cf_model.specs.State.{Parts, is_made}
use Rattle.cf_model.specs.Things.{Thing, thing_at, is_signalled_thing, is_valid_thing, date_of_thing}
use Rattle.cf_model.specs.Deals.{with_item}
use Rattle.cf_model.specs.Steps.{fired}
use Rattle.cf_history.specs.Written.{statement_of}
use Rattle.cf_history.specs.History.{names, is_ok, signalled_in, called_in, invalidated_in, is_source_form, is_item_form, signals, calls, binds, makes_source, makes_item, invalidates}
use Rattle.cf_history.specs.Timing.{time_in, Timing, timing_in, timing_if, timing_by, or_timing, date_by}
use Rattle.cf_history.proofs.ItemLaws.{timing_of_item, timing_of_thing, is_source_item, is_source_thing, Tells, Quiet, quiet_tells, made_same, own_thing, other_thing, thing_made, thing_more, thing_new, thing_past, made_more}

-- what an entry says of an item that there is, and that it leaves as another
pub record Turns (s : Script) (j : ℕ) (e : Entry) (now : ℕ) (x y : Thing) : Type 0 where
  pub make : makes_item j e ≡ false
  pub source : makes_source j e ≡ false
  pub written : timing_by s j e ≡ None
  pub is_source : is_source_item y.item ≡ is_source_item x.item
  pub timing : timing_of_item y.item ≡ timing_of_item x.item
  pub signalled : is_signalled_item y.item ≡ (signals j e || (is_signalled_item x.item && not (calls j e)))
  pub valid : y.valid ≡ (x.valid && not (invalidates j e))
  pub date : date_in y.item ≡ cond (calls j e) (date_by (timing_of_item x.item) (Some now)) (date_in x.item)

source_stays : (b c d : Bool) → c ≡ b → d ≡ false → c ≡ (b || d)
source_stays b c d e f = grind arith

valid_stays : (b c m v : Bool) → m ≡ false → c ≡ (b && not v) → c ≡ ((b || m) && not v)
valid_stays b c m v e f = grind arith

timing_stays : (t u w : Option Timing) → u ≡ t → w ≡ None → u ≡ or_timing t w
timing_stays None u w e f = e ∙ sym f
timing_stays (Some x) u w e f = e

no_and_yes : (b : Bool) → b ≡ false → b ≡ true → ⊥
no_and_yes true e f = cc
no_and_yes false e f = cc

none_is_some : (x : Thing) → ◌≡◌ {A = Option Thing} (Some x) None → ⊥
none_is_some x e = cc

pub turns_tell : (s : Script) (j : ℕ) (e : Entry) (p q : Parts) (x y : Thing) → Turns s j e p.time x y
    → q.time ≡ time_in p.time e.action → length q.objects ≡ length p.objects → binds j e ≡ false
    → thing_at p j ≡ Some x → thing_at q j ≡ Some y → Tells s j e p q
turns_tell s j e p q x y h time size unbound was is = record {
  time = time;
  made = made_same p q j (binds j e) size unbound;
  some = ap is_some is ∙ ap (λ (z : Option Thing). is_some z || makes_item j e) (sym was);
  source = ap is_source_thing is ∙ source_stays (is_source_item x.item) (is_source_item y.item) (makes_source j e) h.is_source h.source ∙ ap (λ (z : Option Thing). is_source_thing z || makes_source j e) (sym was);
  signalled = ap is_signalled_thing is ∙ h.signalled ∙ ap (λ (z : Option Thing). signals j e || (is_signalled_thing z && not (calls j e))) (sym was);
  valid = ap is_valid_thing is ∙ valid_stays x.valid y.valid (makes_item j e) (invalidates j e) h.make h.valid ∙ ap (λ (z : Option Thing). (is_valid_thing z || makes_item j e) && not (invalidates j e)) (sym was);
  new = λ f. absurd (no_and_yes (makes_item j e) h.make f);
  gone = λ f. thing_made p.objects j x was;
  called = λ f none. none_is_some x (sym was ∙ none);
  timing = ap timing_of_thing is ∙ timing_stays (timing_of_item x.item) (timing_of_item y.item) (timing_by s j e) h.timing h.written ∙ ap (λ (z : Option Thing). or_timing (timing_of_thing z) (timing_by s j e)) (sym was);
  date = λ last none before.
      ap date_of_thing is ∙ h.date
      ∙ by (calls j e) last (sym (ap date_of_thing was) ∙ before ∙ ap (λ (z : Option Thing). date_by (timing_of_thing z) last) was)
      ∙ ap (λ (z : Option Timing). date_by z (cond (calls j e) (Some p.time) last)) (sym h.timing)
      ∙ ap (λ (z : Option Thing). date_by (timing_of_thing z) (cond (calls j e) (Some p.time) last)) (sym is);
}
  where
    by : (b : Bool) (last : Option ℕ) → date_in x.item ≡ date_by (timing_of_item x.item) last
        → cond b (date_by (timing_of_item x.item) (Some p.time)) (date_in x.item) ≡ date_by (timing_of_item x.item) (cond b (Some p.time) last)
    by true last e = refl
    by false last e = e

-- ---- one item is changed, and others stay

abbrev pub event : ℕ → Action → Answer → Entry
event t a x = record { thread = t; action = a; answer = x }

other_name : (i j : ℕ) → (j ≡ i → ⊥) → eqb j i ≡ false
other_name i j h = elim (eqb_tells j i) [ inl e ↦ absurd (h e.1) | inr e ↦ e.0 ]

same_name : (j : ℕ) → eqb j j ≡ true
same_name j = eq-eqb j j refl

and_other : (b c : Bool) → b ≡ false → (b && c) ≡ false
and_other b c e = grind arith

-- the item of a number is changed by an entry that says so of it alone
pub one_tells : (s : Script) (i j : ℕ) (e : Entry) (p q : Parts) → ((j ≡ i → ⊥) → Quiet s i e)
    → q.time ≡ time_in p.time e.action → length q.objects ≡ length p.objects → binds i e ≡ false
    → ((j ≡ i → ⊥) → thing_at q i ≡ thing_at p i) → (j ≡ i → Tells s i e p q) → Tells s i e p q
one_tells s i j e p q quiet time size unbound other own = elim (eqb_tells j i) [
  | inl is ↦ own is.1
  | inr isnt ↦ quiet_tells s i e p q (quiet isnt.1) time (made_same p q i (binds i e) size unbound) (other isnt.1)
]

and_true : (b : Bool) → b ≡ true → (b && true) ≡ true
and_true b e = grind arith

and_second : (b c : Bool) → c ≡ false → (b && c) ≡ false
and_second b c e = grind arith

stays_lit : (b c d : Bool) → c ≡ false → d ≡ false → b ≡ (c || (b && not d))
stays_lit b c d e f = grind arith

darkens : (b c d : Bool) → c ≡ false → d ≡ true → false ≡ (c || (b && not d))
darkens b c d e f = grind arith

valid_as_was : (b c : Bool) → c ≡ false → b ≡ (b && not c)
valid_as_was b c e = grind arith

or_no_more : (b c : Bool) → c ≡ false → b ≡ (b || c)
or_no_more b c e = grind arith

never : (b m v : Bool) → b ≡ false → m ≡ false → b ≡ ((b || m) && not v)
never b m v e f = grind arith

first_true : (b c : Bool) → b ≡ true → true ≡ (b || c)
first_true b c e = grind arith

second_true : (b c : Bool) → c ≡ true → false ≡ (b && not c)
second_true b c e = grind arith

abbrev pub thing : ℕ → Option ℕ → Bool → Item → Thing
thing h info valid item = record { handler = h; info = info; valid = valid; item = item }

untimed : (b : Bool) (w : Option Timing) → w ≡ None → timing_if b w ≡ None
untimed b w e = ap (timing_if b) e

module _ (s : Script) (i t j : ℕ) (p : Parts) where
  changed_size : (valid : Bool) (item : Item) → length (with_item p j valid item).objects ≡ length p.objects
  changed_size valid item = length-with_change j (in_item valid item) p.objects

  changed_other : (valid : Bool) (item : Item) → (j ≡ i → ⊥) → thing_at (with_item p j valid item) i ≡ thing_at p i
  changed_other valid item h = other_thing p.objects j i (in_item valid item) h

  -- a signal that is accepted
  pub signal_tells : (b n : ℕ) (used : List (Option ℕ)) → first_of used ≡ Some j
      → timing_in (statement_of s (actions.Signal b n used)) ≡ None
      → (h : ℕ) (info : Option ℕ) (order : ℤ) (on : Bool) → thing_at p j ≡ Some (thing h info true (source_item order on))
      → Tells s i (event t (actions.Signal b n used) answers.Ok) p (with_item p j true (source_item order true))
  signal_tells b n used first plain h info order on was =
      let e = event t (actions.Signal b n used) answers.Ok in
      let q = with_item p j true (source_item order true) in
      one_tells s i j e p q
      (λ apart. record { signal = and_other (names i (first_of used)) true (ap (names i) first ∙ other_name i j apart); call = refl; make = refl; source = refl; invalidation = refl; timing = untimed false _ plain })
      refl (changed_size true (source_item order true)) refl (changed_other true (source_item order true))
      (λ same. subst (λ (k : ℕ). Tells s k e p q) same (turns_tell s j e p q (thing h info true (source_item order on)) (thing h info true (source_item order true))
      (record {
        make = refl;
        source = refl;
        written = untimed false _ plain;
        is_source = refl;
        timing = refl;
        signalled = first_true (signals j e) (on && not false) (and_true (names j (first_of used)) (ap (names j) first ∙ same_name j));
        valid = refl;
        date = refl;
      })
      refl (changed_size true (source_item order true)) refl was (own_thing p.objects j true (source_item order true) (thing h info true (source_item order on)) was)))

  -- an item is invalidated, by an action that says so
  abbrev Ends : Action → Type 0
  Ends a = (invalidated_in a ≡ Some j) × (signalled_in a ≡ None) × (called_in a ≡ None) × (is_item_form a ≡ false) × (is_source_form a ≡ false) × ((m : ℕ) → time_in m a ≡ m) × (timing_in (statement_of s a) ≡ None)

  ends_quiet : (a : Action) → Ends a → (j ≡ i → ⊥) → Quiet s i (event t a answers.Ok)
  ends_quiet a h apart = record {
    signal = and_other (names i (signalled_in a)) true (ap (names i) h.1);
    call = ap (names i) h.2;
    make = ap (λ (b : Bool). b && false) h.3;
    source = ap (λ (b : Bool). b && false) h.4;
    invalidation = and_other (names i (invalidated_in a)) true (ap (names i) h.0 ∙ other_name i j apart);
    timing = untimed false _ h.6;
  }

  ends_turns : (a : Action) (x y : Thing) → Ends a → y.valid ≡ false → y.item ≡ x.item
      → Turns s j (event t a answers.Ok) p.time x y
  ends_turns a x y h gone same = record {
    make = ap (λ (b : Bool). b && false) h.3;
    source = ap (λ (b : Bool). b && false) h.4;
    written = untimed false _ h.6;
    is_source = ap is_source_item same;
    timing = ap timing_of_item same;
    signalled = ap is_signalled_item same ∙ stays_lit (is_signalled_item x.item) (signals j (event t a answers.Ok)) (calls j (event t a answers.Ok)) (and_other (names j (signalled_in a)) true (ap (names j) h.1)) (ap (names j) h.2);
    valid = gone ∙ second_true x.valid (invalidates j (event t a answers.Ok)) (and_true (names j (invalidated_in a)) (ap (names j) h.0 ∙ same_name j));
    date = ap date_in same ∙ ap (λ (b : Bool). cond b (date_by (timing_of_item x.item) (Some p.time)) (date_in x.item)) (sym (ap (names j) h.2));
  }

  pub ends_tell : (a : Action) (x : Thing) → Ends a → thing_at p j ≡ Some x
      → Tells s i (event t a answers.Ok) p (with_item p j false x.item)
  ends_tell a x h was =
      let e = event t a answers.Ok in
      let q = with_item p j false x.item in
      let after : Thing = thing x.handler x.info false x.item in
      one_tells s i j e p q (ends_quiet a h) (sym (h.5 p.time)) (changed_size false x.item) refl (changed_other false x.item)
      (λ same. subst (λ (k : ℕ). Tells s k e p q) same
      (turns_tell s j e p q x after (ends_turns a x after h refl refl) (sym (h.5 p.time)) (changed_size false x.item) refl was (own_thing p.objects j false x.item x was)))

  -- an item that is not valid stays so
  pub stays_ended : (a : Action) (x : Thing) → Ends a → thing_at p j ≡ Some x → x.valid ≡ false
      → Tells s i (event t a answers.Ok) p p
  stays_ended a x h was invalid =
      let e = event t a answers.Ok in
      one_tells s i j e p p (ends_quiet a h) (sym (h.5 p.time)) refl refl (λ apart. refl)
      (λ same. subst (λ (k : ℕ). Tells s k e p p) same (turns_tell s j e p p x x (ends_turns a x x h invalid refl) (sym (h.5 p.time)) refl refl was was))

  -- what is no item stays so
  pub no_item_ends : (a : Action) → Ends a → thing_at p j ≡ None → is_made p j ≡ true
      → Tells s i (event t a answers.Ok) p p
  no_item_ends a h none made =
      let e = event t a answers.Ok in
      one_tells s i j e p p (ends_quiet a h) (sym (h.5 p.time)) refl refl (λ apart. refl)
      (λ same. subst (λ (k : ℕ). Tells s k e p p) same (record {
        time = sym (h.5 p.time);
        made = made_same p p j (binds j e) refl refl;
        some = or_no_more (is_some (thing_at p j)) (makes_item j e) (ap (λ (b : Bool). b && false) h.3);
        source = or_no_more (is_source_thing (thing_at p j)) (makes_source j e) (ap (λ (b : Bool). b && false) h.4);
        signalled = stays_lit (is_signalled_thing (thing_at p j)) (signals j e) (calls j e) (and_other (names j (signalled_in a)) true (ap (names j) h.1)) (ap (names j) h.2);
        valid = never (is_valid_thing (thing_at p j)) (makes_item j e) (invalidates j e) (ap is_valid_thing none) (ap (λ (b : Bool). b && false) h.3);
        new = λ f. absurd (no_and_yes (makes_item j e) (ap (λ (b : Bool). b && false) h.3) f);
        gone = λ f. made;
        called = λ f. absurd (no_and_yes (calls j e) (ap (names j) h.2) f);
        timing = timing_stays (timing_of_thing (thing_at p j)) (timing_of_thing (thing_at p j)) (timing_by s j e) refl (untimed false _ h.6);
        date = λ last gone before. before ∙ ap (λ (b : Bool). date_by (timing_of_thing (thing_at p j)) (cond b (Some p.time) last)) (sym (ap (names j) h.2));
      }))

  -- ---- a callout

  abbrev Fires : Action → Type 0
  Fires a = (called_in a ≡ Some j) × (signalled_in a ≡ None) × (invalidated_in a ≡ None) × (is_item_form a ≡ false) × (is_source_form a ≡ false) × ((m : ℕ) → time_in m a ≡ m) × (statement_of s a ≡ None)

  fired_source : (item : Item) → is_source_item (fired p.time item) ≡ is_source_item item
  fired_source (source_item order on) = refl
  fired_source (timer_item first interval date) = refl
  fired_source (observer_item mask repeats order) = refl

  fired_timing : (item : Item) → timing_of_item (fired p.time item) ≡ timing_of_item item
  fired_timing (source_item order on) = refl
  fired_timing (timer_item first interval date) = refl
  fired_timing (observer_item mask repeats order) = refl

  fired_dark : (item : Item) → is_signalled_item (fired p.time item) ≡ false
  fired_dark (source_item order on) = refl
  fired_dark (timer_item first interval date) = refl
  fired_dark (observer_item mask repeats order) = refl

  fired_date : (item : Item) → date_in (fired p.time item) ≡ date_by (timing_of_item item) (Some p.time)
  fired_date (source_item order on) = refl
  fired_date (timer_item first interval date) = refl
  fired_date (observer_item mask repeats order) = refl

  pub fires_tell : (a : Action) (answer : Answer) (x : Thing) → Fires a → bound_in answer ≡ None → thing_at p j ≡ Some x
      → Tells s i (event t a answer) p (with_item p j x.valid (fired p.time x.item))
  fires_tell a answer x h unbound was =
      let e = event t a answer in
      let item = fired p.time x.item in
      let q = with_item p j x.valid item in
      let after : Thing = thing x.handler x.info x.valid item in
      let called : calls j e ≡ true = ap (names j) h.0 ∙ same_name j in
      one_tells s i j e p q
      (λ apart. record {
        signal = and_other (names i (signalled_in a)) (is_ok answer) (ap (names i) h.1);
        call = ap (names i) h.0 ∙ other_name i j apart;
        make = and_other (is_item_form a) (binds i e) h.3;
        source = and_other (is_source_form a) (binds i e) h.4;
        invalidation = and_other (names i (invalidated_in a)) (is_ok answer) (ap (names i) h.2);
        timing = untimed (binds i e) (timing_in (statement_of s a)) (ap timing_in h.6);
      })
      (sym (h.5 p.time)) (changed_size x.valid item) (ap (names i) unbound) (changed_other x.valid item)
      (λ same. subst (λ (k : ℕ). Tells s k e p q) same (turns_tell s j e p q x after (record {
        make = and_other (is_item_form a) (binds j e) h.3;
        source = and_other (is_source_form a) (binds j e) h.4;
        written = untimed (binds j e) (timing_in (statement_of s a)) (ap timing_in h.6);
        is_source = fired_source x.item;
        timing = fired_timing x.item;
        signalled = fired_dark x.item ∙ darkens (is_signalled_item x.item) (signals j e) (calls j e) (and_other (names j (signalled_in a)) (is_ok answer) (ap (names j) h.1)) called;
        valid = valid_as_was x.valid (invalidates j e) (and_other (names j (invalidated_in a)) (is_ok answer) (ap (names j) h.2));
        date = fired_date x.item ∙ ap (λ (b : Bool). cond b (date_by (timing_of_item x.item) (Some p.time)) (date_in x.item)) (sym called);
      }) (sym (h.5 p.time)) (changed_size x.valid item) (ap (names j) unbound) was (own_thing p.objects j x.valid item x was)))

-- ---- an item that is made

-- what an item is from the start
pub record Begins (s : Script) (a : Action) (item : Item) : Type 0 where
  pub form : is_item_form a ≡ true
  pub source : is_source_form a ≡ is_source_item item
  pub unsignalled : signalled_in a ≡ None
  pub uncalled : called_in a ≡ None
  pub unended : invalidated_in a ≡ None
  pub time : (m : ℕ) → time_in m a ≡ m
  pub timing : timing_in (statement_of s a) ≡ timing_of_item item
  pub dark : is_signalled_item item ≡ false
  pub date : date_in item ≡ date_by (timing_of_item item) None

timing_new : (b : Bool) (t : Option Timing) → b ≡ true → t ≡ timing_if b t
timing_new b None e = refl
timing_new b (Some x) e = ap (λ (c : Bool). cond c (Some x) None) (sym e)

timing_not : (b : Bool) (t : Option Timing) → b ≡ false → timing_if b t ≡ None
timing_not b None e = refl
timing_not b (Some x) e = ap (λ (c : Bool). cond c (Some x) None) e

not_less : (n : ℕ) → ltb n n ≡ false
not_less n = grind (arith, nat_tests)

both_true : (b c : Bool) → b ≡ true → c ≡ true → (b && c) ≡ true
both_true b c e f = grind arith

new_some : (b c : Bool) → c ≡ true → true ≡ (b || c)
new_some b c e = grind arith

new_source : (b c d m : Bool) → b ≡ false → d ≡ c → m ≡ true → c ≡ (b || (d && m))
new_source b c d m e f g = grind arith

new_dark : (b c d l : Bool) → l ≡ false → b ≡ false → c ≡ false → l ≡ (c || (b && not d))
new_dark b c d l e f g = grind arith

new_valid : (b m v : Bool) → m ≡ true → v ≡ false → true ≡ ((b || m) && not v)
new_valid b m v e f = grind arith

pub no_yes : (b : Bool) → b ≡ false → b ≡ true → ⊥
no_yes true e f = cc
no_yes false e f = cc

timing_first : (t u w : Option Timing) → t ≡ None → u ≡ w → u ≡ or_timing t w
timing_first None u w e f = f
timing_first (Some x) u w e f = absurd cc

module _ (s : Script) (t : ℕ) (p : Parts) (a : Action) (h : ℕ) (info : Option ℕ) (item : Item) (class : ℕ) (k : Begins s a item) where
  abbrev made_object : Object
  made_object = record { class = class; content = item_content h info true item }

  abbrev made_event : Entry
  made_event = event t a (answers.Object (length p.objects))

  abbrev made_parts : Parts
  made_parts = record p { objects = p.objects ++ made_object ∷ [] }

  begins_other : (i : ℕ) → eqb (length p.objects) i ≡ false → (length p.objects ≡ i → ⊥)
      → Tells s i made_event p made_parts
  begins_other i unlike apart = quiet_tells s i made_event p made_parts
      (record {
        signal = and_other (names i (signalled_in a)) false (ap (names i) k.unsignalled);
        call = ap (names i) k.uncalled;
        make = and_second (is_item_form a) (eqb (length p.objects) i) unlike;
        source = and_second (is_source_form a) (eqb (length p.objects) i) unlike;
        invalidation = and_other (names i (invalidated_in a)) false (ap (names i) k.unended);
        timing = timing_not (eqb (length p.objects) i) (timing_in (statement_of s a)) unlike;
      })
      (sym (k.time p.time)) (made_more p.objects made_object i) (thing_more p.objects made_object i apart)

  begins_own : (n : ℕ) → length p.objects ≡ n → Tells s n made_event p made_parts
  begins_own n size =
      let own : eqb (length p.objects) n ≡ true = eq-eqb (length p.objects) n size in
      let before : thing_at p n ≡ None = subst (λ (m : ℕ). thing_at p m ≡ None) size (thing_past p.objects) in
      let after : thing_at made_parts n ≡ Some (thing h info true item) = subst (λ (m : ℕ). thing_at made_parts m ≡ Some (thing h info true item)) size (thing_new p.objects made_object) in
      record {
        time = sym (k.time p.time);
        made = made_more p.objects made_object n;
        some = ap is_some after ∙ new_some (is_some (thing_at p n)) (makes_item n made_event) (both_true (is_item_form a) (eqb (length p.objects) n) k.form own);
        source = ap is_source_thing after ∙ new_source (is_source_thing (thing_at p n)) (is_source_item item) (is_source_form a) (eqb (length p.objects) n) (ap is_source_thing before) k.source own;
        signalled = ap is_signalled_thing after ∙ new_dark (is_signalled_thing (thing_at p n)) (signals n made_event) (calls n made_event) (is_signalled_item item) k.dark (ap is_signalled_thing before) (and_other (names n (signalled_in a)) false (ap (names n) k.unsignalled));
        valid = ap is_valid_thing after ∙ new_valid (is_valid_thing (thing_at p n)) (makes_item n made_event) (invalidates n made_event) (both_true (is_item_form a) (eqb (length p.objects) n) k.form own) (and_other (names n (invalidated_in a)) false (ap (names n) k.unended));
        new = λ f. ap (ltb n) size ∙ not_less n;
        gone = λ f. absurd (no_yes (invalidates n made_event) (and_other (names n (invalidated_in a)) false (ap (names n) k.unended)) f);
        called = λ f. absurd (no_yes (calls n made_event) (ap (names n) k.uncalled) f);
        timing = ap timing_of_thing after ∙ timing_first (timing_of_thing (thing_at p n)) (timing_of_item item) (timing_by s n made_event) (ap timing_of_thing before) (sym k.timing ∙ timing_new (eqb (length p.objects) n) (timing_in (statement_of s a)) own);
        date = λ last none was.
            ap date_of_thing after ∙ k.date ∙ ap (λ (l : Option ℕ). date_by (timing_of_item item) l) (sym (none before))
            ∙ ap (λ (b : Bool). date_by (timing_of_item item) (cond b (Some p.time) last)) (sym (ap (names n) k.uncalled))
            ∙ ap (λ (z : Option Thing). date_by (timing_of_thing z) (cond (calls n made_event) (Some p.time) last)) (sym after);
      }

  pub begins_tell : (i : ℕ) → Tells s i made_event p made_parts
  begins_tell i = elim (eqb_tells (length p.objects) i) [
    | inl is ↦ begins_own i is.1
    | inr isnt ↦ begins_other i isnt.0 isnt.1
  ]
