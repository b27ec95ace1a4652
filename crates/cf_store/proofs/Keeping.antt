-- What holds of a store between its calls holds after each of them.
use Rattle.std.proofs.Common.{arith, ◌≡◌, ℕ, ◌+◌, ◌<◌, Bool, true, false, List, [], ◌∷◌, ◌++◌, map, length, get_or, Option, Some, None, refl, sym, ap, ◌∙◌, slice_set}
use Rattle.std.proofs.lemmas.List.{map-append, length-map}
use Rattle.rl_base.specs.declared.sources.SourceState.{SourceState}
use Rattle.rl_base.specs.Numbered.{changed_at}
use Rattle.rl_base.specs.Signals.{valid_bit, signal_bit}
use Rattle.cf_contents.specs.Items.{Item}
use Rattle.cf_contents.specs.Contents.{Content, text_content, data_content, number_content, instance_content, array_content, dictionary_content, set_content, bag_content, heap_content, item_content}
use Rattle.cf_contents.specs.Deeds.{in_item, item_after}
use Rattle.cf_contents.specs.Stores.{bodies_changed}
use Rattle.cf_body.specs.Bodies.{BodyView, held_of, most_in}
use Rattle.cf_body.specs.Items.{ItemView, item_in}
use Rattle.cf_body.specs.Changes.{CanBe, done_of}
use Rattle.cf_body.specs.declared.change.BodyChange.{BodyChange}
use Rattle.cf_body.specs.declared.change.BodyChange.TheVariants.{Nothing}
use Rattle.cf_store.specs.Applies.{IsReadyAt, IsReadyIn}
use Rattle.cf_store.specs.Kept.{IsKept}
use Rattle.cf_store.specs.Sources.{item_at, is_valid_source, is_signalled_source, with_signal, bits_in, bits_of, before, sources_in, AllBelow}
use Rattle.cf_store.specs.declared.plan.ReadyPlan.{ReadyPlan}
use Rattle.cf_store.proofs.Setting.{ready_set, ready_stays}
use Rattle.cf_store.proofs.Sourcing.{sources_from-append, sources_changed, sources_set, sources_stay, next_above, signal_step, invalid_step, valid_there, signalled_there}

-- ---- one body keeps its content, or callers see the same

pub kept_stays : (ready : Option ReadyPlan) (bodies : List BodyView) (sources : List SourceState) (o : ℕ)
    (old new : BodyView)
    → o < length bodies → old ≡ get_or bodies o old → new.content ≡ old.content → new.room ≡ old.room
    → IsKept bodies ready sources → IsKept (slice_set bodies o new) ready sources
kept_stays ready bodies sources o old new within is content room kept = record {
  ready = ready_stays ready bodies o old new within is content room kept.ready;
  sources = kept.sources ∙ sym (sources_set bodies o old new within is content);
}

pub kept_as : (before after : Option ReadyPlan) (old new : List BodyView) (sources : List SourceState)
    → IsKept old before sources → map held_of new ≡ map held_of old → IsReadyIn new after
    → IsKept new after sources
kept_as before after old new sources kept held ready =
    record { ready = ready; sources = kept.sources ∙ ap sources_in (sym held) }

-- ---- a body more

pub kept_made : (ready : Option ReadyPlan) (bodies : List BodyView) (b : BodyView) (old new : List SourceState) (o : ℕ)
    → IsKept bodies ready old → o ≡ length bodies → new ≡ old ++ before o (bits_of (item_in b.content)) []
    → IsKept (bodies ++ b ∷ []) None new
kept_made ready bodies b old new o kept last is =
    let held = map held_of bodies in
    let ends : o ≡ 0 + length held = omega (arith, last, length-map bodies held_of) in
    let grown = ap sources_in (map-append held_of bodies (b ∷ [])) ∙ sources_from-append 0 o held (held_of b ∷ []) ends in
    record {
      ready = tt;
      sources = is ∙ ap (λ (xs : List SourceState). xs ++ before o (bits_of (item_in b.content)) []) kept.sources ∙ sym grown;
    }

-- ---- an item is changed

can_nothing : (change : BodyChange) (handler : ℕ) (info : Option ℕ) (old new : Bool) (from to : Item)
    → CanBe change (item_content handler info old from) → CanBe change (item_content handler info new to)
can_nothing Nothing handler info old new from to can = tt
can_nothing _ handler info old new from to can = absurd can

can_after : (change : BodyChange) (valid : Bool) (item : Item) (c : Content) → CanBe change c
    → CanBe change (item_after valid item c)
can_after change valid item (text_content mutable units) can = can
can_after change valid item (data_content mutable bytes) can = can
can_after change valid item (number_content n) can = can
can_after change valid item (instance_content key fields) can = can
can_after change valid item (array_content plain os) can = can
can_after change valid item (dictionary_content plain pairs) can = can
can_after change valid item (set_content plain members) can = can
can_after change valid item (bag_content plain rows) can = can
can_after change valid item (heap_content plain adds rows) can = can
can_after change valid item (item_content handler info v i) can = can_nothing change handler info v valid i item can

most_after : (valid : Bool) (item : Item) (c : Content) → most_in (item_after valid item c) ≡ most_in c
most_after valid item (text_content mutable units) = refl
most_after valid item (data_content mutable bytes) = refl
most_after valid item (number_content n) = refl
most_after valid item (instance_content key fields) = refl
most_after valid item (array_content plain os) = refl
most_after valid item (dictionary_content plain pairs) = refl
most_after valid item (set_content plain members) = refl
most_after valid item (bag_content plain rows) = refl
most_after valid item (heap_content plain adds rows) = refl
most_after valid item (item_content handler info v i) = refl

step_after : (valid : Bool) (item : Item) (old new : BodyView) → new.content ≡ item_after valid item old.content
    → new.room ≡ old.room
    → (change : BodyChange) → IsReadyAt change (Some old) → IsReadyAt change (Some new)
step_after valid item old new content room change h = (
  rw content (can_after change valid item old.content h.0),
  record { memory = rw room h.1.memory; members = rw (content, most_after valid item old.content) h.1.members },
)

-- what is ready stays so where an item is changed
pub ready_after : (ready : Option ReadyPlan) (bodies : List BodyView) (o : ℕ) (old new : BodyView) (valid : Bool)
    (item : Item)
    → o < length bodies → old ≡ get_or bodies o old → new.content ≡ item_after valid item old.content
    → new.room ≡ old.room → IsReadyIn bodies ready
    → IsReadyIn (slice_set bodies o new) ready
ready_after ready bodies o old new valid item within is content room h =
    ready_set ready bodies o old new within is (step_after valid item old new content room) h

-- an item is changed as its table is
kept_changed : (g : SourceState → SourceState) (ready : Option ReadyPlan) (old new : List BodyView)
    (old_table new_table : List SourceState) (o : ℕ) (x : ItemView) (valid : Bool) (item : Item)
    → IsKept old ready old_table → item_at (map held_of old) o ≡ Some x
    → before o (bits_in valid item) [] ≡ map g (before o (bits_in x.valid x.item) [])
    → map held_of new ≡ bodies_changed (Some o) (in_item valid item) (map held_of old) → IsReadyIn new ready
    → new_table ≡ changed_at (λ (s : SourceState). s.number) o g old_table
    → IsKept new ready new_table
kept_changed g ready old new old_table new_table o x valid item kept is step held can table = record {
  ready = can;
  sources = table ∙ ap (changed_at (λ (s : SourceState). s.number) o g) kept.sources
      ∙ sources_changed g (map held_of old) o x valid item is step ∙ ap sources_in (sym held);
}

pub kept_signal : (signal : Bool) (ready : Option ReadyPlan) (old new : List BodyView)
    (old_table new_table : List SourceState) (o : ℕ) (x : ItemView) (item : Item)
    → IsKept old ready old_table → item_at (map held_of old) o ≡ Some x → item ≡ with_signal signal x.item
    → map held_of new ≡ bodies_changed (Some o) (in_item x.valid item) (map held_of old) → IsReadyIn new ready
    → new_table
    ≡ changed_at (λ (s : SourceState). s.number) o (λ (s : SourceState). record s { signalled = signal }) old_table
    → IsKept new ready new_table
kept_signal signal ready old new old_table new_table o x item kept is with_it held can table =
    kept_changed (λ (s : SourceState). record s { signalled = signal }) ready old new old_table new_table o x x.valid item kept is
    (rw with_it (signal_step o x.valid signal x.item)) held can table

pub kept_invalid : (ready : Option ReadyPlan) (old new : List BodyView) (old_table new_table : List SourceState) (o : ℕ)
    (x : ItemView)
    → IsKept old ready old_table → item_at (map held_of old) o ≡ Some x
    → map held_of new ≡ bodies_changed (Some o) (in_item false x.item) (map held_of old) → IsReadyIn new ready
    → new_table
    ≡ changed_at (λ (s : SourceState). s.number) o (λ (s : SourceState). record s { valid = false }) old_table
    → IsKept new ready new_table
kept_invalid ready old new old_table new_table o x kept is held can table =
    kept_changed (λ (s : SourceState). record s { valid = false }) ready old new old_table new_table o x false x.item kept is
    (invalid_step o x.valid x.item) held can table

-- ---- the table's bits are those of the bodies

pub valid_kept : (ready : Option ReadyPlan) (bodies : List BodyView) (table : List SourceState) (o : ℕ)
    → IsKept bodies ready table → is_valid_source (item_at (map held_of bodies) o) ≡ true → valid_bit table o ≡ true
valid_kept ready bodies table o kept is =
    ap (λ (xs : List SourceState). valid_bit xs o) kept.sources ∙ valid_there (map held_of bodies) o is

pub signalled_kept : (ready : Option ReadyPlan) (bodies : List BodyView) (table : List SourceState) (o : ℕ)
    → IsKept bodies ready table → is_signalled_source (item_at (map held_of bodies) o) ≡ true
    → signal_bit table o ≡ true
signalled_kept ready bodies table o kept is =
    ap (λ (xs : List SourceState). signal_bit xs o) kept.sources ∙ signalled_there (map held_of bodies) o is

pub next_kept : (ready : Option ReadyPlan) (bodies : List BodyView) (table : List SourceState) (o : ℕ)
    → IsKept bodies ready table → o ≡ length bodies → AllBelow o table
next_kept ready bodies table o kept is =
    rw kept.sources (next_above (map held_of bodies) o (is ∙ sym (length-map bodies held_of)))

-- ---- what is ready is done

pub kept_done : (ready after : Option ReadyPlan) (r : ReadyPlan) (old new : List BodyView) (table : List SourceState)
    → IsKept old ready table → ready ≡ Some r
    → map held_of new ≡ bodies_changed r.object (done_of r.deed.change) (map held_of old) → after ≡ None
    → IsKept new after table
kept_done ready after r old new table kept is held none =
    let can : IsReadyIn old (Some r) = rw is at kept.ready in
    record {
      ready = rw none tt;
      sources = kept.sources ∙ sym (ap sources_in held ∙ sources_stay r.deed.change old r.object can.1);
    }
