-- The sources among bodies: how one is looked up, and what each change of the bodies does to them.
use Rattle.std.proofs.Common.{arith, ◌≡◌, ℕ, ℤ, zero, suc, ◌+◌, ◌<◌, ◌≤◌, Bool, true, false, ◌&&◌, List, [], ◌∷◌, ◌++◌, map, length, get_or, Option, Some, None, refl, sym, ap, ◌∙◌, subst, slice_get, slice_set, nat_lt, ◌==◌}
use Rattle.std.specs.Option.{option_map, option_map_or, IsNone}
use Rattle.std.proofs.lemmas.Bool.Decides.{nat_tests}
use Rattle.std.proofs.lemmas.List.{append-nil}
use Rattle.std.proofs.lemmas.Option.{slice_get_read, slice_get-map}
use Rattle.rl_base.specs.declared.sources.SourceState.{SourceState}
use Rattle.rl_base.specs.Numbered.{kept_with, changed_at}
use Rattle.rl_base.specs.Signals.{source_at, valid_bit, signal_bit, sources_with, made}
use Rattle.cf_contents.specs.Items.{Item, source_item, timer_item, observer_item, is_signalled_item}
use Rattle.cf_contents.specs.Contents.{Content, text_content, data_content, number_content, instance_content, array_content, dictionary_content, set_content, bag_content, heap_content, item_content}
use Rattle.cf_contents.specs.Deeds.{in_item, item_after, content_after}
use Rattle.cf_contents.specs.Stores.{Held, with_body, body_changed, bodies_changed}
use Rattle.cf_body.specs.Bodies.{BodyView, held_of}
use Rattle.cf_body.specs.Items.{ItemView, item_in}
use Rattle.cf_body.specs.Changes.{CanBe, done_of}
use Rattle.cf_body.specs.declared.change.BodyChange.{BodyChange}
use Rattle.cf_body.specs.declared.change.BodyChange.TheVariants.{Nothing, Text, Data, Insert, Replace, Remove, Fill, Clear, PutPair, RemovePair, AddMember, PutMember, RemoveMember, RemoveLeast}
use Rattle.cf_store.specs.Applies.{IsReadyAt, body_at}
use Rattle.cf_store.specs.Sources.{item_of_body, item_at, is_source, is_valid_source, is_signalled_source, IsNewItem, with_signal, SourceBits, bits_in, bits_of, numbered_source, before, sources_from, sources_in, AllBelow}

-- ---- look-ups

skipped : (n o : ℕ) (b : Option SourceBits) (rest : List SourceState) → (n == o) ≡ false
    → source_at (before n b rest) o ≡ source_at rest o
skipped n o None rest apart = refl
skipped n o (Some b) rest apart = rw apart refl

none_below : (n o : ℕ) (hs : List Held) → o < n → source_at (sources_from n hs) o ≡ None
none_below n o [] less = refl
none_below n o (h ∷ hs) less =
    let apart : (n == o) ≡ false = grind (arith, nat_tests) in
    skipped n o (bits_of (item_in h.object.content)) (sources_from (suc n) hs) apart ∙ none_below (suc n) o hs (omega arith)

first_found : (n : ℕ) (b : Option SourceBits) (hs : List Held)
    → source_at (before n b (sources_from (suc n) hs)) n ≡ option_map (numbered_source n) b
first_found n None hs = none_below (suc n) n hs (omega arith)
first_found n (Some b) hs = let same : (n == n) ≡ true = grind (arith, nat_tests) in rw same refl

found_from : (n k o : ℕ) (hs : List Held) → o ≡ n + k
    → source_at (sources_from n hs) o ≡ option_map (numbered_source o) (bits_of (item_at hs k))
found_from n k o [] is = refl
found_from n zero o (h ∷ hs) is =
    let same : n ≡ o = omega (arith, is) in
    subst (λ (m : ℕ). source_at (sources_from n (h ∷ hs)) m ≡ option_map (numbered_source m) (bits_of (item_in h.object.content))) same
    (first_found n (bits_of (item_in h.object.content)) hs)
found_from n (suc k) o (h ∷ hs) is =
    let apart : (n == o) ≡ false = grind (arith, nat_tests) in
    skipped n o (bits_of (item_in h.object.content)) (sources_from (suc n) hs) apart
    ∙ found_from (suc n) k o hs (omega (arith, is))

-- the source of a number is that among the bodies
pub source_found : (hs : List Held) (o : ℕ)
    → source_at (sources_in hs) o ≡ option_map (numbered_source o) (bits_of (item_at hs o))
source_found hs o = found_from 0 o o hs (omega arith)

valid_in : (o : ℕ) (valid : Bool) (item : Item) → (valid && is_source item) ≡ true
    → option_map_or (λ (s : SourceState). s.valid) (option_map (numbered_source o) (bits_in valid item)) false ≡ true
valid_in o true (source_item order signalled) is = refl
valid_in o true (timer_item first interval date) is = absurd cc
valid_in o true (observer_item mask repeats order) is = absurd cc
valid_in o false item is = absurd cc

valid_of : (o : ℕ) (x : Option ItemView) → is_valid_source x ≡ true
    → option_map_or (λ (s : SourceState). s.valid) (option_map (numbered_source o) (bits_of x)) false ≡ true
valid_of o None is = absurd cc
valid_of o (Some x) is = valid_in o x.valid x.item is

signalled_in : (o : ℕ) (valid : Bool) (item : Item) → is_signalled_item item ≡ true
    → option_map_or (λ (s : SourceState). s.signalled) (option_map (numbered_source o) (bits_in valid item)) false ≡ true
signalled_in o valid (source_item order signalled) is = is
signalled_in o valid (timer_item first interval date) is = absurd cc
signalled_in o valid (observer_item mask repeats order) is = absurd cc

signalled_of : (o : ℕ) (x : Option ItemView) → is_signalled_source x ≡ true
    → option_map_or (λ (s : SourceState). s.signalled) (option_map (numbered_source o) (bits_of x)) false ≡ true
signalled_of o None is = absurd cc
signalled_of o (Some x) is = signalled_in o x.valid x.item is

-- the bits of the table are those of the body
pub valid_there : (hs : List Held) (o : ℕ) → is_valid_source (item_at hs o) ≡ true
    → valid_bit (sources_in hs) o ≡ true
valid_there hs o is =
    ap (λ (s : Option SourceState). option_map_or (λ (x : SourceState). x.valid) s false) (source_found hs o)
    ∙ valid_of o (item_at hs o) is

pub signalled_there : (hs : List Held) (o : ℕ) → is_signalled_source (item_at hs o) ≡ true
    → signal_bit (sources_in hs) o ≡ true
signalled_there hs o is =
    ap (λ (s : Option SourceState). option_map_or (λ (x : SourceState). x.signalled) s false) (source_found hs o)
    ∙ signalled_of o (item_at hs o) is

-- ---- a body more

before-append : (n : ℕ) (b : Option SourceBits) (xs ys : List SourceState)
    → before n b (xs ++ ys) ≡ before n b xs ++ ys
before-append n None xs ys = refl
before-append n (Some b) xs ys = refl

pub sources_from-append : (n m : ℕ) (xs ys : List Held) → m ≡ n + length xs
    → sources_from n (xs ++ ys) ≡ sources_from n xs ++ sources_from m ys
sources_from-append n m [] ys is = let same : n ≡ m = omega (arith, is) in ap (λ (k : ℕ). sources_from k ys) same
sources_from-append n m (h ∷ hs) ys is =
    let b = bits_of (item_in h.object.content) in
    ap (before n b) (sources_from-append (suc n) m hs ys (omega (arith, is)))
    ∙ before-append n b (sources_from (suc n) hs) (sources_from m ys)

below_before : (n o : ℕ) (b : Option SourceBits) (rest : List SourceState) → n < o → AllBelow o rest
    → AllBelow o (before n b rest)
below_before n o None rest less all = all
below_before n o (Some b) rest less all = (less, all)

below_from : (n o : ℕ) (hs : List Held) → n + length hs ≤ o → AllBelow o (sources_from n hs)
below_from n o [] past = tt
below_from n o (h ∷ hs) past =
    below_before n o (bits_of (item_in h.object.content)) (sources_from (suc n) hs) (omega (arith, past))
    (below_from (suc n) o hs (omega (arith, past)))

-- the number of the next body is above all
pub next_above : (hs : List Held) (o : ℕ) → o ≡ length hs → AllBelow o (sources_in hs)
next_above hs o is = below_from 0 o hs (omega (arith, is))

pub absent_above : (o : ℕ) (xs : List SourceState) → AllBelow o xs → IsNone (source_at xs o)
absent_above o [] all = refl
absent_above o (x ∷ xs) all =
    let less : x.number < o = all.0 in
    let apart : (x.number == o) ≡ false = grind (arith, nat_tests) in
    rw apart (absent_above o xs all.1)

pub kept_last : (x : SourceState) (xs : List SourceState) → AllBelow x.number xs
    → kept_with (λ (s : SourceState). s.number) x xs ≡ xs ++ x ∷ []
kept_last x [] all = refl
kept_last x (y ∷ ys) all =
    let less : y.number < x.number = all.0 in
    let later : nat_lt x.number y.number ≡ false = grind (arith, nat_tests) in
    rw later (ap (λ (zs : List SourceState). y ∷ zs) (kept_last x ys all.1))

-- a body that is no source leaves the table, and a new source stands at its end
unless_source : (o : ℕ) (b : Option SourceBits) (sources : List SourceState)
    → None ≡ option_map (λ (x : SourceBits). x.order) b → sources ≡ sources ++ before o b []
unless_source o None sources is = sym (append-nil sources)
unless_source o (Some b) sources is = absurd cc

pub made_none : (o : ℕ) (it : Option ItemView) (sources : List SourceState)
    → None ≡ option_map (λ (x : SourceBits). x.order) (bits_of it)
    → sources ≡ sources ++ before o (bits_of it) []
made_none o it sources is = unless_source o (bits_of it) sources is

last_in : (o : ℕ) (order : ℤ) (valid : Bool) (item : Item) (sources after : List SourceState)
    → Some order ≡ option_map (λ (x : SourceBits). x.order) (bits_in valid item) → valid ≡ true
    → is_signalled_item item ≡ false → AllBelow o sources
    → after ≡ sources_with sources (made o order)
    → after ≡ sources ++ before o (bits_in valid item) []
last_in o order valid (source_item n signalled) sources after is new quiet below grown =
    let same : order ≡ n = cc in
    rw (new, quiet, ← same)
    (grown ∙ kept_last (record { number = o; order = order; valid = true; signalled = false }) sources below)
last_in o order valid (timer_item first interval date) sources after is new quiet below grown = absurd cc
last_in o order valid (observer_item mask repeats n) sources after is new quiet below grown = absurd cc

pub made_last : (o : ℕ) (order : ℤ) (it : Option ItemView) (sources after : List SourceState)
    → Some order ≡ option_map (λ (x : SourceBits). x.order) (bits_of it) → IsNewItem it → AllBelow o sources
    → after ≡ sources_with sources (made o order)
    → after ≡ sources ++ before o (bits_of it) []
made_last o order None sources after is new below grown = absurd cc
made_last o order (Some x) sources after is new below grown =
    last_in o order x.valid x.item sources after is new.0 new.1 below grown

-- ---- a body changed

changed_past : (g : SourceState → SourceState) (n o : ℕ) (b : Option SourceBits) (rest : List SourceState)
    → (n == o) ≡ false
    → changed_at (λ (s : SourceState). s.number) o g (before n b rest)
    ≡ before n b (changed_at (λ (s : SourceState). s.number) o g rest)
changed_past g n o None rest apart = refl
changed_past g n o (Some b) rest apart = rw apart refl

changed_below : (g : SourceState → SourceState) (n o : ℕ) (hs : List Held) → o < n
    → changed_at (λ (s : SourceState). s.number) o g (sources_from n hs) ≡ sources_from n hs
changed_below g n o [] less = refl
changed_below g n o (h ∷ hs) less =
    let apart : (n == o) ≡ false = grind (arith, nat_tests) in
    let b = bits_of (item_in h.object.content) in
    changed_past g n o b (sources_from (suc n) hs) apart ∙ ap (before n b) (changed_below g (suc n) o hs (omega arith))

changed_first : (g : SourceState → SourceState) (n : ℕ) (old new : Option SourceBits) (rest : List SourceState)
    → changed_at (λ (s : SourceState). s.number) n g rest ≡ rest → before n new [] ≡ map g (before n old [])
    → changed_at (λ (s : SourceState). s.number) n g (before n old rest) ≡ before n new rest
changed_first g n None None rest stays is = stays
changed_first g n None (Some b) rest stays is = absurd cc
changed_first g n (Some a) None rest stays is = absurd cc
changed_first g n (Some a) (Some b) rest stays is =
    let same : (n == n) ≡ true = grind (arith, nat_tests) in
    let head : numbered_source n b ≡ g (numbered_source n a) = cc in
    rw (same, stays) (ap (λ (s : SourceState). s ∷ rest) (sym head))

changed_from : (g : SourceState → SourceState) (f : Held → Held) (n k o : ℕ) (hs : List Held) → o ≡ n + k
    → ((h : Held) → slice_get hs k ≡ Some h
    → before o (bits_of (item_in (f h).object.content)) [] ≡ map g (before o (bits_of (item_in h.object.content)) []))
    → changed_at (λ (s : SourceState). s.number) o g (sources_from n hs) ≡ sources_from n (with_body f k hs)
changed_from g f n k o [] is step = refl
changed_from g f n zero o (h ∷ hs) is step =
    let same : n ≡ o = omega (arith, is) in
    let old = bits_of (item_in h.object.content) in
    let new = bits_of (item_in (f h).object.content) in
    let here : before n new [] ≡ map g (before n old []) = subst (λ (m : ℕ). before m new [] ≡ map g (before m old [])) (sym same) (step h refl) in
    subst (λ (m : ℕ). changed_at (λ (s : SourceState). s.number) m g (before n old (sources_from (suc n) hs)) ≡ before n new (sources_from (suc n) hs)) same
    (changed_first g n old new (sources_from (suc n) hs) (changed_below g (suc n) n hs (omega arith)) here)
changed_from g f n (suc k) o (h ∷ hs) is step =
    let apart : (n == o) ≡ false = grind (arith, nat_tests) in
    let b = bits_of (item_in h.object.content) in
    changed_past g n o b (sources_from (suc n) hs) apart
    ∙ ap (before n b) (changed_from g f (suc n) k o hs (omega (arith, is)) step)

in_after : (valid : Bool) (item : Item) (c : Content) (x : ItemView) → item_in c ≡ Some x
    → item_in (item_after valid item c)
    ≡ Some (record { handler = x.handler; info = x.info; valid = valid; item = item })
in_after valid item (text_content mutable units) x is = absurd cc
in_after valid item (data_content mutable bytes) x is = absurd cc
in_after valid item (number_content n) x is = absurd cc
in_after valid item (instance_content key fields) x is = absurd cc
in_after valid item (array_content plain os) x is = absurd cc
in_after valid item (dictionary_content plain pairs) x is = absurd cc
in_after valid item (set_content plain members) x is = absurd cc
in_after valid item (bag_content plain rows) x is = absurd cc
in_after valid item (heap_content plain adds rows) x is = absurd cc
in_after valid item (item_content handler info v i) x is =
    let same : record { handler = handler; info = info; valid = v; item = i } ≡ x = cc in
    ap (λ (y : ItemView). Some (record { handler = y.handler; info = y.info; valid = valid; item = item })) same

-- a change of an item is one of the table
pub sources_changed : (g : SourceState → SourceState) (hs : List Held) (o : ℕ) (x : ItemView) (valid : Bool)
    (item : Item)
    → item_at hs o ≡ Some x → before o (bits_in valid item) [] ≡ map g (before o (bits_in x.valid x.item) [])
    → changed_at (λ (s : SourceState). s.number) o g (sources_in hs)
    ≡ sources_in (bodies_changed (Some o) (in_item valid item) hs)
sources_changed g hs o x valid item is step =
    changed_from g (body_changed (in_item valid item)) 0 o o hs (omega arith)
    (λ h at. let was : item_in h.object.content ≡ Some x = sym (ap item_of_body at) ∙ is in
    rw (in_after valid item h.object.content x was, was) step)

pub signal_step : (o : ℕ) (valid signal : Bool) (item : Item)
    → before o (bits_in valid (with_signal signal item)) []
    ≡ map (λ (s : SourceState). record s { signalled = signal }) (before o (bits_in valid item) [])
signal_step o valid signal (source_item order signalled) = refl
signal_step o valid signal (timer_item first interval date) = refl
signal_step o valid signal (observer_item mask repeats order) = refl

pub invalid_step : (o : ℕ) (valid : Bool) (item : Item)
    → before o (bits_in false item) []
    ≡ map (λ (s : SourceState). record s { valid = false }) (before o (bits_in valid item) [])
invalid_step o valid (source_item order signalled) = refl
invalid_step o valid (timer_item first interval date) = refl
invalid_step o valid (observer_item mask repeats order) = refl

-- ---- what no statement changes

stays_item : (change : BodyChange) (c : Content) → CanBe change c
    → item_in (content_after (done_of change) c) ≡ item_in c
stays_item Nothing c can = refl
stays_item (Text at len text) (text_content true units) can = refl
stays_item (Text at len text) (text_content false units) can = refl
stays_item (Data at len bytes) (data_content true old) can = refl
stays_item (Data at len bytes) (data_content false old) can = refl
stays_item (Insert at element) (array_content plain os) can = refl
stays_item (Replace at element) (array_content plain os) can = refl
stays_item (Remove at) (array_content plain os) can = refl
stays_item (Fill at element) (instance_content key fields) can = refl
stays_item (Clear at) (instance_content key fields) can = refl
stays_item (PutPair key value) (dictionary_content plain pairs) can = refl
stays_item (RemovePair key) (dictionary_content plain pairs) can = refl
stays_item (AddMember x) (set_content plain members) can = refl
stays_item (AddMember x) (bag_content plain rows) can = refl
stays_item (AddMember x) (heap_content plain adds rows) can = refl
stays_item (PutMember x) (set_content plain members) can = refl
stays_item (PutMember x) (bag_content plain rows) can = refl
stays_item (RemoveMember x) (set_content plain members) can = refl
stays_item (RemoveMember x) (bag_content plain rows) can = refl
stays_item RemoveLeast (heap_content plain adds rows) can = refl
stays_item _ _ can = absurd can

same_from : (f : Held → Held) (n k : ℕ) (hs : List Held)
    → ((h : Held) → slice_get hs k ≡ Some h → item_in (f h).object.content ≡ item_in h.object.content)
    → sources_from n (with_body f k hs) ≡ sources_from n hs
same_from f n k [] same = refl
same_from f n zero (h ∷ hs) same = ap (λ (x : Option ItemView). before n (bits_of x) (sources_from (suc n) hs)) (same h refl)
same_from f n (suc k) (h ∷ hs) same = ap (before n (bits_of (item_in h.object.content))) (same_from f (suc n) k hs same)

stays_by : (change : BodyChange) (h : Held) (b : Option BodyView) → option_map held_of b ≡ Some h → IsReadyAt change b
    → item_in (content_after (done_of change) h.object.content) ≡ item_in h.object.content
stays_by change h None is ready = absurd cc
stays_by change h (Some b) is ready =
    let same : held_of b ≡ h = cc in
    subst (λ (x : Held). item_in (content_after (done_of change) x.object.content) ≡ item_in x.object.content) same
    (stays_item change b.content ready.0)

-- a deed that is ready changes no item
pub sources_stay : (change : BodyChange) (bodies : List BodyView) (object : Option ℕ)
    → IsReadyAt change (body_at bodies object)
    → sources_in (bodies_changed object (done_of change) (map held_of bodies)) ≡ sources_in (map held_of bodies)
sources_stay change bodies None ready = refl
sources_stay change bodies (Some o) ready =
    same_from (body_changed (done_of change)) 0 o (map held_of bodies)
    (λ h at. stays_by change h (slice_get bodies o) (sym (slice_get-map held_of bodies o) ∙ at) ready)

set_from : (n : ℕ) (bodies : List BodyView) (o : ℕ) (old new : BodyView) → slice_get bodies o ≡ Some old
    → new.content ≡ old.content
    → sources_from n (map held_of (slice_set bodies o new)) ≡ sources_from n (map held_of bodies)
set_from n [] o old new is content = refl
set_from n (b ∷ bs) zero old new is content =
    let same : old ≡ b = cc in
    ap (λ (c : Content). before n (bits_of (item_in c)) (sources_from (suc n) (map held_of bs)))
    (content ∙ ap (λ (x : BodyView). x.content) same)
set_from n (b ∷ bs) (suc o) old new is content = ap (before n (bits_of (item_in b.content))) (set_from (suc n) bs o old new is content)

-- a body that keeps its content keeps what source it is
pub sources_set : (bodies : List BodyView) (o : ℕ) (old new : BodyView) → o < length bodies
    → old ≡ get_or bodies o old → new.content ≡ old.content
    → sources_in (map held_of (slice_set bodies o new)) ≡ sources_in (map held_of bodies)
sources_set bodies o old new within is content =
    set_from 0 bodies o old new (slice_get_read bodies (length bodies) o old refl within is) content
