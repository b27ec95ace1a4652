-- The sources that a run is to call, by the bodies, and how many they are at most.
use Rattle.std.proofs.Common.{◌≡◌, ℕ, zero, suc, ◌+◌, ◌≤◌, ◌∙◌, ℤ, Bool, true, false, cond, List, [], ◌∷◌, ◌++◌, length, Option, Some, None, refl, sym, ap, subst, arith}
use Rattle.std.specs.Prelude.{◌&&◌, filter, flat_map, slice_get}
use Rattle.std.specs.Option.{option_map}
use Rattle.std.specs.List.{range_with_len}
use Rattle.rl_base.specs.declared.sources.SourceState.{SourceState}
use Rattle.rl_base.specs.Ranks.{comes_by, put_by, sorted_by}
use Rattle.rl_base.specs.Signals.{order_of, ready_sources, signal_bit, valid_bit}
use Rattle.cf_contents.specs.Items.{source_item, timer_item, observer_item}
use Rattle.cf_contents.specs.Contents.{Content, item_content, Object}
use Rattle.cf_contents.specs.Stores.{Held, objects_of}
use Rattle.cf_body.specs.Items.{item_in}
use Rattle.cf_store.specs.Sources.{before, bits_of, sources_from, sources_in}
use Rattle.cf_next.specs.Stands.{Turn}
use Rattle.cf_model.specs.State.{Parts, State}
use Rattle.cf_model.specs.Things.{Thing, thing_in, thing_of, thing_at, items_in, source_of, sources_of}
use Rattle.cf_contents.proofs.BodyLaws.{length-objects}
use Rattle.rl_turn.specs.declared.phases.Phase.{Phase}
use Rattle.rl_turn.specs.declared.phases.Phase.TheVariants as phases
use Rattle.cf_world.specs.Begun.{FitsItems, FitsPhase, sources_of_run}
use Rattle.cf_world.specs.Grounds.{Mirrors}

-- an object is the same source to the bodies and to the state
one_source : (n : ℕ) (c : Content) (rest : List SourceState)
    → before n (bits_of (item_in c)) rest ≡ source_of n (thing_in c) ++ rest
one_source n (item_content h info valid (source_item order signalled)) rest = refl
one_source n (item_content h info valid (timer_item first interval date)) rest = refl
one_source n (item_content h info valid (observer_item mask repeats order)) rest = refl
one_source n _ rest = refl

-- so are all from a number on
from_here : (n : ℕ) (hs : List Held) (things : ℕ → Option Thing)
    → ((k : ℕ) → things (n + k) ≡ thing_of (slice_get (objects_of hs) k))
    → sources_from n hs ≡ flat_map (λ i. source_of i (things i)) (range_with_len n (length hs))
from_here n [] things h = refl
from_here n (b ∷ hs) things h =
    let first : things n ≡ thing_in b.object.content = ap things (omega arith) ∙ h zero in
    let rest : sources_from (suc n) hs ≡ flat_map (λ i. source_of i (things i)) (range_with_len (suc n) (length hs)) =
    from_here (suc n) hs things (λ k. ap things (omega arith) ∙ h (suc k)) in
    one_source n b.object.content (sources_from (suc n) hs)
    ∙ ap (λ (q : Option Thing). source_of n q ++ sources_from (suc n) hs) (sym first)
    ∙ ap (λ (ss : List SourceState). source_of n (things n) ++ ss) (rest ∙ ap (λ (m : ℕ). flat_map (λ i. source_of i (things i)) (range_with_len m (length hs))) (omega arith))

pub sources_told : (p : Parts) (bodies : List Held) → Mirrors p bodies → sources_in bodies ≡ sources_of p
sources_told p bodies h =
    from_here 0 bodies (thing_at p) (λ k. ap (thing_at p) (omega arith) ∙ ap (λ (obs : List Object). thing_of (slice_get obs k)) (sym h.objects_are))
    ∙ ap (λ (n : ℕ). flat_map (λ i. source_of i (thing_at p i)) (range_with_len 0 n)) (sym (length-objects bodies) ∙ ap length h.objects_are)

-- ---- how many there are

put_length : (key : ℕ → ℤ) (i : ℕ) (xs : List ℕ) → length (put_by key i xs) ≡ suc (length xs)
put_length key i [] = refl
put_length key i (x ∷ xs) = by (comes_by key i x) (put_length key i xs)
  where
    by : (b : Bool) → length (put_by key i xs) ≡ suc (length xs)
        → length (cond b (i ∷ x ∷ xs) (x ∷ put_by key i xs)) ≡ suc (suc (length xs))
    by true e = refl
    by false e = ap suc e

sorted_length : (key : ℕ → ℤ) (xs : List ℕ) → length (sorted_by key xs) ≡ length xs
sorted_length key [] = refl
sorted_length key (x ∷ xs) = put_length key x (sorted_by key xs) ∙ ap suc (sorted_length key xs)

filter_length : (f : ℕ → Bool) (xs : List ℕ) → length (filter f xs) ≤ length xs
filter_length f [] = omega arith
filter_length f (x ∷ xs) = by (f x) (filter_length f xs)
  where
    by : (b : Bool) → length (filter f xs) ≤ length xs
        → length (cond b (x ∷ filter f xs) (filter f xs)) ≤ suc (length xs)
    by true h = omega (arith, h)
    by false h = omega (arith, h)

pub ready_few : (sources : List SourceState) (numbers : List ℕ) → length (ready_sources sources numbers) ≤ length numbers
ready_few sources numbers =
    let fits = λ (n : ℕ). valid_bit sources n && signal_bit sources n in
    omega (arith, sorted_length (order_of sources) (filter fits numbers), filter_length fits numbers)

-- ---- those of a thread's innermost run

-- the mode of a run
mode_told : (run : Option Turn) (m : ℕ) → Some m ≡ option_map (λ (x : Turn). x.mode) run
    → (x : Turn) × (run ≡ Some x) × (x.mode ≡ m)
mode_told None m e = absurd cc
mode_told (Some x) m e = let same : x.mode ≡ m = cc in (x, refl, same)

-- what the store collects is what the phase of the run does
pub collected_told : (st : State) (t m : ℕ) (bodies : List Held) (run : Option Turn) (out items : List ℕ)
    → Mirrors st.parts bodies → Some m ≡ option_map (λ (x : Turn). x.mode) run → items ≡ items_in st t m
    → out ≡ ready_sources (sources_in bodies) items → out ≡ sources_of_run st t run
collected_told st t m bodies run out items h e is told =
    let x = mode_told run m e in
    told ∙ ap (λ (ss : List SourceState). ready_sources ss items) (sources_told st.parts bodies h)
    ∙ ap (ready_sources (sources_of st.parts)) (is ∙ ap (items_in st t) (sym x.2)) ∙ ap (sources_of_run st t) (sym x.1)

pub collected_few : (st : State) (t m more : ℕ) (bodies : List Held) (run : Option Turn) (out items : List ℕ)
    → Some m ≡ option_map (λ (x : Turn). x.mode) run → items ≡ items_in st t m
    → out ≡ ready_sources (sources_in bodies) items → FitsItems st t more run → length out ≤ more
collected_few st t m more bodies run out items e is told fits =
    let x = mode_told run m e in
    let there : length (items_in st t x.0.mode) ≤ more = subst (FitsItems st t more) x.1 fits in
    omega (arith, ap length told, ready_few (sources_in bodies) items, ap length is, ap (λ (n : ℕ). length (items_in st t n)) x.2, there)

pub mode_fits : (st : State) (t m more : ℕ) (run : Option Turn) (items : List ℕ)
    → Some m ≡ option_map (λ (x : Turn). x.mode) run → items ≡ items_in st t m → FitsItems st t more run
    → length items ≤ more
mode_fits st t m more run items e is fits =
    let x = mode_told run m e in
    let there : length (items_in st t x.0.mode) ≤ more = subst (FitsItems st t more) x.1 fits in
    omega (arith, ap length is, ap (λ (n : ℕ). length (items_in st t n)) x.2, there)

-- the phase collects no more than that
pub few_collected : (st : State) (t more : ℕ) (run : Option Turn) → FitsItems st t more run
    → length (sources_of_run st t run) ≤ more
few_collected st t more None fits = omega arith
few_collected st t more (Some x) fits = omega (arith, fits, ready_few (sources_of st.parts) (items_in st t x.mode))

-- more are enough too
pub fits_more : (st : State) (t more most : ℕ) (run : Option Turn) → more ≤ most → FitsItems st t more run
    → FitsItems st t most run
fits_more st t more most None le fits = tt
fits_more st t more most (Some x) le fits = omega (arith, le, fits)

-- the same of a phase
pub phase_more : (st : State) (t more most : ℕ) (p : Phase) (run : Option Turn) → more ≤ most
    → FitsPhase st t more p run → FitsPhase st t most p run
phase_more st t more most phases.Sources run le fits = fits_more st t more most run le fits
phase_more st t more most p run le fits = tt
