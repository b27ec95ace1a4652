-- What deals over run loops leave.
use Rattle.std.proofs.Common.{◌≡◌, ℕ, ◌∙◌, Bool, true, false, ◌&&◌, if◌then◌else◌, List, length, map, replicate, Some, refl, sym, ap, subst}
use Rattle.rl_modes.specs.Loops.{Loop}
use Rattle.cf_ids.specs.declared.answer.Answer.{Answer}
use Rattle.cf_ids.specs.declared.answer.Answer.TheVariants as answers
use Rattle.rl_base.specs.declared.places.Place.{Place}
use Rattle.cf_syntax.specs.declared.script.Script.{Script}
use Rattle.cf_contents.specs.Items.{kind_of}
use Rattle.cf_contents.specs.Stores.{Held}
use Rattle.cf_graph.specs.Edges.{Reference}
use Rattle.cf_model.specs.State.{State, is_common}
use Rattle.cf_model.specs.Things.{Thing, thing_at}
use Rattle.cf_model.specs.Deals.{Deal, answering, add_deal, common_deal, drop_deal, entering, every_place, held_at, holds_at, invalidate_deal, is_elsewhere, leaving, places_added, places_dropped, stays_in_one, thing_deal, with_item}
use Rattle.cf_model.specs.Own.{present_of}
use Rattle.cf_model.specs.Steps.{spend_if}
use Rattle.cf_loops.specs.Following.{AreLoops, AfterDeal}
use Rattle.cf_loops.proofs.Leaving.{objects_at}
use Rattle.cf_scene.specs.Scenes.{Mirrors}
use Rattle.cf_scene.specs.Dealing.{IsDone, adding, dropping, invalidating, spending}
use Rattle.cf_scene.specs.declared.dealt.Dealt.{Dealt}

-- a deal that answers and moves nothing leaves all as it is
pub nothing_done : (s : Script) (st : State) (by : ℕ) (deal : Deal) (a : Answer) (x : Dealt) (bodies : List Held)
    (loops : List Loop) → Mirrors st.parts bodies → AreLoops s st.parts st.edges loops
    → deal ≡ answering st.parts a → x.answer ≡ a → x.came ≡ 0 → x.went ≡ 0 → IsDone s st by deal x bodies loops
nothing_done s st by deal a x bodies loops mirrors loops_are is answer came went =
    rw is (record {
      answer = answer;
      came = rw came refl;
      went = rw went refl;
      mirrors = mirrors;
      loops_are = loops_are;
    })

-- ---- the branches of an addition

-- an item that is not valid is not added
pub add_invalid : (s : Script) (st : State) (t : ℕ) (place : Place) (i : ℕ) (x : Thing) → x.valid ≡ false
    → add_deal s st t place i x ≡ answering st.parts answers.Invalid
add_invalid s st t place i x invalid = rw invalid refl

-- what another loop holds and may not share is not added
pub add_elsewhere : (s : Script) (st : State) (t : ℕ) (place : Place) (i : ℕ) (x : Thing) → x.valid ≡ true
    → (stays_in_one (kind_of x.item) && is_elsewhere s t i st.edges) ≡ true
    → add_deal s st t place i x ≡ answering st.parts answers.Elsewhere
add_elsewhere s st t place i x valid elsewhere = rw (valid, elsewhere) refl

-- what is there is not added
pub add_present : (s : Script) (st : State) (t : ℕ) (place : Place) (i : ℕ) (x : Thing) → x.valid ≡ true
    → (stays_in_one (kind_of x.item) && is_elsewhere s t i st.edges) ≡ false
    → holds_at t i st.edges place ≡ true → add_deal s st t place i x ≡ answering st.parts answers.Present
add_present s st t place i x valid here there = rw (valid, here, there) refl

-- else it is added
pub add_enters : (s : Script) (st : State) (t : ℕ) (place : Place) (i : ℕ) (x : Thing) → x.valid ≡ true
    → (stays_in_one (kind_of x.item) && is_elsewhere s t i st.edges) ≡ false
    → holds_at t i st.edges place ≡ false
    → add_deal s st t place i x ≡ entering st.parts (held_at t i (places_added s t i st place))
add_enters s st t place i x valid here absent = rw (valid, here, absent) refl

-- what is left then
pub added_done : (s : Script) (st : State) (by t : ℕ) (place : Place) (i : ℕ) (n : ℕ) (bodies : List Held)
    (loops : List Loop) → adding s st t place i ≡ entering st.parts (held_at t i (places_added s t i st place))
    → n ≡ length (places_added s t i st place) → Mirrors st.parts bodies
    → AfterDeal s st by (entering st.parts (held_at t i (places_added s t i st place))) loops
    → IsDone s st by (adding s st t place i) (record { answer = answers.Ok; item = i; came = n; went = 0 }) bodies loops
added_done s st by t place i n bodies loops is count mirrors loops_are =
    subst (λ (deal : Deal). IsDone s st by deal (record { answer = answers.Ok; item = i; came = n; went = 0 }) bodies loops) (sym is)
    (record {
      answer = refl;
      came = objects_at t i (places_added s t i st place) ∙ ap (λ (k : ℕ). replicate k i) (sym count);
      went = refl;
      mirrors = mirrors;
      loops_are = loops_are;
    })

-- ---- the branches of a drop

-- what is not there is not dropped
pub drop_absent : (s : Script) (st : State) (t : ℕ) (place : Place) (i : ℕ) → holds_at t i st.edges place ≡ false
    → drop_deal s st t place i ≡ answering st.parts answers.Absent
drop_absent s st t place i absent = rw absent refl

-- else it leaves
drop_leaves : (s : Script) (st : State) (t : ℕ) (place : Place) (i : ℕ) → holds_at t i st.edges place ≡ true
    → drop_deal s st t place i ≡ leaving st.parts (present_of (held_at t i (places_dropped s t i st place)) st.edges)
drop_leaves s st t place i there = rw there refl

-- what is left then
pub dropped_done : (s : Script) (st : State) (by t : ℕ) (place : Place) (i : ℕ) (n : ℕ) (bodies : List Held)
    (loops : List Loop) → dropping s st t place i ≡ drop_deal s st t place i → holds_at t i st.edges place ≡ true
    → map (λ (r : Reference). r.object) (drop_deal s st t place i).leaves ≡ replicate n i → Mirrors st.parts bodies
    → AfterDeal s st by (drop_deal s st t place i) loops
    → IsDone s st by (dropping s st t place i) (record { answer = answers.Ok; item = i; came = 0; went = n }) bodies loops
dropped_done s st by t place i n bodies loops is there went mirrors loops_are =
    let left = drop_leaves s st t place i there in
    subst (λ (deal : Deal). IsDone s st by deal (record { answer = answers.Ok; item = i; came = 0; went = n }) bodies loops) (sym (is ∙ left))
    (record {
      answer = refl;
      came = refl;
      went = subst (λ (deal : Deal). map (λ (r : Reference). r.object) deal.leaves ≡ replicate n i) left went;
      mirrors = mirrors;
      loops_are = subst (λ (deal : Deal). AfterDeal s st by deal loops) left loops_are;
    })

-- ---- a common mode

-- what the deal of a common mode answers
pub common_answer : (st : State) (t m : ℕ) (b : Bool) → is_common t st.parts.commons m ≡ b
    → (if b then answers.Present else answers.Ok) ≡ (common_deal st t m).answer
common_answer st t m true e = rw e refl
common_answer st t m false e = rw e refl

-- ---- an item that is invalidated

-- an item that is not valid stays so
pub still_invalid : (s : Script) (st : State) (i : ℕ) (x : Thing) → x.valid ≡ false
    → invalidate_deal s st i x ≡ answering st.parts answers.Invalid
still_invalid s st i x invalid = rw invalid refl

-- a valid one is invalidated, and leaves every place
valid_leaves : (s : Script) (st : State) (i : ℕ) (x : Thing) → x.valid ≡ true
    → invalidate_deal s st i x ≡ leaving (with_item st.parts i false x.item) (present_of (every_place s i st.edges) st.edges)
valid_leaves s st i x valid = rw valid refl

-- what is left then
pub all_done : (s : Script) (st : State) (by i : ℕ) (x : Thing) (n : ℕ) (bodies : List Held) (loops : List Loop)
    → thing_at st.parts i ≡ Some x → x.valid ≡ true
    → map (λ (r : Reference). r.object) (leaving st.parts (present_of (every_place s i st.edges) st.edges)).leaves ≡ replicate n i
    → Mirrors (with_item st.parts i false x.item) bodies → AfterDeal s st by (invalidate_deal s st i x) loops
    → IsDone s st by (invalidating s st i) (record { answer = answers.Ok; item = i; came = 0; went = n }) bodies loops
all_done s st by i x n bodies loops is valid went mirrors loops_are =
    subst (λ (deal : Deal). IsDone s st by deal (record { answer = answers.Ok; item = i; came = 0; went = n }) bodies loops)
    (sym (ap (thing_deal st.parts i (λ o y. invalidate_deal s st o y)) is ∙ valid_leaves s st i x valid))
    (record {
      answer = refl;
      came = refl;
      went = went;
      mirrors = mirrors;
      loops_are = subst (λ (deal : Deal). AfterDeal s st by deal loops) (valid_leaves s st i x valid) loops_are;
    })

-- ---- an item that is spent

-- a valid item is invalidated
pub spend_valid : (s : Script) (st : State) (i : ℕ) (x : Thing) → thing_at st.parts i ≡ Some x → x.valid ≡ true
    → invalidating s st i ≡ spending s st i
spend_valid s st i x is valid =
    ap (thing_deal st.parts i (λ o y. invalidate_deal s st o y)) is ∙ sym (ap (spend_if s st i) is ∙ chosen x.valid valid)
  where
    chosen : (b : Bool) → b ≡ true → (if b then invalidate_deal s st i x else answering st.parts answers.Ok) ≡ invalidate_deal s st i x
    chosen true e = refl
    chosen false e = absurd cc

-- one that is not valid is left
pub spend_invalid : (s : Script) (st : State) (i : ℕ) (x : Thing) → thing_at st.parts i ≡ Some x → x.valid ≡ false
    → spending s st i ≡ answering st.parts answers.Ok
spend_invalid s st i x is invalid = ap (spend_if s st i) is ∙ chosen x.valid invalid
  where
    chosen : (b : Bool) → b ≡ false → (if b then invalidate_deal s st i x else answering st.parts answers.Ok) ≡ answering st.parts answers.Ok
    chosen false e = refl
    chosen true e = absurd cc

-- ---- what a loop may share

-- what may be in several loops
pub may_share : (a b : Bool) → a ≡ false → (a && b) ≡ false
may_share false b e = refl
may_share true b e = absurd cc

-- what is in no other loop
pub stays_alone : (a b : Bool) → b ≡ false → (a && b) ≡ false
stays_alone false b e = refl
stays_alone true b e = e
