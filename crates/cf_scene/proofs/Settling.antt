-- What the deals of statements over run loops leave to bodies, loops and flags.
use Rattle.std.proofs.Common.{◌≡◌, ℕ, ◌<◌, ◌≤◌, ◌∙◌, Bool, true, false, List, [], ◌∷◌, length, map, replicate, Option, Some, None, refl, sym, ap, subst, arith}
use Rattle.std.specs.Prelude.{IfSome}
use Rattle.rl_base.specs.Modes.{items_gained, rank}
use Rattle.rl_modes.specs.Loops.{Loop}
use Rattle.cf_ids.specs.declared.answer.Answer.{Answer}
use Rattle.cf_ids.specs.declared.answer.Answer.TheVariants as answers
use Rattle.cf_ids.specs.declared.numbers.ItemKind.{ItemKind}
use Rattle.cf_syntax.specs.declared.mention.ThreadWord.{ThreadWord}
use Rattle.cf_syntax.specs.declared.mention.ModeWord.{ModeWord}
use Rattle.cf_syntax.specs.declared.mention.ModeWord.TheVariants as words
use Rattle.cf_syntax.specs.declared.script.Script.{Script}
use Rattle.cf_syntax.specs.declared.statement.Statement.{Statement}
use Rattle.cf_syntax.specs.declared.statement.Statement.TheVariants as forms
use Rattle.cf_syntax.specs.Mentions.{first_of}
use Rattle.cf_syntax.specs.Numbered.{mode_word}
use Rattle.cf_graph.specs.Holders.{in_mode, owed}
use Rattle.cf_graph.specs.Edges.{Reference, held_by, has}
use Rattle.cf_graph.specs.Flows.{flowed, grows, still}
use Rattle.cf_contents.specs.Items.{Item, source_item, timer_item, observer_item, kind_of}
use Rattle.cf_contents.specs.Deeds.{in_item}
use Rattle.cf_contents.specs.Stores.{Held}
use Rattle.cf_next.specs.Stands.{has_run}
use Rattle.cf_model.specs.State.{Parts, State, is_common, stand_at}
use Rattle.cf_model.specs.Things.{Thing, thing_at}
use Rattle.cf_model.specs.Own.{moves_to}
use Rattle.cf_model.specs.Deals.{Deal, answering, common_deal, common_items, deal_of, okay, place_in, signal_deal, signal_source, stop_deal, thread_in, wake_parts, with_thing, with_used}
use Rattle.cf_loops.specs.Following.{AfterDeal, AreLoops, SameItems, kind_in}
use Rattle.cf_loops.proofs.Staying.{kept_by_flow, kinds_changed}
use Rattle.cf_scene.specs.Acts.{Brings, IsDealt}
use Rattle.cf_scene.specs.Dealing.{IsDone}
use Rattle.cf_scene.specs.Scenes.{Mirrors, all_flags}
use Rattle.cf_scene.specs.declared.dealt.Dealt.{Dealt}
use Rattle.cf_scene.specs.declared.flags.Flags.{Flags}
use Rattle.cf_scene.proofs.OverLoops.{IsQuietForm, deal_quiet}
use Rattle.cf_scene.proofs.Naming.{of_thing, of_two, of_used}

-- ---- what words name

-- a thread that is named is one of the script's, as there is a loop of each
pub thread_there : (s : Script) (p : Parts) (es : List Reference) (loops : List Loop) (u : Option ℕ) (w : ℕ)
    → AreLoops s p es loops → u ≡ Some w → IfSome u (λ v. v < length loops) → w < s.thread_count
thread_there s p es loops u w h is below =
    subst (λ (n : ℕ). w < n) h.threads (subst (λ (o : Option ℕ). IfSome o (λ v. v < length loops)) is below)

-- a place that a word names is one of a loop's
pub place_within : (n : ℕ) (w : ModeWord) → IfSome (mode_word w) (λ m. m < n) → rank (place_in w) ≤ n
place_within n words.Common named = omega arith
place_within n (words.Mode m) named = omega (arith, named)

-- ---- deals that move nothing

-- a deal moves nothing, and the loops cannot tell the parts that it leaves from those before
pub record IsStill (p : Parts) (deal : Deal) : Type 0 where
  pub enters : deal.enters ≡ []
  pub leaves : deal.leaves ≡ []
  pub items : SameItems p deal.parts

-- so the loops are those of the state after it
pub still_after : (s : Script) (st : State) (by : ℕ) (deal : Deal) (loops : List Loop)
    → AreLoops s st.parts st.edges loops → IsStill st.parts deal → AfterDeal s st by deal loops
still_after s st by deal loops h is =
    subst (λ (es : List Reference). AreLoops s deal.parts (flowed (grows es (moves_to (owed by) deal.leaves)) st.edges) loops) (sym is.enters)
    (subst (λ (ls : List Reference). AreLoops s deal.parts (flowed (grows [] (moves_to (owed by) ls)) st.edges) loops) (sym is.leaves)
    (kept_by_flow s st.parts deal.parts st.edges still loops h is.items (tt, tt) (λ r. omega arith)))

-- the same items
same : (p : Parts) → SameItems p p
same p = record { commons = refl; kinds = λ i k e. e }

-- an answer alone moves nothing
pub still_answer : (p : Parts) (a : Answer) → IsStill p (answering p a)
still_answer p a = record { enters = refl; leaves = refl; items = same p }

-- ---- signals

-- an item that is there is of its kind
kind_told : (p : Parts) (i : ℕ) (x : Thing) (j k : ItemKind) → thing_at p i ≡ Some x → kind_of x.item ≡ j
    → kind_in (thing_at p i) ≡ Some k → j ≡ k
kind_told p i x j k there is e =
    let both : ◌≡◌ {A = Option ItemKind} (Some (kind_of x.item)) (Some k) = sym (ap kind_in there) ∙ e in
    sym is ∙ some_is (kind_of x.item) k both
  where
    some_is : (a b : ItemKind) → ◌≡◌ {A = Option ItemKind} (Some a) (Some b) → a ≡ b
    some_is a b e = cc

-- a source that is signalled is a source
signal_still : (p : Parts) (i : ℕ) (x : Thing) → thing_at p i ≡ Some x → (item : Item) → x.item ≡ item
    → IsStill p (signal_deal p i x.valid item)
signal_still p i x there (source_item order signalled) is = by x.valid
  where
    by : (b : Bool) → IsStill p (signal_source p i b order)
    by true = record {
      enters = refl;
      leaves = refl;
      items = record {
        commons = refl;
        kinds = kinds_changed i (in_item true (source_item order true)) p.objects (λ k e. kind_told p i x (kind_of (source_item order true)) k there (ap kind_of is) e);
      };
    }
    by false = still_answer p answers.Invalid
signal_still p i x there (timer_item first interval date) is = still_answer p answers.Skip
signal_still p i x there (observer_item mask repeats order) is = still_answer p answers.Skip

-- a signal moves nothing
pub named_signal_still : (p : Parts) (o : Option ℕ)
    → IsStill p (with_thing p o (λ i x. signal_deal p i x.valid x.item))
named_signal_still p o =
    of_thing (IsStill p) p (still_answer p answers.Skip) o (λ i x. signal_deal p i x.valid x.item)
    (λ i x is. signal_still p i x is x.item refl)

-- ---- threads

-- a deal changes flags of threads alone
pub record ChangesFlags (p : Parts) (deal : Deal) : Type 0 where
  pub is_still : IsStill p deal
  pub mirrors : (bodies : List Held) → Mirrors p bodies → Mirrors deal.parts bodies

quiet : (p : Parts) (a : Answer) → ChangesFlags p (answering p a)
quiet p a = record { is_still = still_answer p a; mirrors = λ bodies h. h }

awake : (p : Parts) (w : ℕ) (stops : Option ℕ) → ChangesFlags p (record (okay (wake_parts p w)) { stops = stops })
awake p w stops = record {
  is_still = record { enters = refl; leaves = refl; items = record { commons = refl; kinds = λ i k e. e } };
  mirrors = λ bodies h. record { objects_are = h.objects_are; live = h.live; given_up = h.given_up };
}

-- such is a wake
pub wake_changes : (p : Parts) (u : Option ℕ) → ChangesFlags p (with_used p u (λ w. okay (wake_parts p w)))
wake_changes p u =
    of_used (ChangesFlags p) p (quiet p answers.Skip) u (λ w. okay (wake_parts p w)) (λ w. awake p w None)

-- and a stop
pub stop_changes : (st : State) (u : Option ℕ) → ChangesFlags st.parts (with_used st.parts u (stop_deal st))
stop_changes st u =
    of_used (ChangesFlags st.parts) st.parts (quiet st.parts answers.Skip) u (stop_deal st)
    (λ w. of_two (ChangesFlags st.parts) (has_run (stand_at w st.stands).frames) (record (okay (wake_parts st.parts w)) { stops = Some w }) (answering st.parts answers.Idle)
    (awake st.parts w (Some w)) (quiet st.parts answers.Idle))

-- ---- common modes

-- a common mode changes no body, and takes nothing out of a place
pub record KeepsBodies (p : Parts) (deal : Deal) : Type 0 where
  pub leaves : deal.leaves ≡ []
  pub mirrors : (bodies : List Held) → Mirrors p bodies → Mirrors deal.parts bodies

pub common_keeps : (st : State) (m : ℕ) (u : Option ℕ)
    → KeepsBodies st.parts (with_used st.parts u (λ w. common_deal st w m))
common_keeps st m u =
    of_used (KeepsBodies st.parts) st.parts (none answers.Skip) u (λ w. common_deal st w m)
    (λ w. of_two (KeepsBodies st.parts) (is_common w st.parts.commons m) (answering st.parts answers.Present) (more w) (none answers.Present)
    (record { leaves = refl; mirrors = λ bodies h. record { objects_are = h.objects_are; live = h.live; given_up = h.given_up } }))
  where
    none : (a : Answer) → KeepsBodies st.parts (answering st.parts a)
    none a = record { leaves = refl; mirrors = λ bodies h. h }

    more : ℕ → Deal
    more w = record (okay st.parts) {
      parts = record st.parts { commons = record { thread = w; mode = m } ∷ st.parts.commons };
      enters = map (held_by (in_mode w m)) (items_gained (λ i. has (in_mode w m) i st.edges) (common_items st w));
    }

-- ---- what is dealt

none_moved : (rs : List Reference) (n item : ℕ) → rs ≡ [] → n ≡ 0
    → map (λ (r : Reference). r.object) rs ≡ replicate n item
none_moved rs n item e f = rw (e, f) refl

module _ (s : Script) (st : State) (by : ℕ) (statement : Statement) (deal : Deal) (x : Dealt) (bodies : List Held) (loops : List Loop) (flags : List Flags) (flags_are : all_flags flags ≡ deal.parts.flags) where
  -- by what is done to bodies and loops
  pub dealt_of_done : (map (λ (r : Reference). r.object) deal.enters ≡ replicate x.came x.item → Brings statement deal x)
      → IsDone s st by deal x bodies loops → IsDealt s st by deal statement x bodies loops flags
  dealt_of_done one h = record {
    answer = h.answer;
    came = one h.came;
    went = h.went;
    mirrors = h.mirrors;
    flags_are = flags_are;
    loops_are = h.loops_are;
  }

  -- by an answer alone
  pub dealt_of_answer : (a : Answer) → x.answer ≡ a → Brings statement deal x → x.went ≡ 0 → a ≡ deal.answer
      → deal.leaves ≡ [] → Mirrors deal.parts bodies
      → AfterDeal s st by deal loops → IsDealt s st by deal statement x bodies loops flags
  dealt_of_answer a answer came went is leaves mirrors loops_are = record {
    answer = answer ∙ is;
    came = came;
    went = none_moved deal.leaves x.went x.item leaves went;
    mirrors = mirrors;
    flags_are = flags_are;
    loops_are = loops_are;
  }

-- ---- what statements leave

module _ (s : Script) (t : ℕ) (st : State) (used : List (Option ℕ)) (flags : List Flags) (same_flags : st.parts.flags ≡ all_flags flags) where
  -- the flags of a quiet form are those before
  flags_stay : (x : Statement) → IsQuietForm x → all_flags flags ≡ (deal_of s t st x used).parts.flags
  flags_stay x quiet = sym same_flags ∙ sym (deal_quiet s t st x used quiet).flags

  -- a quiet form, by what is done to bodies and loops
  pub said_done : (y x : Statement) (deal : Option ℕ → Deal) (object : Option ℕ) (result : Dealt) (bodies : List Held)
      (loops : List Loop) → y ≡ x → IsQuietForm x → deal_of s t st x used ≡ deal (first_of used)
      → first_of used ≡ object
      → (map (λ (r : Reference). r.object) (deal_of s t st x used).enters ≡ replicate result.came result.item → Brings x (deal_of s t st x used) result)
      → IsDone s st t (deal object) result bodies loops
      → IsDealt s st t (deal_of s t st y used) y result bodies loops flags
  said_done y x deal object result bodies loops is quiet e first one h =
      subst (λ (z : Statement). IsDealt s st t (deal_of s t st z used) z result bodies loops flags) (sym is)
      (dealt_of_done s st t x (deal_of s t st x used) result bodies loops flags (flags_stay x quiet) one
      (subst (λ (d : Deal). IsDone s st t d result bodies loops) (sym (e ∙ ap deal first)) h))

  module _ (y : Statement) (result : Dealt) (a : Answer) (answer : result.answer ≡ a) (came : result.came ≡ 0) (went : result.went ≡ 0) (bodies : List Held) (mirrors : Mirrors st.parts bodies) (loops : List Loop) where
    -- a common mode
    pub said_common : (thread : ThreadWord) (m : ℕ) → y ≡ forms.Common thread m
        → a ≡ (with_used st.parts (thread_in t thread) (λ w. common_deal st w m)).answer
        → AfterDeal s st t (with_used st.parts (thread_in t thread) (λ w. common_deal st w m)) loops
        → IsDealt s st t (deal_of s t st y used) y result bodies loops flags
    said_common thread m is told after =
        let kept = common_keeps st m (thread_in t thread) in
        subst (λ (z : Statement). IsDealt s st t (deal_of s t st z used) z result bodies loops flags) (sym is)
        (dealt_of_answer s st t (forms.Common thread m) (deal_of s t st (forms.Common thread m) used) result bodies loops flags (flags_stay (forms.Common thread m) tt)
        a answer came went told kept.leaves (kept.mirrors bodies mirrors) after)

    module _ (loops_are : AreLoops s st.parts st.edges loops) where
      -- a signal, after which there are other bodies
      pub said_signal : (source : ℕ) (object : Option ℕ) (after : List Held) → y ≡ forms.Signal source
          → first_of used ≡ object
          → a ≡ (with_thing st.parts object (λ i x. signal_deal st.parts i x.valid x.item)).answer
          → Mirrors (with_thing st.parts object (λ i x. signal_deal st.parts i x.valid x.item)).parts after
          → IsDealt s st t (deal_of s t st y used) y result after loops flags
      said_signal source object after is first told changed =
          let still = named_signal_still st.parts (first_of used) in
          let signalled : Option ℕ → Deal = λ o. with_thing st.parts o (λ i x. signal_deal st.parts i x.valid x.item) in
          subst (λ (z : Statement). IsDealt s st t (deal_of s t st z used) z result after loops flags) (sym is)
          (dealt_of_answer s st t (forms.Signal source) (signalled (first_of used)) result after loops flags (flags_stay (forms.Signal source) tt)
          a answer (none_moved (signalled (first_of used)).enters result.came result.item still.enters came) went (subst (λ (o : Option ℕ). a ≡ (signalled o).answer) (sym first) told) still.leaves
          (subst (λ (o : Option ℕ). Mirrors (signalled o).parts after) (sym first) changed)
          (still_after s st t (signalled (first_of used)) loops loops_are still))

      -- what changes flags alone, after which there are others
      pub said_flags : (x : Statement) (after : List Flags) → y ≡ x → ChangesFlags st.parts (deal_of s t st x used)
          → a ≡ (deal_of s t st x used).answer → all_flags after ≡ (deal_of s t st x used).parts.flags
          → (map (λ (r : Reference). r.object) (deal_of s t st x used).enters ≡ replicate result.came result.item → Brings x (deal_of s t st x used) result)
          → IsDealt s st t (deal_of s t st y used) y result bodies loops after
      said_flags x after is changes told changed one =
          let still = changes.is_still in
          subst (λ (z : Statement). IsDealt s st t (deal_of s t st z used) z result bodies loops after) (sym is)
          (dealt_of_answer s st t x (deal_of s t st x used) result bodies loops after changed a answer (one (none_moved (deal_of s t st x used).enters result.came result.item still.enters came)) went told still.leaves
          (changes.mirrors bodies mirrors) (still_after s st t (deal_of s t st x used) loops loops_are still))
