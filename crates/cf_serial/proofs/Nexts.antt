-- What the next of a thread tells, and how a run ends where the thread that is picked may not act.
use Rattle.std.proofs.Common.{◌≡◌, ℕ, ◌<◌, ◌≤◌, Bool, true, false, cond, List, [], ◌∷◌, length, Option, Some, None, refl, sym, ap, ◌∙◌, subst, arith}
use Rattle.std.specs.Prelude.{nat_le, not, ◌&&◌, IsTrue, IsSomeAnd}
use Rattle.std.proofs.lemmas.Bool.Decides.{nat_tests}
use Rattle.cf_syntax.specs.declared.script.Script.{Script}
use Rattle.cf_next.specs.declared.action.Action.{Action}
use Rattle.cf_next.specs.Demands.{Demand}
use Rattle.cf_next.specs.Next.{action_if}
use Rattle.cf_model.specs.declared.entry.Entry.{Entry}
use Rattle.cf_model.specs.declared.ending.Ending.TheVariants as endings
use Rattle.cf_model.specs.State.{State, flags_at, stand_at}
use Rattle.cf_model.specs.Known.{facts_of}
use Rattle.cf_model.specs.Steps.{demanded, frames_at}
use Rattle.cf_model.specs.Journals.{After, Next as next_action, all_sleep, can_go, has_stalled, IsWhole, makes, sleeps}
use Rattle.cf_model.specs.Serial.{picked, pointer_of}
use Rattle.cf_model.proofs.BlockFrames.{demands_until_done}
use Rattle.cf_model.proofs.Leading.{can_not_sleep, lead_tells}
use Rattle.cf_world.specs.declared.next.Next.{Next}
use Rattle.cf_world.specs.declared.next.Next.TheVariants as nexts
use Rattle.cf_world.specs.Worlds.{next_if, next_of}
use Rattle.cf_serial.specs.Running.{EndsBy}

-- ---- tests of a thread

none_and : (a b : Bool) → b ≡ true → (a && not b) ≡ false
none_and true true e = refl
none_and true false e = absurd cc
none_and false b e = refl

all_three : (a d z : Bool) → a ≡ true → d ≡ false → z ≡ false → ((a && not d) && not z) ≡ true
all_three true false false e f g = refl
all_three true false true e f g = absurd cc
all_three true true z e f g = absurd cc
all_three false d z e f g = absurd cc

both_true : (a b : Bool) → (a && not b) ≡ true → a ≡ true
both_true true b e = refl
both_true false b e = absurd cc

second_false : (a b : Bool) → (a && not b) ≡ true → b ≡ false
second_false true true e = absurd cc
second_false true false e = refl
second_false false b e = absurd cc

-- an action may be done: it is the next one, the journal has room for its entry, and it makes no object too many
pub record MayAct (s : Script) (limit : ℕ) (journal : List Entry) (t : ℕ) (a : Action) : Type 0 where
  pub next : next_action s (After s journal) t ≡ Some a
  pub can : can_go (After s journal) t ≡ true
  pub below : length journal < limit
  pub room : makes s (After s journal) t ≡ true → length (After s journal).parts.objects < 65536

-- a thread makes an object too many
pub record IsTooMany (s : Script) (limit : ℕ) (journal : List Entry) (t : ℕ) : Type 0 where
  pub can : can_go (After s journal) t ≡ true
  pub below : length journal < limit
  pub making : makes s (After s journal) t ≡ true
  pub made : 65536 ≤ length (After s journal).parts.objects

-- what the next of a thread tells
abbrev pub NextTells : Script → (limit : ℕ) → List Entry → ℕ → Next → Type 0
NextTells s limit journal t (nexts.Act a) = MayAct s limit journal t a
NextTells s limit journal t nexts.Limit = (can_go (After s journal) t ≡ true) × (limit ≤ length journal)
NextTells s limit journal t nexts.Full = IsTooMany s limit journal t
NextTells s limit journal t _ = can_go (After s journal) t ≡ false

module _ (s : Script) (limit : ℕ) (journal : List Entry) (t : ℕ) where
  abbrev st : State
  st = After s journal

  abbrev started : Bool
  started = (flags_at t st.parts.flags).is_started

  abbrev done : Bool
  done = (stand_at t st.stands).is_done

  below : (a : Action) (l m f : Bool) → next_action s st t ≡ Some a → can_go st t ≡ true
      → nat_le limit (length journal) ≡ l → makes s st t ≡ m → nat_le 65536 (length st.parts.objects) ≡ f
      → NextTells s limit journal t (cond l nexts.Limit (cond (m && f) nexts.Full (nexts.Act a)))
  below a true m f e can ll mm ff = (can, reached)
    where
      reached : limit ≤ length journal
      reached = grind (arith, nat_tests)
  below a false true true e can ll mm ff = record { can = can; below = within; making = mm; made = full }
    where
      within : length journal < limit
      within = grind (arith, nat_tests)

      full : 65536 ≤ length st.parts.objects
      full = grind (arith, nat_tests)
  below a false true false e can ll mm ff = record { next = e; can = can; below = within; room = λ q. room }
    where
      within : length journal < limit
      within = grind (arith, nat_tests)

      room : length st.parts.objects < 65536
      room = grind (arith, nat_tests)
  below a false false f e can ll mm ff = record { next = e; can = can; below = within; room = λ q. absurd (no_both q) }
    where
      within : length journal < limit
      within = grind (arith, nat_tests)

      no_both : makes s st t ≡ true → ⊥
      no_both q = let no : true ≡ false = sym q ∙ mm in cc

  none_action : (o : Option Demand) → action_if s (facts_of st) t (frames_at t st) o ≡ None → o ≡ None
  none_action None e = refl
  none_action (Some d) e = absurd cc

  module _ (lt : t < s.thread_count) where
    at_next : (o : Option Action) → next_action s st t ≡ o → can_go st t ≡ true → done ≡ false
        → NextTells s limit journal t (next_if s limit journal t o)
    at_next None e can going =
        absurd (demands_until_done s journal t lt going (none_action (demanded s st t)
        (ap (λ (b : Bool). cond b (action_if s (facts_of st) t (frames_at t st) (demanded s st t)) None) (sym can) ∙ e)))
    at_next (Some a) e can going =
        below a (nat_le limit (length journal)) (makes s st t) (nat_le 65536 (length st.parts.objects)) e can refl refl refl

    by : (b d z : Bool) → started ≡ b → done ≡ d → sleeps st t ≡ z
        → NextTells s limit journal t (cond (not b) nexts.Waiting (cond d nexts.Done (cond z nexts.Asleep (next_if s limit journal t (next_action s st t)))))
    by false d z e f g = ap (λ (b : Bool). (b && not done) && not (sleeps st t)) e
    by true true z e f g = ap (λ (b : Bool). b && not (sleeps st t)) (none_and started done f)
    by true false true e f g = none_and (started && not done) (sleeps st t) g
    by true false false e f g = at_next (next_action s st t) refl (all_three started done (sleeps st t) e f g) f

    pub next_tells : NextTells s limit journal t (next_of s limit journal t)
    next_tells = by started done (sleeps st t) refl refl refl

    -- ---- endings

    module _ (within : length journal ≤ limit) (asleep : has_stalled journal ≡ true → all_sleep s st ≡ true) (can : can_go st t ≡ true) where
      unstalled_if : (b : Bool) → has_stalled journal ≡ b → b ≡ false
      unstalled_if true e = absurd (can_not_sleep s st t lt can (asleep e))
      unstalled_if false e = refl

      pub unstalled : has_stalled journal ≡ false
      unstalled = unstalled_if (has_stalled journal) refl

      not_whole : IsWhole s journal → ⊥
      not_whole h = (lead_tells s journal).going t lt can h

      pub ends_at_limit : limit ≤ length journal → EndsBy (Some s) limit journal endings.Limit
      ends_at_limit reached = ((unstalled, not_whole, omega (arith, within, reached)), tt)

-- a run ends full if the thread that is picked makes an object too many
pub ends_full : (s : Script) (limit : ℕ) (journal : List Entry) (t : ℕ) → t < s.thread_count
    → length journal ≤ limit → (has_stalled journal ≡ true → all_sleep s (After s journal) ≡ true)
    → length (After s journal).parts.objects ≤ 65536
    → picked s (After s journal) (pointer_of s journal) ≡ Some t → IsTooMany s limit journal t
    → EndsBy (Some s) limit journal endings.Full
ends_full s limit journal t lt within asleep most pick h = (
  (
    unstalled s limit journal t lt within asleep h.can,
    (λ whole. (lead_tells s journal).going t lt h.can whole),
    h.below,
    record { thread = t; going = h.can; making = h.making; made = omega (arith, h.made, most) },
  ),
  subst (λ (o : Option ℕ). IsSomeAnd o (λ u. IsTrue (makes s (After s journal) u))) (sym pick) h.making,
)
