-- A journal grows by an entry at its end.
use Rattle.std.proofs.Common.{◌≡◌, ℕ, Bool, true, false, ◌||◌, List, [], ◌∷◌, ◌++◌, refl, sym, ap, ◌∙◌}
use Rattle.cf_syntax.specs.declared.script.Script.{Script}
use Rattle.cf_next.specs.declared.action.Action.{Action}
use Rattle.cf_next.specs.declared.action.Action.TheVariants as actions
use Rattle.cf_model.specs.declared.entry.Entry.{Entry}
use Rattle.cf_model.specs.State.{State, start}
use Rattle.cf_model.specs.Journals.{after_action, state_from, After, IsLegalEntry, IsLastIf, IsLegalFrom, is_stall, has_stalled}
use Rattle.cf_model.specs.Serial.{picked, picked_or_lead, moved_by, IsSerialFrom, pointer_after}
use Rattle.cf_model.specs.Growing.{GrowsBy}
use Rattle.cf_model.proofs.Entries.{state-append}

-- ---- the state

pub after-more : (s : Script) (es : List Entry) (e : Entry)
    → After s (es ++ e ∷ []) ≡ after_action s e.thread (After s es) e.action
after-more s es e = state-append s (start s) es (e ∷ [])

-- ---- stalls

or_right : (b : Bool) → b ≡ (b || false)
or_right true = refl
or_right false = refl

or_three : (a b c : Bool) → (a || (b || c)) ≡ ((a || b) || c)
or_three true b c = refl
or_three false b c = refl

none_first : (a b : Bool) → (a || b) ≡ false → a ≡ false
none_first true b e = e
none_first false b e = refl

none_second : (a b : Bool) → (a || b) ≡ false → b ≡ false
none_second true b e = absurd cc
none_second false b e = e

pub stalled-more : (es : List Entry) (e : Entry) → has_stalled (es ++ e ∷ []) ≡ (has_stalled es || is_stall e.action)
stalled-more [] e = sym (or_right (is_stall e.action))
stalled-more (f ∷ es) e =
    ap (λ (b : Bool). is_stall f.action || b) (stalled-more es e) ∙ or_three (is_stall f.action) (has_stalled es)
    (is_stall e.action)

-- ---- legal journals

last_alone : (a : Action) → IsLastIf a []
last_alone actions.Stall = refl
last_alone a = tt

last_unless_stall : (a : Action) (es : List Entry) → is_stall a ≡ false → IsLastIf a es
last_unless_stall actions.Stall es e = absurd cc
last_unless_stall a es e = tt

pub legal-more : (s : Script) (st : State) (es : List Entry) (e : Entry) → IsLegalFrom s st es → has_stalled es ≡ false
    → IsLegalEntry s (state_from s st es) e → IsLegalFrom s st (es ++ e ∷ [])
legal-more s st [] e h none last = (last, last_alone e.action, tt)
legal-more s st (f ∷ es) e h none last = (
  h.0,
  last_unless_stall f.action (es ++ e ∷ []) (none_first (is_stall f.action) (has_stalled es) none),
  legal-more s (after_action s f.thread st f.action) es e h.2
      (none_second (is_stall f.action) (has_stalled es) none) last,
)

-- a beginning of a legal journal is legal
last_begin : (a : Action) (es fs : List Entry) → IsLastIf a (es ++ fs) → IsLastIf a es
last_begin actions.Stall [] fs h = refl
last_begin actions.Stall (e ∷ es) fs h = absurd cc
last_begin a es fs h = tt

pub legal-begin : (s : Script) (st : State) (es fs : List Entry) → IsLegalFrom s st (es ++ fs) → IsLegalFrom s st es
legal-begin s st [] fs h = tt
legal-begin s st (e ∷ es) fs h =
    (h.0, last_begin e.action es fs h.1, legal-begin s (after_action s e.thread st e.action) es fs h.2)

-- ---- the serial order

pub serial-more : (s : Script) (st : State) (p : ℕ) (es : List Entry) (e : Entry) → IsSerialFrom s st p es
    → e.thread ≡ picked_or_lead (picked s (state_from s st es) (pointer_after s st p es)) → IsSerialFrom s st p
    (es ++ e ∷ [])
serial-more s st p [] e h q = (q, tt)
serial-more s st p (f ∷ es) e h q =
    (h.0, serial-more s (after_action s f.thread st f.action) (moved_by p (picked s st p)) es e h.1 q)

pub pointer-more : (s : Script) (st : State) (p : ℕ) (es : List Entry) (e : Entry)
    → let q = pointer_after s st p es in pointer_after s st p (es ++ e ∷ []) ≡ moved_by q
    (picked s (state_from s st es) q)
pointer-more s st p [] e = refl
pointer-more s st p (f ∷ es) e =
    pointer-more s (after_action s f.thread st f.action) (moved_by p (picked s st p)) es e

pub grows_by : (s : Script) (es : List Entry) (e : Entry) → GrowsBy s es e
grows_by s es e = record {
  after = after-more s es e;
  legal = λ h none last. legal-more s (start s) es e h none last;
  begun = λ h. legal-begin s (start s) es (e ∷ []) h;
  stalled = stalled-more es e;
  order = λ h q. serial-more s (start s) 0 es e h q;
  pointer = pointer-more s (start s) 0 es e;
}
