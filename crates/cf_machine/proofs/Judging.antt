-- A journal is legal where each of its entries is, one after another, and there is room for what is left.
use Rattle.std.proofs.Common.{◌≡◌, Bool, suc, ◌+◌, ◌≤◌, true, List, [], ◌∷◌, length, sym, ap, subst, arith}
use Rattle.std.specs.Prelude.{◌↔◌, IfOk, Result}
use Rattle.std.specs.declared.result.Result.TheVariants.{Ok, Err}
use Rattle.cf_ids.specs.declared.limits.TheConstants.{LARGEST_LIMIT}
use Rattle.cf_syntax.specs.declared.script.Script.{Script}
use Rattle.cf_model.specs.declared.entry.Entry.{Entry}
use Rattle.cf_model.specs.Finals.{FinalsFit}
use Rattle.cf_model.specs.State.{State, start}
use Rattle.cf_model.specs.Journals.{IsLastIf, IsLegal, IsLegalEntry, IsLegalFrom, after_action}
use Rattle.cf_model.proofs.Finality.{finals_fit}
use Rattle.cf_model.proofs.Held.{never_gained}
use Rattle.cf_history.specs.Callouts.{CalloutsFit}
use Rattle.cf_history.proofs.CalloutLaws.{callouts_fit}
use Rattle.cf_machine.specs.Entering.{GrowsByOne, HasRoom}

-- the journal is legal where what is left is, from this state on, and there is room for what is left
pub record AreLeft (s : Script) (all rest : List Entry) (st : State) : Type 0 where
  pub legal : IsLegalFrom s st rest ↔ IsLegal s all
  pub slots : length st.parts.dropped + length rest ≤ LARGEST_LIMIT
  pub registrations : length st.parts.registrations + length rest ≤ LARGEST_LIMIT

-- at first all entries are left
pub left-first : (s : Script) (es : List Entry) (st : State) → st ≡ start s → length es ≤ LARGEST_LIMIT
    → AreLeft s es es st
left-first s es st is short =
    subst (AreLeft s es es) (sym is) (record { legal = (λ h. h, λ h. h); slots = omega (arith, short); registrations = omega (arith, short) })

-- there is room for the next one
pub left-room : (s : Script) (all rest others : List Entry) (e : Entry) (st : State) → rest ≡ e ∷ others
    → AreLeft s all rest st → HasRoom st.parts
left-room s all rest others e st is h =
    let long : length rest ≡ suc (length others) = ap length is in
    record { slots = omega (arith, long, h.slots); registrations = omega (arith, long, h.registrations) }

-- one that is legal, and is the last if it is a stall, leaves the others
pub left-next : (s : Script) (all rest others : List Entry) (e : Entry) (st next : State) → rest ≡ e ∷ others
    → (IsLegalEntry s st e × IsLastIf e.action others) → next ≡ after_action s e.thread st e.action
    → GrowsByOne st.parts next.parts → AreLeft s all rest st → AreLeft s all others next
left-next s all rest others e st next is good after grows h =
    let long : length rest ≡ suc (length others) = ap length is in
    record {
      legal = (
        λ more. h.legal.0 (subst (IsLegalFrom s st) (sym is) (good.0, good.1, subst (λ x. IsLegalFrom s x others) after more)),
        λ whole. subst (λ x. IsLegalFrom s x others) (sym after) (subst (IsLegalFrom s st) is (h.legal.1 whole)).2,
      );
      slots = omega (arith, long, grows.slots, h.slots);
      registrations = omega (arith, long, grows.registrations, h.registrations);
    }

-- any other makes the journal illegal
pub left-not : (s : Script) (all rest others : List Entry) (e : Entry) (st : State) → rest ≡ e ∷ others
    → ((IsLegalEntry s st e × IsLastIf e.action others) → ⊥) → AreLeft s all rest st → IsLegal s all → ⊥
left-not s all rest others e st is not h whole =
    let from = subst (IsLegalFrom s st) is (h.legal.1 whole) in not (from.0, from.1)

-- where none is left, it is legal
pub left-none : (s : Script) (all rest : List Entry) (st : State) → rest ≡ [] → AreLeft s all rest st → IsLegal s all
left-none s all rest st is h = h.legal.0 (subst (IsLegalFrom s st) (sym is) tt)

-- callouts and finals of a legal journal fit
pub callouts-of : {E : Type 0} (r : Result Bool E) (s : Script) (es : List Entry)
    → IfOk r (λ b. (b ≡ true) ↔ IsLegal s es) → IfOk r (λ b. b ≡ true → CalloutsFit s es)
callouts-of (Ok b) s es h = λ yes. callouts_fit s es (h.0 yes)
callouts-of (Err e) s es h = tt

pub finals-of : {E : Type 0} (r : Result Bool E) (s : Script) (es : List Entry)
    → IfOk r (λ b. (b ≡ true) ↔ IsLegal s es) → IfOk r (λ b. b ≡ true → FinalsFit s es)
finals-of (Ok b) s es h = λ yes. let legal = h.0 yes in finals_fit s es legal (never_gained s es legal)
finals-of (Err e) s es h = tt
