-- How many references a mode gains at most that becomes a common one.
use Rattle.std.proofs.Common.{◌≡◌, ℕ, ◌≤◌, Bool, true, false, not, cond, List, [], ◌∷◌, length, map, Option, Some, None, subst, arith}
use Rattle.std.specs.Prelude.{filter}
use Rattle.std.proofs.lemmas.List.{length-map}
use Rattle.rl_base.specs.Modes.{items_gained}
use Rattle.cf_ids.specs.declared.answer.Answer.TheVariants as answers
use Rattle.cf_syntax.specs.declared.script.Script.{Script}
use Rattle.cf_syntax.specs.declared.statement.Statement.TheVariants as forms
use Rattle.cf_syntax.specs.declared.mention.ThreadWord.{ThreadWord}
use Rattle.cf_graph.specs.Holders.{in_mode}
use Rattle.cf_graph.specs.Edges.{held_by, has}
use Rattle.cf_model.specs.State.{State, is_common}
use Rattle.cf_model.specs.Deals.{answering, common_deal, common_items, okay, thread_in, with_used}
use Rattle.cf_scene.specs.Needs.{AtMost, FitsCommon, MovesAtMost}

filter_few : (f : ℕ → Bool) (xs : List ℕ) → length (filter f xs) ≤ length xs
filter_few f [] = omega arith
filter_few f (x ∷ xs) = by (f x) (filter_few f xs)
  where
    by : (b : Bool) → length (filter f xs) ≤ length xs
        → length (cond b (x ∷ filter f xs) (filter f xs)) ≤ length (x ∷ xs)
    by true h = omega (arith, h)
    by false h = omega (arith, h)

common_few : (st : State) (w m n : ℕ) → length (common_items st w) ≤ n → AtMost n (common_deal st w m)
common_few st w m n few =
    let gained = items_gained (λ i. has (in_mode w m) i st.edges) (common_items st w) in
    by gained (filter_few (λ i. not (has (in_mode w m) i st.edges)) (common_items st w)) (is_common w st.parts.commons m)
  where
    by : (gained : List ℕ) → length gained ≤ length (common_items st w) → (b : Bool)
        → AtMost n (cond b (answering st.parts answers.Present) (record (okay st.parts) {
          parts = record st.parts { commons = record { thread = w; mode = m } ∷ st.parts.commons };
          enters = map (held_by (in_mode w m)) gained;
        }))
    by gained le true = record { enters = omega arith; leaves = omega arith }
    by gained le false =
        record { enters = omega (arith, length-map gained (held_by (in_mode w m)), le, few); leaves = omega arith }

commons_few : (st : State) (thread : Option ℕ) (m n : ℕ) → FitsCommon st thread n
    → AtMost n (with_used st.parts thread (λ w. common_deal st w m))
commons_few st None m n fits = record { enters = omega arith; leaves = omega arith }
commons_few st (Some w) m n fits = common_few st w m n fits

-- so it is of a statement
pub moves_common : (s : Script) (t : ℕ) (st : State) (used : List (Option ℕ)) (n : ℕ) (u : ThreadWord) (m : ℕ)
    (thread : Option ℕ) → thread ≡ thread_in t u → FitsCommon st thread n → MovesAtMost s t st (forms.Common u m) used n
moves_common s t st used n u m thread there h =
    let fits : FitsCommon st (thread_in t u) n = subst (λ (p : Option ℕ). FitsCommon st p n) there h in
    record { deal = commons_few st (thread_in t u) m n fits; common = fits }
