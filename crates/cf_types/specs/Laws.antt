-- The laws of equality, hash and order.
use Rattle.std.proofs.Common.{◌≡◌, ℕ, true, refl, sym, ap, ◌∙◌, subst}
use Rattle.std.proofs.lemmas.Bool.{true≢false, and_parts, and_from}
use Rattle.std.proofs.lemmas.Bool.Decides.{Decides-eqb}
use Rattle.std.proofs.lemmas.Slice.Eq.{bytes_eq-Decides}
use Rattle.std.specs.Bool.{Decides, one_answer}
use Rattle.std.specs.declared.cmp.Ordering.{Ordering}
use Rattle.std.specs.declared.cmp.Ordering.TheVariants.{Less, Equal, Greater}
use Rattle.std.specs.Ordering.{is_eq, eq_by_cmp, nat_cmp, ordering_then, int_eq}
use Rattle.std.specs.Prelude.{pos}
use Rattle.std.specs.Int.{w32, to_be_bytes}
use Rattle.std.specs.Cmp.{IsEquivalence, IsTotalOrder, eq_by_cmp_equiv, nat_cmp_total, int_cmp_total, on_total, then_total, unsigned_ties, signed_Decides, both_tied}
use Rattle.std.specs.Cmp.Lexicographic.{on_texts, texts_ties}
use Rattle.cf_types.specs.declared.cells.Cell.{Cell}
use Rattle.cf_types.specs.declared.callbacks.CellCallbacks.{CellCallbacks}
use Rattle.cf_types.specs.declared.callbacks.CellCallbacks.TheVariants.{Typed, Plain}
use Rattle.cf_types.specs.Cells.{cells_equal, cell_hash, cell_order}
use Rattle.cf_types.specs.Hash.{hash_of, leaf_bytes}
use Rattle.cf_types.specs.Leaves.{forms_equal, leaves_equal, kind_rank, units_or_bytes, number_of, form_order, leaf_order}
use Rattle.cf_types.specs.Views.{FormView, text_form, data_form, whole_form, same_form, LeafView}

-- forms are equal exactly if they are the same
pub forms_equal-Decides : (a b : FormView) → Decides (forms_equal a b) (a ≡ b)
forms_equal-Decides (text_form a) (text_form b) = let d = bytes_eq-Decides a b in
    (λ yes. ap text_form (d.0 yes), λ same. d.1 cc)
forms_equal-Decides (text_form a) (data_form b) = (λ yes. absurd (true≢false (sym yes)), λ same. cc)
forms_equal-Decides (text_form a) (whole_form b) = (λ yes. absurd (true≢false (sym yes)), λ same. cc)
forms_equal-Decides (text_form a) (same_form b) = (λ yes. absurd (true≢false (sym yes)), λ same. cc)
forms_equal-Decides (data_form a) (text_form b) = (λ yes. absurd (true≢false (sym yes)), λ same. cc)
forms_equal-Decides (data_form a) (data_form b) = let d = bytes_eq-Decides a b in
    (λ yes. ap data_form (d.0 yes), λ same. d.1 cc)
forms_equal-Decides (data_form a) (whole_form b) = (λ yes. absurd (true≢false (sym yes)), λ same. cc)
forms_equal-Decides (data_form a) (same_form b) = (λ yes. absurd (true≢false (sym yes)), λ same. cc)
forms_equal-Decides (whole_form a) (text_form b) = (λ yes. absurd (true≢false (sym yes)), λ same. cc)
forms_equal-Decides (whole_form a) (data_form b) = (λ yes. absurd (true≢false (sym yes)), λ same. cc)
forms_equal-Decides (whole_form a) (whole_form b) = let d = signed_Decides a b in
    (λ yes. ap whole_form (d.0 yes), λ same. d.1 cc)
forms_equal-Decides (whole_form a) (same_form b) = (λ yes. absurd (true≢false (sym yes)), λ same. cc)
forms_equal-Decides (same_form a) (text_form b) = (λ yes. absurd (true≢false (sym yes)), λ same. cc)
forms_equal-Decides (same_form a) (data_form b) = (λ yes. absurd (true≢false (sym yes)), λ same. cc)
forms_equal-Decides (same_form a) (whole_form b) = (λ yes. absurd (true≢false (sym yes)), λ same. cc)
forms_equal-Decides (same_form a) (same_form b) = let d = Decides-eqb a b in
    (λ yes. ap same_form (d.0 yes), λ same. d.1 cc)

same_record : (a b : LeafView) → a.class ≡ b.class → a.form ≡ b.form → a ≡ b
same_record a b classes forms = λ i. record { class = classes i; form = forms i }

-- leaves are equal exactly if they are the same
pub leaves_equal-Decides : (a b : LeafView) → Decides (leaves_equal a b) (a ≡ b)
leaves_equal-Decides a b =
    let class = Decides-eqb a.class b.class in
    let form = forms_equal-Decides a.form b.form in (
      (λ yes. let parts = and_parts _ _ yes in same_record a b (class.0 parts.0) (form.0 parts.1)),
      (λ same. and_from _ _ (class.1 (ap (λ (leaf : LeafView). leaf.class) same))
          (form.1 (ap (λ (leaf : LeafView). leaf.form) same))),
    )

-- the order of forms and of leaves is total
pub form_order_total : IsTotalOrder form_order
form_order_total = then_total (on_total kind_rank nat_cmp_total)
    (then_total (on_texts units_or_bytes) (on_total number_of int_cmp_total))

pub leaf_order_total : IsTotalOrder leaf_order
leaf_order_total =
    then_total (on_total (λ (leaf : LeafView). leaf.class) nat_cmp_total)
    (on_total (λ (leaf : LeafView). leaf.form) form_order_total)

then_Equal : (o : Ordering) → is_eq o ≡ is_eq (ordering_then o Equal)
then_Equal Less = refl
then_Equal Equal = refl
then_Equal Greater = refl

numbers_decide : (a b : ℕ) → Decides (int_eq (pos a) (pos b)) (a ≡ b)
numbers_decide a b = let d = signed_Decides (pos a) (pos b) in
    (λ yes. let same : pos a ≡ pos b = d.0 yes in cc, λ same. d.1 (ap pos same))

-- the order answers `Equal` exactly if the forms are equal, and the leaves too
form_ties : (a b : FormView) → forms_equal a b ≡ eq_by_cmp form_order a b
form_ties (text_form a) (text_form b) = texts_ties a b ∙ then_Equal _
form_ties (text_form a) (data_form b) = refl
form_ties (text_form a) (whole_form b) = refl
form_ties (text_form a) (same_form b) = refl
form_ties (data_form a) (text_form b) = refl
form_ties (data_form a) (data_form b) = texts_ties a b ∙ then_Equal _
form_ties (data_form a) (whole_form b) = refl
form_ties (data_form a) (same_form b) = refl
form_ties (whole_form a) (text_form b) = refl
form_ties (whole_form a) (data_form b) = refl
form_ties (whole_form a) (whole_form b) = refl
form_ties (whole_form a) (same_form b) = refl
form_ties (same_form a) (text_form b) = refl
form_ties (same_form a) (data_form b) = refl
form_ties (same_form a) (whole_form b) = refl
form_ties (same_form a) (same_form b) = one_answer _ _ (Decides-eqb a b) (numbers_decide a b)

pub leaf_ties : (a b : LeafView) → leaves_equal a b ≡ eq_by_cmp leaf_order a b
leaf_ties a b = both_tied _ _ (nat_cmp a.class b.class) (form_order a.form b.form) (unsigned_ties a.class b.class)
    (form_ties a.form b.form)

-- the laws of callbacks
pub cells_total : (c : CellCallbacks) → IsTotalOrder (cell_order c)
cells_total Typed = on_total (λ (cell : Cell). cell.leaf) leaf_order_total
cells_total Plain = on_total (λ (cell : Cell). cell.id) nat_cmp_total

pub cells_equal_ranks : (c : CellCallbacks) (a b : Cell) → cells_equal c a b ≡ eq_by_cmp (cell_order c) a b
cells_equal_ranks Typed a b = leaf_ties a.leaf b.leaf
cells_equal_ranks Plain a b = unsigned_ties a.id b.id

pub cells_equivalence : (c : CellCallbacks) → IsEquivalence (cells_equal c)
cells_equivalence c = subst IsEquivalence (λ i a b. sym (cells_equal_ranks c a b) i) (eq_by_cmp_equiv (cells_total c))

pub cells_equal_hashes : (c : CellCallbacks) (a b : Cell) → cells_equal c a b ≡ true → cell_hash c a ≡ cell_hash c b
cells_equal_hashes Typed a b same =
    ap (λ leaf. hash_of (leaf_bytes leaf)) ((leaves_equal-Decides a.leaf b.leaf).0 same)
cells_equal_hashes Plain a b same = ap (λ id. hash_of (to_be_bytes w32 id)) ((Decides-eqb a.id b.id).0 same)
