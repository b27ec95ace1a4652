-- Equality and order of leaves: this project's own.
use Rattle.std.specs.Prelude.{ℕ, ℤ, pos, Bool, false, ◌&&◌, ◌==◌, List, []}
use Rattle.std.specs.Ordering.{nat_cmp, int_cmp, int_eq, on, then_cmp}
use Rattle.std.specs.declared.cmp.Ordering.{Ordering}
use Rattle.std.specs.Cmp.Lexicographic.{slice_cmp}
use Rattle.std.specs.Str.{bytes_eq}
use Rattle.cf_types.specs.Views.{FormView, text_form, data_form, whole_form, same_form, LeafView}

-- two forms are equal where they are of one kind and have the same contents
abbrev pub forms_equal : FormView → FormView → Bool
forms_equal (text_form units) (text_form others) = bytes_eq units others
forms_equal (data_form bytes) (data_form others) = bytes_eq bytes others
forms_equal (whole_form value) (whole_form other) = int_eq value other
forms_equal (same_form id) (same_form other) = id == other
forms_equal _ _ = false

-- two leaves are equal where class and form are
abbrev pub leaves_equal : LeafView → LeafView → Bool
leaves_equal a b = (a.class == b.class) && forms_equal a.form b.form

-- texts stand before data, these before whole numbers, and these before identities
abbrev pub kind_rank : FormView → ℕ
kind_rank (text_form units) = 0
kind_rank (data_form bytes) = 1
kind_rank (whole_form value) = 2
kind_rank (same_form id) = 3

-- the units of a text and the bytes of data
abbrev pub units_or_bytes : FormView → List ℕ
units_or_bytes (text_form units) = units
units_or_bytes (data_form bytes) = bytes
units_or_bytes (whole_form value) = []
units_or_bytes (same_form id) = []

-- the value of a whole number and the number of an object
abbrev pub number_of : FormView → ℤ
number_of (text_form units) = pos 0
number_of (data_form bytes) = pos 0
number_of (whole_form value) = value
number_of (same_form id) = pos id

-- the order of forms: by kind, then by units or bytes, the first that differs deciding, then by value or
-- object number
abbrev pub form_order : FormView → FormView → Ordering
form_order = then_cmp (on kind_rank nat_cmp) (then_cmp (on units_or_bytes (slice_cmp nat_cmp)) (on number_of int_cmp))

-- the order of leaves: by class, then by form
abbrev pub leaf_order : LeafView → LeafView → Ordering
leaf_order = then_cmp (on (λ (leaf : LeafView). leaf.class) nat_cmp) (on (λ (leaf : LeafView). leaf.form) form_order)
