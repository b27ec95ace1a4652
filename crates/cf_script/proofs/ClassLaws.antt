-- Class lines: their names and numbers, and the words that they come from.
use Rattle.std.proofs.Common.{◌≡◌, ℕ, ◌+◌, Bool, true, false, cond, List, [], ◌∷◌, ◌++◌, length, Some, None, refl, ap, sym, ◌∙◌, ltb}
use Rattle.std.specs.Prelude.{position}
use Rattle.std.specs.List.{list_any, position_or_len}
use Rattle.std.specs.Str.{bytes_eq}
use Rattle.std.specs.Global.{Vec}
use Rattle.std.proofs.lemmas.List.{length-map, map_push}
use Rattle.cf_syntax.specs.declared.script.ClassLine.{ClassLine}
use Rattle.cf_syntax.specs.FormStatements.{class_named}
use Rattle.cf_syntax.specs.Text.{class_has_name}
use Rattle.cf_script.specs.Views.{texts, names_of}
use Rattle.cf_script.proofs.NameLaws.{position_name, any_name, position_texts, any_texts, inserted, names_new}

-- class lines beside their names, which are owned
same_count : (names : List (Vec ℕ)) (classes : List ClassLine) → texts names ≡ names_of classes
    → length names ≡ length classes
same_count names classes e = sym (length-map names (λ (n : Vec ℕ). n.items)) ∙ ap length e ∙ length-map classes (λ (c : ClassLine). c.name)

same_place : (names : List (Vec ℕ)) (classes : List ClassLine) (word : List ℕ) → texts names ≡ names_of classes
    → position (λ n. bytes_eq word n.items) names ≡ position (λ c. bytes_eq word c.name) classes
same_place names classes word e =
    let place : position_or_len (λ (n : Vec ℕ). bytes_eq word n.items) names ≡ position_or_len (λ (c : ClassLine). bytes_eq word c.name) classes = sym (position_texts word names) ∙ ap (position_or_len (bytes_eq word)) e ∙ position_name (λ (c : ClassLine). c.name) word classes in
    rw (place, same_count names classes e) refl

-- whether a class has a name
pub same_any : (names : List (Vec ℕ)) (classes : List ClassLine) (word : List ℕ) → texts names ≡ names_of classes
    → list_any (λ n. bytes_eq word n.items) names ≡ list_any (λ c. bytes_eq word c.name) classes
same_any names classes word e = sym (any_texts word names) ∙ ap (list_any (bytes_eq word)) e ∙ any_name (λ (c : ClassLine). c.name) word classes

none_named : (t : Bool) (n m : ℕ) → cond t (Some n) None ≡ None → cond t (Some m) None ≡ None
none_named true n m e = absurd cc
none_named false n m e = refl

some_named : (t : Bool) (n i : ℕ) → cond t (Some n) None ≡ Some i → cond t (Some (14 + n)) None ≡ Some (14 + i)
some_named true n i e = let same : n ≡ i = cc in rw same refl
some_named false n i e = absurd cc

-- a class by the place of its name
pub not_found : (names : List (Vec ℕ)) (classes : List ClassLine) (word : List ℕ) → texts names ≡ names_of classes
    → position (λ n. bytes_eq word n.items) names ≡ None → class_named classes word ≡ None
not_found names classes word e none =
    let n = position_or_len (λ (c : ClassLine). bytes_eq word c.name) classes in
    none_named (ltb n (length classes)) n (14 + n) (sym (same_place names classes word e) ∙ none)

pub found : (names : List (Vec ℕ)) (classes : List ClassLine) (word : List ℕ) (place : ℕ)
    → texts names ≡ names_of classes → position (λ n. bytes_eq word n.items) names ≡ Some place
    → class_named classes word ≡ Some (14 + place)
found names classes word place e some =
    let n = position_or_len (λ (c : ClassLine). bytes_eq word c.name) classes in
    some_named (ltb n (length classes)) n place (sym (same_place names classes word e) ∙ some)

put_in : (t : Bool) (names more : List (List ℕ)) → t ≡ false → cond t names more ≡ more
put_in true names more e = absurd cc
put_in false names more e = refl

-- the names with that of a further class, which is free
pub names_pushed : (names after : List (Vec ℕ)) (classes : List ClassLine) (class : ClassLine) (name : Vec ℕ)
    → texts names ≡ names_of classes → class_has_name classes class.name ≡ false → name.items ≡ class.name
    → after ≡ inserted name names → texts after ≡ names_of (classes ++ class ∷ [])
names_pushed names after classes class name e free same is =
    let none : list_any (bytes_eq class.name) (texts names) ≡ false = ap (list_any (bytes_eq class.name)) e ∙ any_name (λ (c : ClassLine). c.name) class.name classes ∙ free in
    names_new class.name name names after same is ∙ put_in _ (texts names) (texts names ++ class.name ∷ []) none
    ∙ ap (λ (ns : List (List ℕ)). ns ++ class.name ∷ []) e ∙ sym (map_push (λ (c : ClassLine). c.name) classes class)
