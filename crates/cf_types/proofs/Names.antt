-- Classes that stand at their names: the look-up of a name, and a class more.
use Rattle.std.proofs.Common.{◌≡◌, ℕ, Bool, true, false, cond, ◌||◌, List, [], ◌∷◌, ◌++◌, Option, Some, None, length, ◌+◌, refl, ap, sym, subst, ◌∙◌, is_some, length-append}
use Rattle.std.specs.Global.{Global}
use Rattle.std.specs.Map.{lookup, values_of}
use Rattle.std.specs.Str.{bytes_eq}
use Rattle.std.specs.String.{string_bytes, string_eq}
use Rattle.std.specs.declared.string.String.{String}
use Rattle.std.proofs.lemmas.Cmp.{nat_list_eq_equiv}
use Rattle.std.proofs.lemmas.List.{length-map, map_push}
use Rattle.indexmap.specs.IndexMap.{IndexMap, values, insert_entry}
use Rattle.indexmap.proofs.CallerLemmas.{insert_entry-new}
use Rattle.cf_types.specs.declared.classes.Class.{Class}
use Rattle.cf_types.specs.Named.{AreNamed}
use Rattle.cf_types.specs.Registry.{has_name}

some_of : {A : Type 0} (t : Bool) (x : A) (rest : Option A) → is_some (cond t (Some x) rest) ≡ (t || is_some rest)
some_of true x rest = refl
some_of false x rest = refl

-- a look-up among entries finds a name exactly if a class has it
pub found : (entries : List (String Global × Class)) (name : List ℕ) → AreNamed entries
    → is_some (lookup (λ k. bytes_eq name (string_bytes k)) entries) ≡ has_name (values_of entries) name
found [] name named = refl
found (e ∷ es) name named =
    let head : string_bytes e.0 ≡ e.1.name = cc in
    let tail : AreNamed es = cc in
    some_of (bytes_eq name (string_bytes e.0)) e.1 (lookup (λ k. bytes_eq name (string_bytes k)) es)
    ∙ ap (λ (t : Bool). t || is_some (lookup (λ k. bytes_eq name (string_bytes k)) es)) (ap (bytes_eq name) head ∙ nat_list_eq_equiv.symm name e.1.name)
    ∙ ap (λ (t : Bool). bytes_eq e.1.name name || t) (found es name tail)

no_some : {A : Type 0} (o : Option A) → is_some o ≡ false → o ≡ None
no_some None e = refl
no_some (Some x) e = absurd cc

named_more : (entries : List (String Global × Class)) (key : String Global) (class : Class) → AreNamed entries
    → string_bytes key ≡ class.name → AreNamed (entries ++ (key, class) ∷ [])
named_more entries key class named is =
    map_push (λ e. string_bytes e.0) entries (key, class) ∙ (λ i. named i ++ is i ∷ [])
    ∙ sym (map_push (λ e. e.1.name) entries (key, class))

-- entries with a class more, of a new name, which stands last and at its name
pub record HasLast (entries : List (String Global × Class)) (classes : List Class) (class : Class) : Type 0 where
  pub list : values_of entries ≡ classes ++ class ∷ []
  pub count : length entries ≡ length classes + 1
  pub named : AreNamed entries

pub put_last : {S : Type 0} (entries : IndexMap (String Global) Class S) (after : List (String Global × Class))
    (classes : List Class) (key : String Global) (class : Class) → AreNamed entries.entries → values entries ≡ classes
    → string_bytes key ≡ class.name → has_name classes class.name ≡ false
    → after ≡ insert_entry string_eq entries.entries key class → HasLast after classes class
put_last entries after classes key class named are is free put =
    let none : lookup (string_eq key) entries.entries ≡ None = no_some (lookup (string_eq key) entries.entries) (found entries.entries (string_bytes key) named ∙ (λ i. has_name (are i) (is i)) ∙ free) in
    let last : after ≡ entries.entries ++ (key, class) ∷ [] = put ∙ insert_entry-new string_eq entries key class none in
    let list : values_of after ≡ classes ++ class ∷ [] = ap values_of last ∙ map_push (λ e. e.1) entries.entries (key, class) ∙ ap (λ (cs : List Class). cs ++ class ∷ []) are in
    record {
      list = list;
      count = sym (length-map after (λ e. e.1)) ∙ ap length list ∙ length-append classes (class ∷ []);
      named = subst AreNamed (sym last) (named_more entries.entries key class named is);
    }
