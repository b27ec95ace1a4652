-- What a row of the code's table stands for.
use Rattle.std.specs.Prelude.{ℕ, Bool, true, not, ◌&&◌, ◌==◌, List, [], ◌∷◌, length, Option, Some, None, Result, Ok, Err}
use Rattle.std.specs.List.{list_any}
use Rattle.std.specs.Str.{bytes_eq}
use Rattle.std.specs.Option.{option_map}
use Rattle.cf_syntax.specs.FormTable as FormTable
use Rattle.cf_syntax.specs.declared.refusal.Reason.{Reason}
use Rattle.cf_script.specs.declared.table.FormWord.{FormWord}
use denote.Ref.{Bor}

abbrev pub kind_of : Option (Bor (List ℕ)) → Option (List ℕ)
kind_of kind = option_map (λ k. k.now) kind

-- what a row of the code's table stands for
abbrev pub form_word_of : FormWord → FormTable.FormWord
form_word_of r = record { word = r.word.now; kind = kind_of r.kind; operands = r.operands.now; form = r.form }

-- a row that is found, or the reason why there is none
abbrev pub found_row : Result (Bor FormWord) Reason → Result FormTable.FormWord Reason
found_row (Ok r) = Ok (form_word_of r.now)
found_row (Err e) = Err e

-- a name that is there, as a list
abbrev pub name_list : Option (Bor (List ℕ)) → List (List ℕ)
name_list None = []
name_list (Some name) = name.now ∷ []

-- forms that some words may both be of: kinds that one word may be, and all else the same
abbrev pub may_meet : Option (List ℕ) → Option (List ℕ) → Bool
may_meet None k = true
may_meet (Some j) None = true
may_meet (Some j) (Some k) = bytes_eq j k

abbrev pub are_alike : FormTable.FormWord → FormTable.FormWord → Bool
are_alike r s = bytes_eq r.word s.word && (may_meet r.kind s.kind && (length r.operands == length s.operands))

abbrev pub are_apart : List FormTable.FormWord → Bool
are_apart [] = true
are_apart (r ∷ rows) = not (list_any (are_alike r) rows) && are_apart rows
