-- Laws of files in memory: the place of a name and the contents under it.
use Rattle.std.proofs.Common.{ℕ, ◌≡◌, ◌<◌, ◌≤◌, Bool, true, false, List, [], ◌∷◌, length, Option, None, Some, option_map, cond, find, position, refl, inl, inr, ◌⊎◌, rules, get_or, nat_lt}
use Rattle.std.specs.List.{position_or_len, slice_get}
use Rattle.std.specs.String.{string_bytes}
use Rattle.std.specs.Str.{bytes_eq}
use Rattle.std.proofs.lemmas.List.Folds.{find_at}
use Rattle.std.proofs.lemmas.Option.{slice_get_cases}
use Rattle.std.proofs.lemmas.Bool.Decides.{nat_tests}
use Rattle.cf_io.specs.declared.mem_source.MemFile.{MemFile}
use Rattle.cf_io.specs.Files.{content_of}
use Rattle.cf_io.specs.MemFiles.{files_of, bytes_at}

-- The contents under a name are those of the first file of that name.
content_of-files_of : (files : List MemFile) (name : List ℕ)
    → content_of (files_of files) name ≡ option_map (λ file. file.bytes.items)
    (find (λ file. bytes_eq (string_bytes file.name) name) files)
content_of-files_of [] name = refl
content_of-files_of (file ∷ files) name =
    at_test (bytes_eq (string_bytes file.name) name) (content_of-files_of files name) where
      at_test : (b : Bool) → content_of (files_of files) name
          ≡ option_map (λ f. f.bytes.items) (find (λ f. bytes_eq (string_bytes f.name) name) files)
          → option_map (λ f. f.bytes)
          (cond b (Some (record { name = string_bytes file.name; bytes = file.bytes.items }))
          (find (λ f. bytes_eq f.name name) (files_of files)))
          ≡ option_map (λ f. f.bytes.items) (cond b (Some file) (find (λ f. bytes_eq (string_bytes f.name) name) files))
      at_test true others = refl
      at_test false others = others

-- The bytes at a place, if it is one.
bytes_at-place : (files : List MemFile) (k : ℕ)
    → ((x : MemFile) × (k < length files) × (slice_get files k ≡ Some x) × (get_or files k x ≡ x))
    ⊎ ((length files ≤ k) × (slice_get files k ≡ None))
    → option_map (λ file. file.bytes.items) (slice_get files k)
    ≡ option_map (bytes_at files) (cond (nat_lt k (length files)) (Some k) None)
bytes_at-place files k (inl there) = let lt : nat_lt k (length files) ≡ true = search (rules, nat_tests) in
    rw (lt, there.2) refl
bytes_at-place files k (inr past) = let ge : nat_lt k (length files) ≡ false = search (rules, nat_tests) in
    rw (ge, past.1) refl

-- The place of a name, and its contents.
pub content_of-place : (files : List MemFile) (name : List ℕ) (place : Option ℕ)
    → place ≡ position (λ file. bytes_eq (string_bytes file.name) name) files
    → content_of (files_of files) name ≡ option_map (bytes_at files) place
content_of-place files name place is = let p : MemFile → Bool = λ file. bytes_eq (string_bytes file.name) name in
    rw (
      is,
      content_of-files_of,
      find_at,
    ) (bytes_at-place files (position_or_len p files) (slice_get_cases files (position_or_len p files)).1)
