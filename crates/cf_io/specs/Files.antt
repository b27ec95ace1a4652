-- Files by name. These words are this project's own.
use Rattle.std.specs.Prelude.{◌≡◌, ℕ, List, find, Option, option_map, IsSome, IfSome}
use Rattle.std.specs.Str.{bytes_eq}

-- A file: its name and its bytes.
pub record File : Type 0 where
  pub name : List ℕ
  pub bytes : List ℕ

-- The bytes of the first file of this name.
abbrev pub content_of : List File → List ℕ → Option (List ℕ)
content_of files name = option_map (λ file. file.bytes) (find (λ file. bytes_eq file.name name) files)

-- A file of this name is open: there is one, and its bytes are left, all of them.
pub record IsOpen (files : List File) (called : List ℕ) (left : Option (List ℕ)) : Type 0 where
  pub there : IsSome left
  pub whole : left ≡ content_of files called

-- A file of this name was opened, if the source tells its files.
abbrev pub IsOpened : Option (List File) → List ℕ → Option (List ℕ) → Type 0
IsOpened files called left = IfSome files (λ told. IsOpen told called left)
