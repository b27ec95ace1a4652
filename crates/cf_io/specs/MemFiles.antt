-- The files that a source in memory holds.
use Rattle.std.specs.Prelude.{ℕ, List, [], map, drop, Option, None, Some, slice_get}
use Rattle.std.specs.Option.{option_map_or}
use Rattle.std.specs.String.{string_bytes}
use Rattle.cf_io.specs.declared.mem_source.MemFile.{MemFile}
use Rattle.cf_io.specs.Files.{File}

-- These files by name.
abbrev pub files_of : List MemFile → List File
files_of files = map (λ file. record { name = string_bytes file.name; bytes = file.bytes.items }) files

-- The bytes of the file at this place; none if there is no such place.
abbrev pub bytes_at : List MemFile → ℕ → List ℕ
bytes_at files place = option_map_or (λ file. file.bytes.items) (slice_get files place) []

-- The bytes of the open file from one of them on; none if no file is open.
abbrev pub rest_of : List MemFile → Option ℕ → ℕ → List ℕ
rest_of files None at = []
rest_of files (Some place) at = drop at (bytes_at files place)
