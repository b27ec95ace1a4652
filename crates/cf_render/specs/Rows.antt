-- The words of a line as the code has them before they are written.
use Rattle.std.specs.Prelude.{ℕ, Bool, if◌then◌else◌, List, [], ◌∷◌, ◌++◌}
use Rattle.std.specs.List.{flat_map}
use Rattle.std.specs.Fmt.{decimal, signed_decimal}
use Rattle.cf_syntax.specs.declared.script.Script.{Script}
use Rattle.cf_contents.specs.Descriptions.{class_name, member_word}
use Rattle.cf_render.specs.FormWords.{thread_name, handler_name, mode_name, notice_name, text_word, bytes_word}
use Rattle.cf_next.specs.Actions.{Site}
use Rattle.cf_render.specs.declared.statements.Site.{Site as CodeSite}
use Rattle.cf_render.specs.declared.word.Name.{Name}
use Rattle.cf_render.specs.declared.word.Name.TheVariants as names
use Rattle.cf_render.specs.declared.word.Word.{Word}
use Rattle.cf_render.specs.declared.word.Word.TheVariants as words

-- each word after a space
abbrev pub spaced : List (List ℕ) → List ℕ
spaced [] = []
spaced (w ∷ ws) = 32 ∷ w ++ spaced ws

-- a name of the script
abbrev pub name_of : Script → Name → List ℕ
name_of s (names.Thread t) = thread_name s t
name_of s (names.Handler h) = handler_name s h
name_of s (names.Mode m) = mode_name s m
name_of s (names.Notice n) = notice_name s n
name_of s (names.Class c) = class_name s.classes c

-- the bytes of a word
abbrev pub alone : Script → Word → List ℕ
alone s words.Nothing = []
alone s (words.Plain w) = w.now
alone s (words.Named n) = name_of s n
alone s (words.Object o) = member_word o
alone s (words.Number n) = decimal n
alone s (words.Integer n) = signed_decimal n
alone s (words.Text t) = text_word t.now
alone s (words.Bytes b) = bytes_word b.now

-- a word, if it is one
abbrev pub texts : Script → Word → List (List ℕ)
texts s words.Nothing = []
texts s w = alone s w ∷ []

-- the words of a row
abbrev pub texts_in : Script → List Word → List (List ℕ)
texts_in s row = flat_map (texts s) row

-- a last word that stands there or does not
abbrev pub last_words : Bool → List ℕ → List (List ℕ)
last_words stands w = if stands then w ∷ [] else []

-- a site as the definitions have it
abbrev pub site_in : CodeSite → Site
site_in s = record { block = s.block; number = s.number; used = s.used.now }
