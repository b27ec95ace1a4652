-- Words after one another, each after a space.
use Rattle.std.proofs.Common.{◌≡◌, ℕ, zero, suc, ◌+◌, ◌<◌, ◌≤◌, Option, Some, None, unwrap_or, map, drop, List, [], ◌∷◌, ◌++◌, length, take, get_or, refl, sym, ap, ◌∙◌, append_assoc, append-nil}
use Rattle.std.specs.Prelude.{◌/◌, ◌%◌, slice_get, slice_index, slice_index_or}
use Rattle.std.proofs.lemmas.Grind.{flat_map-append}
use Rattle.std.proofs.lemmas.List.{take_more}
use Rattle.hex.specs.Hex.{encode_lower, encode_with, lower_digits}
use Rattle.cf_syntax.specs.declared.script.Script.{Script}
use Rattle.std.proofs.str.Utf16.{utf16_chars-drop_all}
use Rattle.std.specs.Char.Utf16.{utf16_lossy_chars}
use Rattle.std.specs.List.{flat_map}
use Rattle.cf_syntax.specs.declared.statement.Statement.{Statement}
use Rattle.cf_contents.specs.Descriptions.{shown_char}
use Rattle.cf_next.specs.declared.action.Action.{Action}
use Rattle.cf_next.specs.Actions.{Site, site_of}
use Rattle.cf_history.specs.Notices.{used_at_site, used_in}
use Rattle.cf_history.specs.Written.{statement_at, statement_if, statement_of}
use Rattle.cf_render.specs.FormWords.{statement_words}
use Rattle.cf_render.specs.Rendering.{joined, words_if}
use Rattle.cf_render.specs.Rows.{spaced, texts, texts_in}
use Rattle.cf_render.specs.declared.word.Word.{Word}

pub joined-spaced : (w : List ℕ) (ws : List (List ℕ)) → joined (w ∷ ws) ≡ w ++ spaced ws
joined-spaced w [] = sym (append-nil w)
joined-spaced w (v ∷ ws) = ap (λ (l : List ℕ). w ++ 32 ∷ l) (joined-spaced v ws)

pub spaced-append : (xs ys : List (List ℕ)) → spaced (xs ++ ys) ≡ spaced xs ++ spaced ys
spaced-append [] ys = refl
spaced-append (w ∷ ws) ys = ap (λ (l : List ℕ). 32 ∷ (w ++ l)) (spaced-append ws ys) ∙ ap (λ (l : List ℕ). 32 ∷ l) (sym (append_assoc w (spaced ws) (spaced ys)))

-- a line of its first word and two rows
pub entry_line : (before word first second after : List ℕ) (us vs xs ys : List (List ℕ)) → first ≡ before ++ word
    → second ≡ first ++ spaced us → after ≡ second ++ spaced vs
    → us ≡ xs → vs ≡ ys → after ≡ before ++ joined (word ∷ xs ++ ys)
entry_line before word first second after us vs xs ys p q r a b =
    r ∙ ap (λ (l : List ℕ). l ++ spaced vs) (q ∙ ap (λ (l : List ℕ). l ++ spaced us) p)
    ∙ append_assoc (before ++ word) (spaced us) (spaced vs) ∙ append_assoc before word (spaced us ++ spaced vs)
    ∙ ap (λ (l : List ℕ). before ++ l) (ap (λ (l : List ℕ). word ++ l) (ap (λ (ws : List (List ℕ)). spaced ws ++ spaced vs) a ∙ ap (λ (ws : List (List ℕ)). spaced xs ++ spaced ws) b ∙ sym (spaced-append xs ys)) ∙ sym (joined-spaced word (xs ++ ys)))

-- one word more of a row
pub words_more : (s : Script) (ws : List Word) (i : ℕ) (w : Word) (before now after : List ℕ) → i < length ws
    → w ≡ get_or ws i w
    → after ≡ now ++ spaced (texts s w) → now ≡ before ++ spaced (texts_in s (take i ws))
    → after ≡ before ++ spaced (texts_in s (take (i + 1) ws))
words_more s ws i w before now after lt is wrote so_far =
    let more : take (i + 1) ws ≡ take i ws ++ w ∷ [] = take_more ws i w lt ∙ ap (λ (x : Word). take i ws ++ x ∷ []) (sym is) in
    let parts : texts_in s (take (i + 1) ws) ≡ texts_in s (take i ws) ++ texts s w = ap (texts_in s) more ∙ flat_map-append (texts s) (take i ws) (w ∷ []) ∙ ap (λ (l : List (List ℕ)). texts_in s (take i ws) ++ l) (append-nil (texts s w)) in
    wrote ∙ ap (λ (l : List ℕ). l ++ spaced (texts s w)) so_far ∙ append_assoc before (spaced (texts_in s (take i ws))) (spaced (texts s w))
    ∙ ap (λ (l : List ℕ). before ++ l) (sym (ap spaced parts ∙ spaced-append (texts_in s (take i ws)) (texts s w)))

-- ---- bytes

encode-append : (xs ys : List ℕ) → encode_lower (xs ++ ys) ≡ encode_lower xs ++ encode_lower ys
unfolding encode_with
encode-append [] ys = refl
encode-append (x ∷ xs) ys = ap (λ (l : List ℕ). slice_index lower_digits (x / 16) ∷ slice_index lower_digits (x % 16) ∷ l) (encode-append xs ys)

pub byte_more : (bytes : List ℕ) (i : ℕ) (before now after : List ℕ) → i < length bytes
    → after ≡ now ++ encode_lower (slice_index bytes i ∷ []) → now ≡ before ++ encode_lower (take i bytes)
    → after ≡ before ++ encode_lower (take (i + 1) bytes)
byte_more bytes i before now after lt wrote so_far =
    let b = slice_index bytes i in
    wrote ∙ ap (λ (l : List ℕ). l ++ encode_lower (b ∷ [])) so_far ∙ append_assoc before (encode_lower (take i bytes)) (encode_lower (b ∷ []))
    ∙ ap (λ (l : List ℕ). before ++ l) (sym (ap encode_lower (take_more bytes i 0 lt) ∙ encode-append (take i bytes) (b ∷ [])))

-- ---- names

pub no_name : (names : List (List ℕ)) (i : ℕ) → None ≡ slice_get names i → [] ≡ slice_index_or names i []
no_name [] i e = refl
no_name (n ∷ ns) zero e = absurd cc
no_name (n ∷ ns) (suc i) e = no_name ns i e

-- ---- what a statement writes

pub said_words : (s : Script) (a : Action) (site : Site) (x : Statement) (row : List Word) → site_of a ≡ Some site
    → statement_at s site ≡ Some x
    → texts_in s row ≡ statement_words s site.used x → texts_in s row ≡ words_if s (used_in a) (statement_of s a)
said_words s a site x row at there words =
    words ∙ sym (ap (words_if s (used_in a)) (ap (statement_if s) at ∙ there) ∙ ap (λ (used : List (Option ℕ)). words_if s used (Some x)) (ap used_at_site at))

-- ---- characters

pub all_put : (units before now : List ℕ) (at : ℕ) → length units ≤ at
    → now ++ flat_map shown_char (utf16_lossy_chars (drop at units)) ≡ before ++ flat_map shown_char (utf16_lossy_chars units)
    → now ≡ before ++ flat_map shown_char (utf16_lossy_chars units)
all_put units before now at past written =
    let none : utf16_lossy_chars (drop at units) ≡ [] = ap (map (λ o. unwrap_or o 0xFFFD)) (utf16_chars-drop_all units at past) in
    sym (append-nil now) ∙ ap (λ (cs : List ℕ). now ++ flat_map shown_char cs) (sym none) ∙ written
