-- Lines as text, and the lines of entries, one by one.
use Rattle.std.proofs.Common.{◌≡◌, ℕ, ◌+◌, ◌<◌, Bool, true, false, cond, List, [], ◌∷◌, ◌++◌, length, take, get_or, refl, sym, ap, ◌∙◌, append_assoc, append-nil}
use Rattle.std.proofs.lemmas.List.{take_more, map-append}
use Rattle.std.specs.Global.{Vec}
use Rattle.cf_syntax.specs.declared.script.Script.{Script}
use Rattle.cf_model.specs.declared.entry.Entry.{Entry}
use Rattle.cf_render.specs.Rendering.{entry_lines, is_written, line, text_of_lines}
use Rattle.cf_render.specs.Ends.{lines_of}

pub text-append : (xs ys : List (List ℕ)) → text_of_lines (xs ++ ys) ≡ text_of_lines xs ++ text_of_lines ys
text-append [] ys = refl
text-append (l ∷ ls) ys = ap (λ (t : List ℕ). l ++ 10 ∷ t) (text-append ls ys) ∙ sym (append_assoc l (10 ∷ text_of_lines ls) (text_of_lines ys))

entries-append : (s : Script) (full : Bool) (es fs : List Entry)
    → entry_lines s full (es ++ fs) ≡ entry_lines s full es ++ entry_lines s full fs
entries-append s full [] fs = refl
entries-append s full (e ∷ es) fs =
    let first : List (List ℕ) = cond (is_written full e) (line s e ∷ []) [] in
    ap (λ (ls : List (List ℕ)). first ++ ls) (entries-append s full es fs) ∙ sym (append_assoc first (entry_lines s full es) (entry_lines s full fs))

-- the text of the line of an entry, if it is written
abbrev pub written_text : Script → Bool → Entry → List ℕ
written_text s b e = text_of_lines (cond b (line s e ∷ []) [])

module _ (s : Script) (full : Bool) (journal : List Entry) (i : ℕ) (e : Entry) (lt : i < length journal) (is : e ≡ get_or journal i e) (before now after : List ℕ) where
  entry_more : (b : Bool) → is_written full e ≡ b → after ≡ now ++ written_text s b e
      → now ≡ before ++ text_of_lines (entry_lines s full (take i journal))
      → after ≡ before ++ text_of_lines (entry_lines s full (take (i + 1) journal))
  entry_more b written wrote so_far =
      let more : take (i + 1) journal ≡ take i journal ++ e ∷ [] = take_more journal i e lt ∙ ap (λ (x : Entry). take i journal ++ x ∷ []) (sym is) in
      let old = entry_lines s full (take i journal) in
      let parts : entry_lines s full (take (i + 1) journal) ≡ old ++ cond b (line s e ∷ []) [] =
      ap (entry_lines s full) more ∙ entries-append s full (take i journal) (e ∷ [])
      ∙ ap (λ (ls : List (List ℕ)). old ++ ls) (append-nil (cond (is_written full e) (line s e ∷ []) [])) ∙ ap (λ (c : Bool). old ++ cond c (line s e ∷ []) []) written in
      wrote ∙ ap (λ (t : List ℕ). t ++ written_text s b e) so_far ∙ append_assoc before (text_of_lines old) (written_text s b e)
      ∙ ap (λ (t : List ℕ). before ++ t) (sym (ap text_of_lines parts ∙ text-append old (cond b (line s e ∷ []) [])))

  pub entry_written : is_written full e ≡ true → after ≡ now ++ (line s e ++ 10 ∷ [])
      → now ≡ before ++ text_of_lines (entry_lines s full (take i journal))
      → after ≡ before ++ text_of_lines (entry_lines s full (take (i + 1) journal))
  entry_written written wrote so_far = entry_more true written wrote so_far

  pub entry_passed : is_written full e ≡ false → after ≡ now
      → now ≡ before ++ text_of_lines (entry_lines s full (take i journal))
      → after ≡ before ++ text_of_lines (entry_lines s full (take (i + 1) journal))
  entry_passed written same so_far = entry_more false written (same ∙ sym (append-nil now)) so_far

pub line_more : (ls : List (Vec ℕ)) (i : ℕ) (l : Vec ℕ) (before now with_line after : List ℕ) → i < length ls
    → l ≡ get_or ls i l
    → with_line ≡ now ++ l.items → after ≡ with_line ++ 10 ∷ []
    → now ≡ before ++ text_of_lines (lines_of (take i ls))
    → after ≡ before ++ text_of_lines (lines_of (take (i + 1) ls))
line_more ls i l before now with_line after lt is wrote ended so_far =
    let more : take (i + 1) ls ≡ take i ls ++ l ∷ [] = take_more ls i l lt ∙ ap (λ (x : Vec ℕ). take i ls ++ x ∷ []) (sym is) in
    let old = lines_of (take i ls) in
    let parts : lines_of (take (i + 1) ls) ≡ old ++ l.items ∷ [] = ap lines_of more ∙ map-append (λ (v : Vec ℕ). v.items) (take i ls) (l ∷ []) in
    ended ∙ ap (λ (t : List ℕ). t ++ 10 ∷ []) wrote ∙ append_assoc now l.items (10 ∷ [])
    ∙ ap (λ (t : List ℕ). t ++ (l.items ++ 10 ∷ [])) so_far ∙ append_assoc before (text_of_lines old) (l.items ++ 10 ∷ [])
    ∙ ap (λ (t : List ℕ). before ++ t) (sym (ap text_of_lines parts ∙ text-append old (l.items ∷ [])))

-- the text of a whole
pub whole_text : (text : List ℕ) (entries ends : List (List ℕ)) (after : List ℕ) → text ≡ text_of_lines entries
    → after ≡ text ++ text_of_lines ends → after ≡ text_of_lines (entries ++ ends)
whole_text text entries ends after first then = then ∙ ap (λ (t : List ℕ). t ++ text_of_lines ends) first ∙ sym (text-append entries ends)
