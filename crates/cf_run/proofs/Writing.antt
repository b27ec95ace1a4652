-- Fronts of texts, joined.
use Rattle.std.proofs.Common.{◌≡◌, ℕ, zero, suc, ◌+◌, ◌<◌, false, List, [], ◌∷◌, ◌++◌, length, take, drop, get_or, Option, Some, None, refl, sym, ap, ◌∙◌, subst, arith, append_assoc, append-nil}
use Rattle.std.proofs.lemmas.List.{take-append-drop, length-append, length-drop, take_more, map-append}
use Rattle.std.specs.Prelude.{Result, Ok, Err}
use Rattle.std.specs.Global.{Vec}
use Rattle.cf_io.specs.Bytes.{then_bytes}
use Rattle.cf_syntax.specs.declared.script.Script.{Script}
use Rattle.cf_model.specs.declared.entry.Entry.{Entry}
use Rattle.cf_model.specs.declared.ending.Ending.{Ending}
use Rattle.cf_model.specs.Journals.{After}
use Rattle.cf_render.specs.Ends.{lines_of}
use Rattle.cf_render.specs.Rendering.{alive_from, end_lines, entry_lines, last_line, line, rendering, text_of_lines}
use Rattle.cf_run.specs.declared.output.Unwritten.{Unwritten}
use Rattle.cf_run.specs.Written.{Part, Cut, IsCause, WritesAll, line_if}

-- bytes after bytes
pub then_bytes-append : (old : Option (List ℕ)) (xs ys : List ℕ)
    → then_bytes (then_bytes old xs) ys ≡ then_bytes old (xs ++ ys)
then_bytes-append None xs ys = refl
then_bytes-append (Some bs) xs ys = ap (λ (zs : List ℕ). Some zs) (append_assoc bs xs ys)

pub then_bytes-nil : (old : Option (List ℕ)) → then_bytes old [] ≡ old
then_bytes-nil None = refl
then_bytes-nil (Some bs) = ap (λ (zs : List ℕ). Some zs) (append-nil bs)

-- a front of bytes that were cut short
pub cut_at : (due : List ℕ) (n : ℕ) (old new : Option (List ℕ)) → n < length due → new ≡ then_bytes old (take n due)
    → Cut due old new
cut_at due n old new lt e = record {
  part = record { out = take n due; rest = drop n due; parts = sym (take-append-drop n due); taken = e };
  short = omega (arith, length-drop n due);
}

-- nothing was taken of a text
pub part_none : (due : List ℕ) (old : Option (List ℕ)) → Part due old old
part_none due old = record { out = []; rest = due; parts = refl; taken = sym (then_bytes-nil old) }

pub cut_none : (due : List ℕ) (old new : Option (List ℕ)) → 0 < length due → new ≡ old → Cut due old new
cut_none due old new lt e = record {
  part = record { out = []; rest = due; parts = refl; taken = e ∙ sym (then_bytes-nil old) };
  short = lt;
}

-- a front, with bytes that were taken before it and bytes that are due after
pub part_within : (before due behind : List ℕ) (old mid new : Option (List ℕ)) → mid ≡ then_bytes old before
    → Part due mid new → Part (before ++ (due ++ behind)) old new
part_within before due behind old mid new e p = record {
  out = before ++ p.out;
  rest = p.rest ++ behind;
  parts = ap (λ (xs : List ℕ). before ++ (xs ++ behind)) p.parts ∙ ap (λ (xs : List ℕ). before ++ xs) (append_assoc p.out p.rest behind) ∙ sym (append_assoc before p.out (p.rest ++ behind));
  taken = p.taken ∙ ap (λ (o : Option (List ℕ)). then_bytes o p.out) e ∙ then_bytes-append old before p.out;
}

pub cut_behind : (before due : List ℕ) (old mid new : Option (List ℕ)) → mid ≡ then_bytes old before → Cut due mid new
    → Cut (before ++ due) old new
cut_behind before due old mid new e c = record {
  part = record {
    out = before ++ c.part.out;
    rest = c.part.rest;
    parts = ap (λ (xs : List ℕ). before ++ xs) c.part.parts ∙ sym (append_assoc before c.part.out c.part.rest);
    taken = c.part.taken ∙ ap (λ (o : Option (List ℕ)). then_bytes o c.part.out) e ∙ then_bytes-append old before c.part.out;
  };
  short = c.short;
}

-- a front of a text with more due after it
abbrev part_ahead : (due behind : List ℕ) (old new : Option (List ℕ)) → Part due old new → Part (due ++ behind) old new
part_ahead due behind old new p = record {
  out = p.out;
  rest = p.rest ++ behind;
  parts = ap (λ (xs : List ℕ). xs ++ behind) p.parts ∙ append_assoc p.out p.rest behind;
  taken = p.taken;
}

pub part_cut : (due behind : List ℕ) (old new : Option (List ℕ)) → 0 < length behind → Part due old new
    → Cut (due ++ behind) old new
part_cut due behind old new lt p =
    record { part = part_ahead due behind old new p; short = omega (arith, length-append p.rest behind) }

cut_ahead : (due behind : List ℕ) (old new : Option (List ℕ)) → Cut due old new → Cut (due ++ behind) old new
cut_ahead due behind old new c =
    record { part = part_ahead due behind old new c.part; short = omega (arith, c.short, length-append c.part.rest behind) }

-- a cause from a count that is as it was
pub cause_from : (e : Unwritten) (old mid new : ℕ) → mid ≡ old → IsCause e mid new → IsCause e old new
cause_from e old mid new f c = subst (λ (n : ℕ). IsCause e n new) f c

-- an error of a text in the middle is one of the whole
pub part_fails : (e : Unwritten) (before due behind whole : List ℕ) (old mid new : Option (List ℕ))
    (faults_old faults_mid faults_new : ℕ)
    → whole ≡ before ++ (due ++ behind) → mid ≡ then_bytes old before → faults_mid ≡ faults_old
    → Part due mid new × IsCause e faults_mid faults_new → Part whole old new × IsCause e faults_old faults_new
part_fails e before due behind whole old mid new fo fm fn is b f w = rw is (part_within before due behind old mid new b w.0, cause_from e fo fm fn f w.1)

-- one text more is taken
pub took_more : (before due after : List ℕ) (old mid new : Option (List ℕ)) → after ≡ before ++ due
    → mid ≡ then_bytes old before → new ≡ then_bytes mid due → new ≡ then_bytes old after
took_more before due after old mid new is b t = t ∙ ap (λ (o : Option (List ℕ)). then_bytes o due) b ∙ then_bytes-append old before due ∙ ap (then_bytes old) (sym is)

-- the last text
pub last_writes : {T : Type 0} (r : Result T Unwritten) (before due whole : List ℕ) (old mid new : Option (List ℕ))
    (faults_old faults_mid faults_new : ℕ)
    → whole ≡ before ++ due → mid ≡ then_bytes old before → faults_mid ≡ faults_old
    → WritesAll r due mid new faults_mid faults_new → WritesAll r whole old new faults_old faults_new
last_writes (Ok x) before due whole old mid new fo fm fn is e f w = (took_more before due whole old mid new is e w.0, w.1 ∙ f)
last_writes (Err u) before due whole old mid new fo fm fn is e f w = rw is (cut_behind before due old mid new e w.0, cause_from u fo fm fn f w.1)

-- a list about one of its places
pub at_place : {A : Type 0} (xs : List A) (i : ℕ) (d : A) → i < length xs
    → xs ≡ take i xs ++ (get_or xs i d ∷ drop (i + 1) xs)
at_place [] i d h = absurd (omega arith)
at_place (x ∷ xs) zero d h = refl
at_place (x ∷ xs) (suc i) d h =
    let more : suc i + 1 ≡ suc (i + 1) = omega arith in
    rw more (ap (λ (ys : List _). x ∷ ys) (at_place xs i d (omega arith)))

-- ---- the lines of entries

pub text-append : (xs ys : List (List ℕ)) → text_of_lines (xs ++ ys) ≡ text_of_lines xs ++ text_of_lines ys
text-append [] ys = refl
text-append (l ∷ ls) ys =
    ap (λ (t : List ℕ). l ++ 10 ∷ t) (text-append ls ys) ∙ sym (append_assoc l (10 ∷ text_of_lines ls) (text_of_lines ys))

entries-append : (s : Script) (es fs : List Entry)
    → entry_lines s false (es ++ fs) ≡ entry_lines s false es ++ entry_lines s false fs
entries-append s [] fs = refl
entries-append s (e ∷ es) fs =
    ap (λ (ls : List (List ℕ)). line_if s e ++ ls) (entries-append s es fs)
    ∙ sym (append_assoc (line_if s e) (entry_lines s false es) (entry_lines s false fs))

-- the text of entries, and of the line of one
abbrev pub text_of : Script → List Entry → List ℕ
text_of s es = text_of_lines (entry_lines s false es)

abbrev pub text_at : Script → Entry → List ℕ
text_at s e = text_of_lines (line_if s e)

text_of-append : (s : Script) (es fs : List Entry) → text_of s (es ++ fs) ≡ text_of s es ++ text_of s fs
text_of-append s es fs = ap text_of_lines (entries-append s es fs) ∙ text-append (entry_lines s false es) (entry_lines s false fs)

pub entries_split : (s : Script) (journal : List Entry) (i : ℕ) (e : Entry) → i < length journal
    → e ≡ get_or journal i e
    → text_of s journal ≡ text_of s (take i journal) ++ (text_at s e ++ text_of s (drop (i + 1) journal))
entries_split s journal i e h is =
    let front = take i journal in
    let behind = drop (i + 1) journal in
    let parts : journal ≡ front ++ e ∷ behind = at_place journal i e h ∙ ap (λ (x : Entry). front ++ x ∷ behind) (sym is) in
    ap (text_of s) parts ∙ text_of-append s front (e ∷ behind)
    ∙ ap (λ (xs : List ℕ). text_of s front ++ xs) (text-append (line_if s e) (entry_lines s false behind))

pub entries_more : (s : Script) (journal : List Entry) (i : ℕ) (e : Entry) → i < length journal
    → e ≡ get_or journal i e
    → text_of s (take (i + 1) journal) ≡ text_of s (take i journal) ++ text_at s e
entries_more s journal i e h is =
    let front = take i journal in
    ap (text_of s) (take_more journal i e h ∙ ap (λ (x : Entry). front ++ x ∷ []) (sym is))
    ∙ text_of-append s front (e ∷ [])
    ∙ ap (λ (ls : List (List ℕ)). text_of s front ++ text_of_lines ls) (append-nil (line_if s e))

-- ---- lines in vectors

-- the text of lines
abbrev pub text_in : List (Vec ℕ) → List ℕ
text_in ls = text_of_lines (lines_of ls)

text_in-append : (xs ys : List (Vec ℕ)) → text_in (xs ++ ys) ≡ text_in xs ++ text_in ys
text_in-append xs ys =
    ap text_of_lines (map-append (λ (v : Vec ℕ). v.items) xs ys) ∙ text-append (lines_of xs) (lines_of ys)

pub lines_split : (ls : List (Vec ℕ)) (i : ℕ) (l : Vec ℕ) → i < length ls → l ≡ get_or ls i l
    → text_in ls ≡ text_in (take i ls) ++ ((l.items ++ 10 ∷ []) ++ text_in (drop (i + 1) ls))
lines_split ls i l h is =
    let front = take i ls in
    let behind = drop (i + 1) ls in
    let parts : ls ≡ front ++ l ∷ behind = at_place ls i l h ∙ ap (λ (x : Vec ℕ). front ++ x ∷ behind) (sym is) in
    ap text_in parts ∙ text_in-append front (l ∷ behind)
    ∙ ap (λ (xs : List ℕ). text_in front ++ xs) (sym (append_assoc l.items (10 ∷ []) (text_in behind)))

pub lines_more : (ls : List (Vec ℕ)) (i : ℕ) (l : Vec ℕ) → i < length ls → l ≡ get_or ls i l
    → text_in (take (i + 1) ls) ≡ text_in (take i ls) ++ (l.items ++ 10 ∷ [])
lines_more ls i l h is =
    let front = take i ls in
    ap text_in (take_more ls i l h ∙ ap (λ (x : Vec ℕ). front ++ x ∷ []) (sym is)) ∙ text_in-append front (l ∷ [])

-- an error of a text in the middle is one of the whole
pub cut_fails : (e : Unwritten) (before due behind whole : List ℕ) (old mid new : Option (List ℕ))
    (faults_old faults_mid faults_new : ℕ)
    → whole ≡ before ++ (due ++ behind) → mid ≡ then_bytes old before → faults_mid ≡ faults_old
    → Cut due mid new × IsCause e faults_mid faults_new → Cut whole old new × IsCause e faults_old faults_new
cut_fails e before due behind whole old mid new fo fm fn is b f w =
    rw is (
      cut_behind before (due ++ behind) old mid new b (cut_ahead due behind mid new w.0),
      cause_from e fo fm fn f w.1,
    )

-- a text in two parts, of which the second is not empty: an error in the first leaves something due, and so does one
-- between the two
pub front_fails : (e : Unwritten) (front last whole : List ℕ) (old new : Option (List ℕ)) (faults faults_new : ℕ)
    → whole ≡ front ++ last → 0 < length last → Part front old new × IsCause e faults faults_new
    → Cut whole old new × IsCause e faults faults_new
front_fails e front last whole old new faults faults_new is some w = rw is (part_cut front last old new some w.0, w.1)

pub last_missing : (front last whole : List ℕ) (old new : Option (List ℕ)) → whole ≡ front ++ last → 0 < length last
    → new ≡ then_bytes old front → Cut whole old new
last_missing front last whole old new is some taken = rw is (cut_behind front last old new new taken (cut_none last new new some refl))

-- a line is some text
pub line_some : (line : List ℕ) → 0 < length (line ++ 10 ∷ [])
line_some line = omega (arith, length-append line (10 ∷ []))

-- ---- the text of a run

-- the text of the lines at the end
abbrev pub ends_text : Script → List Entry → Ending → List ℕ
ends_text s es ending = text_of_lines (end_lines s es (After s es).edges ending)

pub run_parts : (s : Script) (es : List Entry) (ending : Ending)
    → rendering s es ending false ≡ text_of s es ++ ends_text s es ending
run_parts s es ending = text-append (entry_lines s false es) (end_lines s es (After s es).edges ending)

pub ends_some : (s : Script) (es : List Entry) (ending : Ending) → 0 < length (ends_text s es ending)
ends_some s es ending =
    let st = After s es in
    let alive = alive_from s.classes 0 st.parts.objects st.parts.finalised st.edges in
    let last = last_line ending (length es) (length st.parts.objects) (length st.parts.finalised) (length alive) in
    omega (
      arith,
      ap length (text-append alive (last ∷ [])),
      length-append (text_of_lines alive) (last ++ 10 ∷ []),
      line_some last,
    )
