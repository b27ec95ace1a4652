-- The lines at the end, by what a journal tells and by counts of edges.
use Rattle.std.proofs.Common.{◌≡◌, ℕ, suc, ◌+◌, ◌<◌, Bool, true, false, cond, List, [], ◌∷◌, ◌++◌, length, take, get_or, refl, sym, ap, ◌∙◌, append_assoc, append-nil, add-zero, arith}
use Rattle.std.specs.Prelude.{slice_index_or, ◌==◌}
use Rattle.std.proofs.lemmas.List.{take_more, length-take, length-map, map-append}
use Rattle.std.specs.Global.{Vec}
use Rattle.cf_syntax.specs.declared.script.Script.{Script}
use Rattle.cf_syntax.specs.declared.script.ClassLine.{ClassLine}
use Rattle.cf_graph.specs.declared.edge.Edge.{Edge}
use Rattle.cf_graph.specs.Edges.{Reference, weigh, owning, holding}
use Rattle.cf_contents.specs.Contents.{Object}
use Rattle.cf_model.specs.declared.entry.Entry.{Entry}
use Rattle.cf_model.specs.declared.ending.Ending.{Ending}
use Rattle.cf_model.specs.Finals.{finals}
use Rattle.cf_model.specs.State.{times}
use Rattle.cf_model.specs.Journals.{After, IsLegal}
use Rattle.cf_render.specs.declared.tally.Tally.{Tally}
use Rattle.cf_render.specs.Rendering.{alive_from, end_lines, last_line}
use Rattle.cf_render.specs.Ends.{AreOf, alive_in, counted_at, left_from, left_line, lines_of, nothing, owners_in, slots_in}
use Rattle.cf_render.specs.Made.{classes_told, finalised_in}
use Rattle.cf_render.proofs.Telling.{classes_of, objects_told}

-- the line of an object, if it is left
abbrev pub line_if : List ClassLine → ℕ → ℕ → Bool → (owners slots : ℕ) → List (List ℕ)
line_if names o c alive owners slots = cond alive (left_line names o c owners slots ∷ []) []

left-append : (names : List ClassLine) (o : ℕ) (xs ys : List ℕ) (f : ℕ → Bool) (g h : ℕ → ℕ)
    → left_from names o (xs ++ ys) f g h ≡ left_from names o xs f g h ++ left_from names (o + length xs) ys f g h
left-append names o [] ys f g h = rw add-zero refl
left-append names o (x ∷ xs) ys f g h =
    let place : o + 1 + length xs ≡ o + suc (length xs) = omega arith in
    let first = line_if names o x (f o) (g o) (h o) in
    ap (λ (ls : List (List ℕ)). first ++ ls) (left-append names (o + 1) xs ys f g h ∙ ap (λ (n : ℕ). left_from names (o + 1) xs f g h ++ left_from names n ys f g h) place)
    ∙ sym (append_assoc first (left_from names (o + 1) xs f g h) (left_from names (o + suc (length xs)) ys f g h))

-- one object more
pub left_more : (names : List ClassLine) (cs : List ℕ) (i c : ℕ) (f : ℕ → Bool) (g h : ℕ → ℕ) → i < length cs
    → left_from names 0 (take (i + 1) cs) f g h ≡ left_from names 0 (take i cs) f g h ++ line_if names i (slice_index_or cs i c) (f i) (g i) (h i)
left_more names cs i c f g h lt =
    let d = slice_index_or cs i c in
    let place : 0 + length (take i cs) ≡ i = omega (arith, length-take i cs) in
    ap (λ (xs : List ℕ). left_from names 0 xs f g h) (take_more cs i c lt) ∙ left-append names 0 (take i cs) (d ∷ []) f g h
    ∙ ap (λ (n : ℕ). left_from names 0 (take i cs) f g h ++ left_from names n (d ∷ []) f g h) place
    ∙ ap (λ (ls : List (List ℕ)). left_from names 0 (take i cs) f g h ++ ls) (append-nil (line_if names i d (f i) (g i) (h i)))

-- the same for a loop: an object that is left has a line, and another has none
pub left_on : (names : List ClassLine) (cs : List ℕ) (i c : ℕ) (f : ℕ → Bool) (g h : ℕ → ℕ) (lines after : List (Vec ℕ))
    (line : Vec ℕ)
    → i < length cs → c ≡ get_or cs i c
    → f i ≡ true → line.items ≡ left_line names i c (g i) (h i) → after ≡ lines ++ line ∷ [] → lines_of lines ≡ left_from names 0 (take i cs) f g h
    → lines_of after ≡ left_from names 0 (take (i + 1) cs) f g h
left_on names cs i c f g h lines after line lt is on wrote more so_far =
    ap lines_of more ∙ map-append (λ (l : Vec ℕ). l.items) lines (line ∷ []) ∙ ap (λ (ls : List (List ℕ)). ls ++ line.items ∷ []) so_far
    ∙ ap (λ (l : List ℕ). left_from names 0 (take i cs) f g h ++ l ∷ []) (wrote ∙ ap (λ (n : ℕ). left_line names i n (g i) (h i)) is)
    ∙ ap (λ (b : Bool). left_from names 0 (take i cs) f g h ++ line_if names i (slice_index_or cs i c) b (g i) (h i)) (sym on)
    ∙ sym (left_more names cs i c f g h lt)

pub left_off : (names : List ClassLine) (cs : List ℕ) (i : ℕ) (f : ℕ → Bool) (g h : ℕ → ℕ) (lines after : List (Vec ℕ))
    → i < length cs
    → f i ≡ false → after ≡ lines → lines_of lines ≡ left_from names 0 (take i cs) f g h
    → lines_of after ≡ left_from names 0 (take (i + 1) cs) f g h
left_off names cs i f g h lines after lt off same so_far =
    ap lines_of same ∙ so_far ∙ sym (append-nil (left_from names 0 (take i cs) f g h))
    ∙ ap (λ (b : Bool). left_from names 0 (take i cs) f g h ++ line_if names i (slice_index_or cs i 0) b (g i) (h i)) (sym off)
    ∙ sym (left_more names cs i 0 f g h lt)

-- lines by what is lent
pub from_lent : (names : List ClassLine) (cs ds : List ℕ) (us vs : List Bool) (ts ws : List Tally)
    (lines : List (List ℕ))
    → ds ≡ cs → vs ≡ us → ws ≡ ts
    → lines ≡ left_from names 0 ds (alive_in vs) (owners_in ws) (slots_in ws) → lines ≡ left_from names 0 cs (alive_in us) (owners_in ts) (slots_in ts)
from_lent names cs ds us vs ts ws lines p q r h =
    h ∙ ap (λ (xs : List ℕ). left_from names 0 xs (alive_in vs) (owners_in ws) (slots_in ws)) p
    ∙ ap (λ (bs : List Bool). left_from names 0 cs (alive_in bs) (owners_in ws) (slots_in ws)) q
    ∙ ap (λ (xs : List Tally). left_from names 0 cs (alive_in us) (owners_in xs) (slots_in xs)) r

-- the last line by equal counts
pub last_same : (ending : Ending) (events objects finals alive made left : ℕ) → objects ≡ made → alive ≡ left
    → last_line ending events objects finals alive ≡ last_line ending events made finals left
last_same ending events objects finals alive made left p q = ap (λ (n : ℕ). last_line ending events n finals alive) p ∙ ap (λ (n : ℕ). last_line ending events made finals n) q

-- functions that agree on the objects made
left-same : (names : List ClassLine) (o : ℕ) (cs : List ℕ) (f k : ℕ → Bool) (g h m n : ℕ → ℕ)
    → ((p : ℕ) → p < o + length cs → f p ≡ k p) → ((p : ℕ) → p < o + length cs → g p ≡ m p) → ((p : ℕ) → p < o + length cs → h p ≡ n p)
    → left_from names o cs f g h ≡ left_from names o cs k m n
left-same names o [] f k g h m n a b c = refl
left-same names o (x ∷ xs) f k g h m n a b c =
    let here : o < o + suc (length xs) = omega arith in
    let rest : left_from names (o + 1) xs f g h ≡ left_from names (o + 1) xs k m n = left-same names (o + 1) xs f k g h m n (λ p lt. a p (omega (arith, lt))) (λ p lt. b p (omega (arith, lt))) (λ p lt. c p (omega (arith, lt))) in
    ap (λ (ls : List (List ℕ)). line_if names o x (f o) (g o) (h o) ++ ls) rest
    ∙ ap (λ (t : Bool). line_if names o x t (g o) (h o) ++ left_from names (o + 1) xs k m n) (a o here)
    ∙ ap (λ (q : ℕ). line_if names o x (k o) q (h o) ++ left_from names (o + 1) xs k m n) (b o here)
    ∙ ap (λ (q : ℕ). line_if names o x (k o) (m o) q ++ left_from names (o + 1) xs k m n) (c o here)

alive-left : (names : List ClassLine) (o : ℕ) (obs : List Object) (finalised : List ℕ) (es : List Reference)
    → alive_from names o obs finalised es ≡ left_from names o (classes_of obs) (λ p. times p finalised == 0) (λ p. weigh (owning p) es) (λ p. weigh (holding p) es)
alive-left names o [] finalised es = refl
alive-left names o (ob ∷ obs) finalised es =
    ap (λ (ls : List (List ℕ)). line_if names o ob.class (times o finalised == 0) (weigh (owning o) es) (weigh (holding o) es) ++ ls) (alive-left names (o + 1) obs finalised es)

-- lines at the end by the classes told, and by what is told and counted of each object
module _ (s : Script) (journal : List Entry) (edges : List Edge) (ending : Ending) (legal : IsLegal s journal) (are : AreOf edges (After s journal).edges) where
  pub ends_are : (cs : List ℕ) (alive : List Bool) (tallies : List Tally) (count : ℕ) (lines after : List (Vec ℕ))
      (last : Vec ℕ)
      → cs ≡ classes_told s journal
      → ((o : ℕ) → o < length cs → alive_in alive o ≡ (finals o journal == 0))
      → ((o : ℕ) → o < length cs → slice_index_or tallies o nothing ≡ counted_at o edges)
      → count ≡ length (finalised_in journal)
      → lines_of lines ≡ left_from s.classes 0 cs (alive_in alive) (owners_in tallies) (slots_in tallies)
      → last.items ≡ last_line ending (length journal) (length cs) count (length lines)
      → after ≡ lines ++ last ∷ []
      → lines_of after ≡ end_lines s journal (After s journal).edges ending
  ends_are cs alive tallies count lines after last classes is_alive is_tallied counts written ended is =
      let told = objects_told s journal legal in
      let st = After s journal in
      let same : left_from s.classes 0 cs (alive_in alive) (owners_in tallies) (slots_in tallies) ≡ alive_from s.classes 0 st.parts.objects st.parts.finalised st.edges =
      left-same s.classes 0 cs (alive_in alive) (λ p. times p st.parts.finalised == 0) (owners_in tallies) (slots_in tallies) (λ p. weigh (owning p) st.edges) (λ p. weigh (holding p) st.edges)
      (λ p lt. is_alive p (omega (arith, lt)) ∙ ap (λ (n : ℕ). n == 0) (sym (told.finals p)))
      (λ p lt. ap (λ (t : Tally). t.owners) (is_tallied p (omega (arith, lt))) ∙ are.owned p)
      (λ p lt. ap (λ (t : Tally). t.slots) (is_tallied p (omega (arith, lt))) ∙ are.held p)
      ∙ ap (λ (xs : List ℕ). left_from s.classes 0 xs (λ p. times p st.parts.finalised == 0) (λ p. weigh (owning p) st.edges) (λ p. weigh (holding p) st.edges)) (classes ∙ sym told.classes)
      ∙ sym (alive-left s.classes 0 st.parts.objects st.parts.finalised st.edges) in
      let left : lines_of lines ≡ alive_from s.classes 0 st.parts.objects st.parts.finalised st.edges = written ∙ same in
      let made : length cs ≡ length st.parts.objects = ap length (classes ∙ sym told.classes) ∙ length-map st.parts.objects (λ (ob : Object). ob.class) in
      let gone : count ≡ length st.parts.finalised = counts ∙ sym told.count in
      let many : length lines ≡ length (alive_from s.classes 0 st.parts.objects st.parts.finalised st.edges) = sym (length-map lines (λ (l : Vec ℕ). l.items)) ∙ ap length left in
      ap lines_of is ∙ map-append (λ (l : Vec ℕ). l.items) lines (last ∷ [])
      ∙ ap (λ (ls : List (List ℕ)). ls ++ last.items ∷ []) left
      ∙ ap (λ (l : List ℕ). alive_from s.classes 0 st.parts.objects st.parts.finalised st.edges ++ l ∷ []) (
      ended
      ∙ ap (λ (n : ℕ). last_line ending (length journal) n count (length lines)) made
      ∙ ap (λ (n : ℕ). last_line ending (length journal) (length st.parts.objects) n (length lines)) gone
      ∙ ap (λ (n : ℕ). last_line ending (length journal) (length st.parts.objects) (length st.parts.finalised) n) many)
