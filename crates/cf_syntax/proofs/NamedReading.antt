-- A script that is read from a text has modes, and names no other modes and threads than its own.
use Rattle.std.proofs.Common.{◌≡◌, ℕ, suc, ◌+◌, ◌-◌, ◌<◌, ◌≤◌, Bool, true, false, cond, eqb, ltb, List, [], ◌∷◌, length, take, drop, replicate, Option, Some, None, Result, Ok, Err, refl, ap, sym, ◌∙◌, arith, subst}
use Rattle.std.specs.Prelude.{codes, nat_lt, not, is_some, option_and_then, IfSome, ◌&&◌}
use Rattle.std.specs.Option.{option_map}
use Rattle.std.specs.List.{All, list_any}
use Rattle.std.specs.Str.{bytes_eq, is_utf8}
use Rattle.std.proofs.lemmas.Bool.{and_parts, eqb-true, ltb-true}
use Rattle.std.proofs.lemmas.List.{length-append, length-take}
use Rattle.std.proofs.lemmas.List.Elements.{All-nil, All-push, All-weaker}
use Rattle.std.proofs.lemmas.Slice.Eq.{bytes_eq-Decides}
use Rattle.cf_ids.specs.declared.limits.TheConstants.{MODES}
use Rattle.cf_syntax.specs.declared.place.Place.TheVariants.{Between, Plain, Quoted}
use Rattle.cf_syntax.specs.declared.statement.Statement.{Statement}
use Rattle.cf_syntax.specs.declared.script.Parts.{Parts}
use Rattle.cf_syntax.specs.declared.script.Block.{Block}
use Rattle.cf_syntax.specs.declared.form.NameTable.TheVariants as tables
use Rattle.cf_syntax.specs.declared.form.Operand.TheVariants as operands
use Rattle.cf_syntax.specs.declared.refusal.Reason.{Reason}
use Rattle.cf_syntax.specs.declared.refusal.Reason.TheVariants.{NotUtf8, Header, Word, Order, Arity, Twice, TooMany, Open, NoSetup}
use Rattle.cf_syntax.specs.declared.refusal.Reason.TheVariants as reasons
use Rattle.cf_syntax.specs.Lines.{in_first, lines}
use Rattle.cf_syntax.specs.Words.{is_blank, says_nothing, with_byte, words, words_from}
use Rattle.cf_syntax.specs.FormTable.{FormWord, forms_now}
use Rattle.cf_syntax.specs.FormStatements.{word_at}
use Rattle.cf_syntax.specs.FormWords.{require, needed, starts, form_of, With, limit_of, numbered, no_numbers}
use Rattle.cf_syntax.specs.Numbered.{ThreadsNamed, ModesNamed, NamesThread, NamesMode, HasModes}
use Rattle.cf_syntax.specs.Text.{Opened, Reading, start, is_word, is_header, class_operands, handler_operands, thread_operands, has_words, class_has_name, block_has_name, used_words, numbered_uses, class_line, setup_line, thread_line, handler_line, outside, is_handler, end_line, statement_of, statement_line, inside, place_line, header_line, spoken_line, after_line, ended, whole, on_line_after, read_from, thread_name, thread_names, named_threads, script_by, script_of}
use Rattle.cf_syntax.proofs.RefusalLaws.{bind_ok}
use Rattle.cf_syntax.proofs.ReadingLaws.{OkHas, ok_has, err_has, then_has, either_has, has_ok, numbered_has}
use Rattle.cf_syntax.proofs.SizeLaws.{passed}
use Rattle.cf_syntax.proofs.NamedLaws.{HasMode, numbers_mode, no_numbers_mode, NamesWithin, within_more, Says, statement_says}

-- ---- what holds as a text is read

abbrev AllNamed : (threads modes : ℕ) → List Statement → Type 0
AllNamed threads modes xs = All (NamesWithin threads modes) xs

abbrev BlockNamed : (threads modes : ℕ) → Block → Type 0
BlockNamed threads modes b = AllNamed threads modes b.statements

abbrev OpenNamed : (threads modes : ℕ) → Option Opened → Type 0
OpenNamed threads modes o = IfSome o (λ b. AllNamed threads modes b.statements)

-- after the lines of so many threads, of a text that has so many: the statements name threads of the text, and modes
-- that have numbers
record Fitted (threads k : ℕ) (r : Reading) : Type 0 where
  begun : k ≤ r.threads - 1
  some : 0 < length r.names.modes
  few : length r.names.modes ≤ MODES
  ended : All (BlockNamed (suc threads) (length r.names.modes)) r.blocks
  opened : OpenNamed (suc threads) (length r.names.modes) r.open_block

all_more : (t m n : ℕ) → m ≤ n → (xs : List Statement) → AllNamed t m xs → AllNamed t n xs
all_more t m n le xs h = All-weaker (NamesWithin t m) (NamesWithin t n) (within_more t t m n (omega arith) le) xs h

blocks_more : (t m n : ℕ) → m ≤ n → (bs : List Block) → All (BlockNamed t m) bs → All (BlockNamed t n) bs
blocks_more t m n le bs h = All-weaker (BlockNamed t m) (BlockNamed t n) (λ b. all_more t m n le b.statements) bs h

none_named : (t m : ℕ) → AllNamed t m []
none_named t m = All-nil (NamesWithin t m)

-- ---- the names of the threads of lines

-- a first word is not both of two
other_word : (w a b : List ℕ) → bytes_eq w a ≡ true → bytes_eq a b ≡ false → bytes_eq w b ≡ false
other_word w a b e n = subst (λ (v : List ℕ). bytes_eq v b ≡ false) (sym ((bytes_eq-Decides w a).0 e)) n

-- so many threads begin with the line of these words
abbrev begins_with : List (List ℕ) → ℕ
begins_with ws = length (thread_name (Some ws))

counts_false : (ws : List (List ℕ)) (k : ℕ) → is_word ws 0 (codes "thread") ≡ false → k + begins_with ws ≡ k
counts_false ws k e = rw e (omega arith)

counts_true : (ws : List (List ℕ)) (k : ℕ) → is_word ws 0 (codes "thread") ≡ true → k + begins_with ws ≡ suc k
counts_true ws k e = rw e (omega arith)

no_thread : (ws : List (List ℕ)) (k : ℕ) (word : List ℕ) → is_word ws 0 word ≡ true
    → bytes_eq word (codes "thread") ≡ false → k + begins_with ws ≡ k
no_thread ws k word e n = counts_false ws k (other_word (word_at ws 0) word (codes "thread") e n)

-- ---- lines outside a block

module _ (threads k : ℕ) (r : Reading) (ws : List (List ℕ)) (h : Fitted threads k r) where
  abbrev After : Reading → Type 0
  After = Fitted threads (k + begins_with ws)

  class_fits : is_word ws 0 (codes "class") ≡ true → OkHas After (class_line r ws)
  unfolding class_line
  class_fits e =
      then_has After (require Order (eqb r.threads 0)) _ (λ a p. then_has After (has_words class_operands ws) _ (λ b q. then_has After (require Twice (not (class_has_name r.classes (word_at ws 1)))) _ (λ c u. then_has After (require TooMany (nat_lt (length r.classes) 1011)) _ (λ d v.
      ok_has After _ (record {
        begun = omega (arith, no_thread ws k (codes "class") e refl, h.begun);
        some = h.some;
        few = h.few;
        ended = h.ended;
        opened = h.opened;
      })))))

  setup_fits : is_word ws 0 (codes "setup") ≡ true → OkHas After (setup_line r ws)
  unfolding setup_line
  setup_fits e =
      then_has After (has_words [] ws) _ (λ a p. then_has After (require Twice (eqb r.threads 0)) _ (λ b q.
      let first = passed (eqb r.threads 0) tt b Twice q in
      ok_has After _ (record {
        begun = omega (arith, no_thread ws k (codes "setup") e refl, h.begun, eqb-true r.threads 0 first.0);
        some = h.some;
        few = h.few;
        ended = h.ended;
        opened = none_named (suc threads) (length r.names.modes);
      })))

  thread_fits : is_word ws 0 (codes "thread") ≡ true → OkHas After (thread_line r ws)
  unfolding thread_line
  thread_fits e =
      let some = nat_lt 0 r.threads in
      let placed = eqb (length r.blocks) r.threads in
      then_has After (require Order (some && placed)) _ (λ a p. then_has After (has_words (thread_operands (length ws)) ws) _ (λ b q. then_has After (require Twice (not (block_has_name (drop 1 r.blocks) (word_at ws 1)))) _ (λ c u. then_has After (require TooMany (nat_lt r.threads 64)) _ (λ d v. then_has After (numbered_uses r.names (used_words ws)) _ (λ vs w.
      let n = length r.names.modes in
      let os = replicate (length (used_words ws)) operands.Bound in
      let m = has_ok (HasMode n) (numbered_uses r.names (used_words ws)) vs w (numbers_mode n os (used_words ws) (no_numbers r.names) (no_numbers_mode r.names h.some h.few)) in
      let begun = ltb-true 0 r.threads (and_parts some placed (passed (some && placed) tt a Order p).0).0 in
      ok_has After _ (record {
        begun = omega (arith, counts_true ws k e, h.begun, begun);
        some = omega (arith, h.some, m.least);
        few = m.few;
        ended = blocks_more (suc threads) n (length vs.names.modes) m.least r.blocks h.ended;
        opened = none_named (suc threads) (length vs.names.modes);
      }))))))

  modes_kept : (word : List ℕ) (m : With ℕ) → numbered tables.Handlers word r.names ≡ Ok m → r.names.modes ≡ m.names.modes
  modes_kept word m e = ap (λ (x : With ℕ). x.names.modes) (passed (ltb _ (limit_of tables.Handlers)) _ m TooMany e).1

  handler_fits : is_word ws 0 (codes "handler") ≡ true → OkHas After (handler_line r ws)
  unfolding handler_line
  handler_fits e =
      then_has After (require Order (nat_lt 0 r.threads)) _ (λ a p. then_has After (has_words handler_operands ws) _ (λ b q. then_has After (require Twice (not (block_has_name (drop r.threads r.blocks) (word_at ws 1)))) _ (λ c u. then_has After (numbered tables.Handlers (word_at ws 1) r.names) _ (λ m v.
      let same = modes_kept (word_at ws 1) m v in
      ok_has After _ (record {
        begun = omega (arith, no_thread ws k (codes "handler") e refl, h.begun);
        some = omega (arith, h.some, ap length same);
        few = omega (arith, h.few, ap length same);
        ended = subst (λ (ms : List (List ℕ)). All (BlockNamed (suc threads) (length ms)) r.blocks) same h.ended;
        opened = none_named (suc threads) (length m.names.modes);
      })))))

  outside_fits : OkHas After (outside r ws)
  outside_fits =
      let refused = Err Word in
      let handlers = cond (is_word ws 0 (codes "handler")) (handler_line r ws) refused in
      let others = cond (is_word ws 0 (codes "thread")) (thread_line r ws) handlers in
      let blocks = cond (is_word ws 0 (codes "setup")) (setup_line r ws) others in
      where_word (is_word ws 0 (codes "class")) (class_line r ws) blocks class_fits
      (where_word (is_word ws 0 (codes "setup")) (setup_line r ws) others setup_fits
      (where_word (is_word ws 0 (codes "thread")) (thread_line r ws) handlers thread_fits
      (where_word (is_word ws 0 (codes "handler")) (handler_line r ws) refused handler_fits (err_has After Word))))
    where
      where_word : (b : Bool) (x y : Result Reading Reason) → (b ≡ true → OkHas After x) → OkHas After y
          → OkHas After (cond b x y)
      where_word true x y f g = f refl
      where_word false x y f g = g

  -- ---- lines inside a block

  end_fits : (b : Opened) → AllNamed (suc threads) (length r.names.modes) b.statements
      → is_word ws 0 (codes "end") ≡ true → OkHas After (end_line r b ws)
  unfolding end_line
  end_fits b named e =
      then_has After (require Arity (eqb (length ws) 1)) _ (λ a p. ok_has After _ (record {
        begun = omega (arith, no_thread ws k (codes "end") e refl, h.begun);
        some = h.some;
        few = h.few;
        ended = All-push (BlockNamed (suc threads) (length r.names.modes)) r.blocks _ h.ended named;
        opened = tt;
      }))

  -- no form begins with the word of a thread's line
  no_form : (f : FormWord) → form_of ws ≡ Ok f → is_word ws 0 (codes "thread") ≡ true → ⊥
  unfolding form_of
  no_form f e q =
      let first = bind_ok (require Word (list_any (λ r. starts r ws) forms_now)) _ f e in
      let any = (passed (list_any (λ r. starts r ws) forms_now) tt first.0 Word first.1).0 in
      let none : list_any (λ (r : FormWord). bytes_eq (word_at ws 0) r.word) forms_now ≡ false = subst (λ (w : List ℕ). list_any (λ (r : FormWord). bytes_eq w r.word) forms_now ≡ false) (sym ((bytes_eq-Decides (word_at ws 0) (codes "thread")).0 q)) refl in
      let both : true ≡ false = sym any ∙ none in
      cc

  not_a_form : (s : With Statement) (names : List (List ℕ)) (in_handler : Bool)
      → statement_of r.classes names in_handler r.names ws ≡ Ok s → is_word ws 0 (codes "thread") ≡ false
  unfolding statement_of
  not_a_form s names in_handler e =
      let f = bind_ok (form_of ws) _ s e in by (is_word ws 0 (codes "thread")) (no_form f.0 f.1)
    where
      by : (b : Bool) → (b ≡ true → ⊥) → b ≡ false
      by true h = absurd (h refl)
      by false h = refl

  said_fits : (names : List (List ℕ)) (b : Opened) → length names ≡ threads
      → AllNamed (suc threads) (length r.names.modes) b.statements → OkHas After (statement_line names r b ws)
  unfolding statement_line
  said_fits names b same named =
      let n = length r.names.modes in
      then_has After (statement_of r.classes names (is_handler b.kind) r.names ws) _ (λ x e.
      let says = has_ok (Says (length names) n) (statement_of r.classes names (is_handler b.kind) r.names ws) x e (statement_says r.classes names (is_handler b.kind) r.names ws h.some h.few) in
      let now = length x.names.modes in
      let here = subst (λ (t : ℕ). NamesWithin (suc t) now x.value) same says.within in
      ok_has After _ (record {
        begun = omega (arith, counts_false ws k (not_a_form x names (is_handler b.kind) e), h.begun);
        some = omega (arith, h.some, says.least);
        few = says.few;
        ended = blocks_more (suc threads) n now says.least r.blocks h.ended;
        opened = All-push (NamesWithin (suc threads) now) b.statements x.value (all_more (suc threads) n now says.least b.statements named) here;
      }))

  inside_fits : (names : List (List ℕ)) (b : Opened) → length names ≡ threads
      → AllNamed (suc threads) (length r.names.modes) b.statements → OkHas After (inside names r b ws)
  inside_fits names b same named = by (is_word ws 0 (codes "end")) refl
    where
      by : (t : Bool) → is_word ws 0 (codes "end") ≡ t → OkHas After (cond t (end_line r b ws) (statement_line names r b ws))
      by true e = end_fits b named e
      by false e = said_fits names b same named

  place_fits : (names : List (List ℕ)) (o : Option Opened) → length names ≡ threads
      → OpenNamed (suc threads) (length r.names.modes) o → OkHas After (place_line names r o ws)
  place_fits names None same named = outside_fits
  place_fits names (Some b) same named = inside_fits names b same named

  header_fits : OkHas After (header_line r ws)
  unfolding header_line
  header_fits =
      let first = is_word ws 0 (codes "cf") in
      let rest = first && is_word ws 1 (codes "1") in
      then_has After (require Header (is_header ws)) _ (λ a p.
      let is = (passed (eqb (length ws) 2 && rest) tt a Header p).0 in
      let word = (and_parts first (is_word ws 1 (codes "1")) (and_parts (eqb (length ws) 2) rest is).1).0 in
      ok_has After _ (record {
        begun = omega (arith, no_thread ws k (codes "cf") word refl, h.begun);
        some = h.some;
        few = h.few;
        ended = h.ended;
        opened = h.opened;
      }))

-- ---- the lines of a text

silent_blank : (o : Option (List (List ℕ))) → length (thread_name o) ≡ 0
    → length (thread_name (option_map (λ (ws : List (List ℕ)). ws) o)) ≡ 0
silent_blank None h = refl
silent_blank (Some ws) h = h

silent_sign : (o : Option (List (List ℕ))) → length (thread_name (option_map (in_first 35) o)) ≡ 0
silent_sign None = refl
silent_sign (Some []) = refl
silent_sign (Some (w ∷ ws)) = refl

-- after a blank, or a byte that begins a word
silent_step : (t : Bool) (b : ℕ) (bs : List ℕ)
    → (says_nothing bs ≡ true → length (thread_name (words bs)) ≡ 0) → cond t (says_nothing bs) (eqb b 35) ≡ true
    → length (thread_name (option_and_then (λ q. option_map (with_byte Between q b) (words_from q bs)) (cond t (Some Between) (cond (eqb b 34) (Some Quoted) (Some Plain))))) ≡ 0
silent_step true b bs rest e = silent_blank (words bs) (rest e)
silent_step false b bs rest e =
    subst (λ (c : ℕ). length (thread_name (option_and_then (λ p. option_map (with_byte Between p c) (words_from p bs)) (cond (eqb c 34) (Some Quoted) (Some Plain)))) ≡ 0) (sym (eqb-true b 35 e)) (silent_sign (words_from Plain bs))

-- a line that says nothing begins no thread
silent : (l : List ℕ) → says_nothing l ≡ true → length (thread_name (words l)) ≡ 0
silent [] e = refl
silent (b ∷ bs) e = silent_step (is_blank b) b bs (silent bs) e

abbrev begins_at : List ℕ → ℕ
begins_at l = length (thread_name (words l))

module _ (names : List (List ℕ)) (k : ℕ) (r : Reading) (l : List ℕ) (h : Fitted (length names) k r) where
  abbrev Then : Reading → Type 0
  Then = Fitted (length names) (k + begins_at l)

  spoken_fits : OkHas Then (spoken_line names r l)
  unfolding spoken_line
  spoken_fits =
      then_has Then (needed reasons.Text (words l)) _ (λ ws e.
      let is = words_are (words l) ws e in
      let P = Fitted (length names) (k + begins_with ws) in
      let place = place_fits (length names) k r ws h names r.open_block refl h.opened in
      subst (λ (o : Option (List (List ℕ))). OkHas (Fitted (length names) (k + length (thread_name o))) (cond (eqb r.count 0) (header_line r ws) (place_line names r r.open_block ws))) (sym is)
      (either_has P (eqb r.count 0) (header_line r ws) (place_line names r r.open_block ws) (header_fits (length names) k r ws h) place))
    where
      words_are : (o : Option (List (List ℕ))) (ws : List (List ℕ)) → needed reasons.Text o ≡ Ok ws → o ≡ Some ws
      words_are None ws e = absurd cc
      words_are (Some vs) ws e = cc

  line_fits : OkHas Then (after_line names r l)
  unfolding after_line
  line_fits =
      let quiet = nat_lt 0 r.count && says_nothing l in
      let found = cond quiet (Ok r) (spoken_line names r l) in
      then_has Then (require NotUtf8 (is_utf8 l)) _ (λ a p. then_has Then found _ (λ s e.
      let here = has_ok Then found s e (said quiet refl) in
      ok_has Then _ (record {
        begun = here.begun;
        some = here.some;
        few = here.few;
        ended = here.ended;
        opened = here.opened;
      })))
    where
      said : (t : Bool) → (nat_lt 0 r.count && says_nothing l) ≡ t → OkHas Then (cond t (Ok r) (spoken_line names r l))
      said true e =
          let none = silent l (and_parts (nat_lt 0 r.count) (says_nothing l) e).1 in
          ok_has Then r (record {
            begun = omega (arith, h.begun, none);
            some = h.some;
            few = h.few;
            ended = h.ended;
            opened = h.opened;
          })
      said false e = spoken_fits

all_fit : (names : List (List ℕ)) (k : ℕ) (r : Reading) (ls : List (List ℕ)) → Fitted (length names) k r
    → OkHas (Fitted (length names) (k + length (thread_names ls))) (read_from names r ls)
all_fit names k r [] h =
    let n : k ≡ k + 0 = omega arith in
    ok_has (Fitted (length names) (k + 0)) r (subst (λ (m : ℕ). Fitted (length names) m r) n h)
all_fit names k r (l ∷ ls) h =
    let P = Fitted (length names) (k + length (thread_names (l ∷ ls))) in
    let n : (k + begins_at l) + length (thread_names ls) ≡ k + length (thread_names (l ∷ ls)) = omega (arith, length-append (thread_name (words l)) (thread_names ls)) in
    then_has P (on_line_after r.count (after_line names r l)) _ (λ s e.
    let here = has_ok (Fitted (length names) (k + begins_at l)) (on_line_after r.count (after_line names r l)) s e (numbered_has (Fitted (length names) (k + begins_at l)) r.count (after_line names r l) (line_fits names k r l h)) in
    subst (λ (m : ℕ). OkHas (Fitted (length names) m) (read_from names s ls)) n (all_fit names (k + begins_at l) s ls here))

-- the modes and the threads that a script names
pub record NamesOnly (s : Parts) : Type 0 where
  pub modes : HasModes s
  pub threads : All (ThreadsNamed s.thread_count) s.blocks

has_setup : (r : Reading) (a : Unit {0}) → ended r ≡ Ok a → 0 < r.threads
unfolding ended
has_setup r a e =
    let b = bind_ok (require Header (nat_lt 0 r.count)) _ a e in
    let c = bind_ok (require Open (not (is_some r.open_block))) _ a b.2 in
    ltb-true 0 r.threads (passed (nat_lt 0 r.threads) tt a NoSetup c.2).0

whole_fits : (threads k : ℕ) (r : Reading) → threads ≤ k → Fitted threads k r → OkHas NamesOnly (whole r)
unfolding whole
whole_fits threads k r le h =
    then_has NamesOnly (ended r) _ (λ a p.
    let some = has_setup r a p in
    ok_has NamesOnly _ (record {
      modes = record {
        some = h.some;
        few = h.few;
        named = All-weaker (BlockNamed (suc threads) (length r.names.modes)) (ModesNamed (length r.names.modes)) (λ b. All-weaker (NamesWithin (suc threads) (length r.names.modes)) (NamesMode (length r.names.modes)) (λ x g. g.mode) b.statements) r.blocks h.ended;
      };
      threads = All-weaker (BlockNamed (suc threads) (length r.names.modes)) (ThreadsNamed r.threads) (λ b. All-weaker (NamesWithin (suc threads) (length r.names.modes)) (NamesThread r.threads) (λ x g. (within_more (suc threads) r.threads (length r.names.modes) (length r.names.modes) (omega (arith, some, le, h.begun)) (omega arith) x g).thread) b.statements) r.blocks h.ended;
    }))

started : (threads : ℕ) → Fitted threads 0 start
started threads = record {
  begun = omega arith;
  some = omega arith;
  few = omega arith;
  ended = All-nil (BlockNamed (suc threads) 1);
  opened = tt;
}

script_fits : (ls : List (List ℕ)) → OkHas NamesOnly (script_by (named_threads ls) ls)
unfolding script_by
script_fits ls =
    let names = named_threads ls in
    let k = length (thread_names ls) in
    then_has NamesOnly (read_from names start ls) (λ r. on_line_after r.count (whole r)) (λ r e.
    let h = has_ok (Fitted (length names) (0 + k)) (read_from names start ls) r e (all_fit names 0 start ls (started (length names))) in
    numbered_has NamesOnly r.count (whole r) (whole_fits (length names) (0 + k) r (few (thread_names ls) 63) h))
  where
    few : (xs : List (List ℕ)) (n : ℕ) → length (take n xs) ≤ 0 + length xs
    few xs n = omega (arith, length-take n xs)

pub text_names_only : (bs : List ℕ) (s : Parts) → script_of bs ≡ Ok s → NamesOnly s
text_names_only bs s e = has_ok NamesOnly (script_by (named_threads (lines bs)) (lines bs)) s e (script_fits (lines bs))
