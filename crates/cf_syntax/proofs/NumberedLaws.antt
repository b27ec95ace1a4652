-- A script that is read from a text of at most 1,048,576 bytes has numbers that fit.
use Rattle.std.proofs.Common.{◌≡◌, ℕ, suc, ◌+◌, ◌<◌, ◌≤◌, Bool, true, false, cond, not, eqb, ltb, List, [], ◌∷◌, ◌++◌, length, map, drop, replicate, Option, Some, None, Result, Ok, Err, refl, ap, sym, ◌∙◌, arith, subst, append-nil}
use Rattle.std.specs.Prelude.{◌||◌, ◌&&◌, codes, IfSome}
use Rattle.std.specs.Option.{option_map}
use Rattle.std.specs.List.{All, list_any, position_or_len}
use Rattle.std.specs.Str.{bytes_eq, is_utf8}
use Rattle.std.proofs.lemmas.Bool.{and_parts, eqb-true, ltb-true}
use Rattle.std.proofs.lemmas.List.{length-append, length-drop, length-map, drop-append-le, drop_all}
use Rattle.std.proofs.lemmas.List.Elements.{All-nil, All-push, All-map}
use Rattle.cf_ids.specs.declared.limits.TheConstants.{SCRIPT_BYTES}
use Rattle.cf_syntax.specs.declared.script.ClassLine.{ClassLine}
use Rattle.cf_syntax.specs.declared.script.Block.{Block}
use Rattle.cf_syntax.specs.declared.script.Given.{Given}
use Rattle.cf_syntax.specs.declared.script.Parts.{Parts}
use Rattle.cf_syntax.specs.declared.place.Place.TheVariants.{Between}
use Rattle.cf_syntax.specs.declared.form.BlockKind.{BlockKind}
use Rattle.cf_syntax.specs.declared.form.BlockKind.TheVariants as kinds
use Rattle.cf_syntax.specs.declared.form.NameTable.TheVariants as tables
use Rattle.cf_syntax.specs.declared.form.Operand.TheVariants as operands
use Rattle.cf_syntax.specs.declared.statement.Statement.{Statement}
use Rattle.cf_syntax.specs.declared.refusal.Reason.{Reason}
use Rattle.cf_syntax.specs.declared.refusal.Reason.TheVariants.{NotUtf8, Header, Order, Arity, Twice, TooMany, Open, NoSetup}
use Rattle.cf_syntax.specs.declared.refusal.Reason.TheVariants as reasons
use Rattle.cf_syntax.specs.Lines.{pieces, without_return, lines}
use Rattle.cf_syntax.specs.Words.{says_nothing, words}
use Rattle.cf_syntax.specs.FormWords.{require, needed, form_of, are_of, Names, With, numbered, numbers_of, no_numbers}
use Rattle.cf_syntax.specs.FormStatements.{word_at, statement_by}
use Rattle.cf_syntax.specs.Numbered.{IsPlaced, FitsText, IsNumbered}
use Rattle.cf_syntax.specs.Text.{Opened, Reading, start, is_word, is_header, class_operands, handler_operands, thread_operands, has_words, class_has_name, block_has_name, class_by, class_line, new_block, setup_line, setup_variables, givens_of, used_words, numbered_uses, uses_of, thread_line, handler_line, outside, is_handler, close_block, end_line, statement_of, with_statement, statement_line, place_line, header_line, spoken_line, after_line, handler_named, ended, script_at, whole, on_line_after, read_from, named_threads, script_by, script_of}
use Rattle.cf_syntax.proofs.NamedReading.{NamesOnly, text_names_only}
use Rattle.cf_syntax.proofs.RefusalLaws.{bind_ok}
use Rattle.cf_syntax.proofs.SizeLaws.{EachWithin, CountWithin, pieces_within, pieces_count, lines_within, within_more, words_count, Grown, passed, read_as, ok_is, numbered_grown, numbers_grown, counted_few, member, Named, named_on, named_push, with_member}

-- ---- what holds as a text is read

-- the name of a block that is open, if it is that of a handler
abbrev opened_name : BlockKind → List ℕ → List (List ℕ)
opened_name kinds.Setup name = []
opened_name kinds.Thread name = []
opened_name kinds.Handler name = name ∷ []

abbrev open_name : Option Opened → List (List ℕ)
open_name None = []
open_name (Some b) = opened_name b.kind b.name

abbrev block_names : List Block → List (List ℕ)
block_names bs = map (λ (b : Block). b.name) bs

-- the names of handlers whose blocks began
abbrev handler_names : (threads : ℕ) → List Block → Option Opened → List (List ℕ)
handler_names threads blocks o = block_names (drop threads blocks) ++ open_name o

-- the open block has at most so many statements
abbrev OpenFits : ℕ → Option Opened → Type 0
OpenFits c None = Unit {0}
OpenFits c (Some b) = (length b.uses ≤ SCRIPT_BYTES) × (length b.statements ≤ c)

-- the blocks of threads are those that are ended, with the open one if it is of a thread
abbrev KindPlaced : ℕ → ℕ → BlockKind → Type 0
KindPlaced threads blocks kinds.Setup = threads ≡ suc blocks
KindPlaced threads blocks kinds.Thread = threads ≡ suc blocks
KindPlaced threads blocks kinds.Handler = threads ≤ blocks

abbrev OpenPlaced : ℕ → ℕ → Option Opened → Type 0
OpenPlaced threads blocks None = threads ≤ blocks
OpenPlaced threads blocks (Some b) = KindPlaced threads blocks b.kind

-- before setup there is no block
abbrev Begun : ℕ → List Block → Option Opened → Type 0
Begun threads blocks o = threads ≡ 0 → (blocks ≡ []) × (o ≡ None)

-- after so many lines
record Bounded (c : ℕ) (r : Reading) : Type 0 where
  threads : r.threads ≤ 64
  blocks : All FitsText r.blocks
  opened : OpenFits c r.open_block
  begun : Begun r.threads r.blocks r.open_block
  placed : OpenPlaced r.threads (length r.blocks) r.open_block
  few : length r.names.handlers ≤ 1024
  named : Named (handler_names r.threads r.blocks r.open_block) r.names.handlers

abbrev Next : ℕ → Result Reading Reason → Type 0
Next c found = (s : Reading) → found ≡ Ok s → Bounded (suc c) s

opened_more : (c : ℕ) (o : Option Opened) → OpenFits c o → OpenFits (suc c) o
opened_more c None h = tt
opened_more c (Some b) h = (h.0, omega (arith, h.1))

-- a line that changes nothing of it
kept : (c : ℕ) (r : Reading) (classes : List ClassLine) → Bounded c r → Bounded (suc c) (record r { classes = classes })
kept c r classes h = record {
  threads = h.threads;
  blocks = h.blocks;
  opened = opened_more c r.open_block h.opened;
  begun = h.begun;
  placed = h.placed;
  few = h.few;
  named = h.named;
}

none_named : (names hs : List (List ℕ)) → names ≡ [] → Named names hs
none_named names hs e = rw e (omega arith)

-- ---- lines outside a block

class_next : (c : ℕ) (r : Reading) (ws : List (List ℕ)) → Bounded c r → Next c (class_line r ws)
unfolding class_line
class_next c r ws h s e =
    let a = bind_ok (require Order (eqb r.threads 0)) _ s e in
    let b = bind_ok (has_words class_operands ws) _ s a.2 in
    let d = bind_ok (require Twice (not (class_has_name r.classes (word_at ws 1)))) _ s b.2 in
    let f = bind_ok (require TooMany (ltb (length r.classes) 1011)) _ s d.2 in
    subst (Bounded (suc c)) (ok_is _ s f.2) (kept c r (r.classes ++ class_by ws ∷ []) h)

begin_setup : (c : ℕ) (r : Reading) → Bounded c r → r.threads ≡ 0
    → Bounded (suc c) (record (new_block r kinds.Setup (codes "setup") []) { threads = 1 })
begin_setup c r h e =
    let none = (h.begun e).0 in
    record {
      threads = omega arith;
      blocks = h.blocks;
      opened = (omega arith, omega arith);
      begun = λ z. absurd (omega (arith, z));
      placed = sym (ap (λ (bs : List Block). suc (length bs)) none);
      few = h.few;
      named = none_named _ r.names.handlers (ap (λ (bs : List Block). block_names (drop 1 bs) ++ []) none);
    }

setup_next : (c : ℕ) (r : Reading) (ws : List (List ℕ)) → Bounded c r → Next c (setup_line r ws)
unfolding setup_line
setup_next c r ws h s e =
    let a = bind_ok (has_words [] ws) _ s e in
    let b = bind_ok (require Twice (eqb r.threads 0)) _ s a.2 in
    let p = passed (eqb r.threads 0) tt b.0 Twice b.1 in
    subst (Bounded (suc c)) (ok_is _ s b.2) (begin_setup c r h (eqb-true r.threads 0 p.0))

givens_count : (setup ws : List (List ℕ)) (ns : List ℕ) → length (givens_of setup ws ns) ≤ length ws
givens_count setup [] ns = omega arith
givens_count setup (w ∷ ws) [] = omega arith
givens_count setup (w ∷ ws) (n ∷ ns) = omega (arith, givens_count setup ws ns)

uses_count : (r : Reading) (ws : List (List ℕ)) (ns : List ℕ) → length ws ≤ suc SCRIPT_BYTES
    → length (uses_of r ws ns) ≤ SCRIPT_BYTES
uses_count r ws ns le = omega (arith, le, givens_count (setup_variables r.blocks) (drop 3 ws) ns, length-drop 3 ws)

begin_thread : (c : ℕ) (r : Reading) (name : List ℕ) (uses : List Given) (names : Names) → Bounded c r
    → length r.blocks ≡ r.threads → r.threads < 64 → length uses ≤ SCRIPT_BYTES
    → Grown r.names.handlers names.handlers
    → Bounded (suc c) (record (new_block r kinds.Thread name uses) { threads = r.threads + 1; names = names })
begin_thread c r name uses names h placed few le g =
    record {
      threads = omega (arith, few);
      blocks = h.blocks;
      opened = (le, omega arith);
      begun = λ z. absurd (omega (arith, z));
      placed = omega (arith, placed);
      few = g.few h.few;
      named = none_named _ names.handlers (ap (λ (bs : List Block). block_names bs ++ []) (drop_all (r.threads + 1) r.blocks (omega (arith, placed))));
    }

thread_next : (c : ℕ) (r : Reading) (ws : List (List ℕ)) → Bounded c r → length ws ≤ suc SCRIPT_BYTES
    → Next c (thread_line r ws)
unfolding thread_line
thread_next c r ws h le s e =
    let a = bind_ok (require Order (ltb 0 r.threads && eqb (length r.blocks) r.threads)) _ s e in
    let b = bind_ok (has_words (thread_operands (length ws)) ws) _ s a.2 in
    let d = bind_ok (require Twice (not (block_has_name (drop 1 r.blocks) (word_at ws 1)))) _ s b.2 in
    let f = bind_ok (require TooMany (ltb r.threads 64)) _ s d.2 in
    let g = bind_ok (numbered_uses r.names (used_words ws)) _ s f.2 in
    let p = passed (ltb 0 r.threads && eqb (length r.blocks) r.threads) tt a.0 Order a.1 in
    let q = passed (ltb r.threads 64) tt f.0 TooMany f.1 in
    let placed = eqb-true (length r.blocks) r.threads (and_parts (ltb 0 r.threads) _ p.0).1 in
    subst (Bounded (suc c)) (ok_is _ s g.2)
    (begin_thread c r (word_at ws 1) (uses_of r ws g.0.value.variables) g.0.names h placed (ltb-true r.threads 64 q.0)
    (uses_count r ws g.0.value.variables le)
    (numbers_grown (replicate (length (used_words ws)) operands.Bound) (used_words ws) (no_numbers r.names) g.0 g.1))

begin_handler : (c : ℕ) (r : Reading) (name : List ℕ) (names : Names) (m : With ℕ) → Bounded c r → r.open_block ≡ None
    → 0 < r.threads → list_any (λ (b : Block). bytes_eq name b.name) (drop r.threads r.blocks) ≡ false
    → numbered tables.Handlers name r.names ≡ Ok m → names.handlers ≡ m.names.handlers
    → Bounded (suc c) (record (new_block r kinds.Handler name []) { names = names })
begin_handler c r name names m h none begun free e same =
    let g = numbered_grown tables.Handlers name r.names m e in
    let before = subst (λ (o : Option Opened). Named (handler_names r.threads r.blocks o) r.names.handlers) none h.named in
    let all = subst (λ (l : List (List ℕ)). Named l r.names.handlers) (append-nil (block_names (drop r.threads r.blocks))) before in
    record {
      threads = h.threads;
      blocks = h.blocks;
      opened = (omega arith, omega arith);
      begun = λ z. absurd (omega (arith, begun, z));
      placed = subst (λ (o : Option Opened). OpenPlaced r.threads (length r.blocks) o) none h.placed;
      few = omega (arith, g.few h.few, ap length same);
      named = subst (λ (l : List (List ℕ)). Named (block_names (drop r.threads r.blocks) ++ name ∷ []) l) (sym same)
          (named_push (block_names (drop r.threads r.blocks)) name m.names.handlers (named_on _ r.names.handlers m.names.handlers g all)
          (any_name name (drop r.threads r.blocks) ∙ free)
          (numbered_member name r.names m e));
    }
  where
    any_name : (w : List ℕ) (bs : List Block)
        → member (block_names bs) w ≡ list_any (λ (b : Block). bytes_eq w b.name) bs
    any_name w [] = refl
    any_name w (b ∷ bs) = ap (λ (t : Bool). bytes_eq w b.name || t) (any_name w bs)

    numbered_member : (w : List ℕ) (names : Names) (m : With ℕ) → numbered tables.Handlers w names ≡ Ok m
        → member m.names.handlers w ≡ true
    numbered_member w names m e =
        let n = position_or_len (bytes_eq w) names.handlers in
        let p = passed (ltb n 1024) _ m TooMany e in
        subst (λ (x : With ℕ). member x.names.handlers w ≡ true) p.1 (with_member w names.handlers)

not_false : (t : Bool) → not t ≡ true → t ≡ false
not_false true e = absurd cc
not_false false e = refl

handler_next : (c : ℕ) (r : Reading) (ws : List (List ℕ)) → Bounded c r → r.open_block ≡ None
    → Next c (handler_line r ws)
unfolding handler_line
handler_next c r ws h none s e =
    let a = bind_ok (require Order (ltb 0 r.threads)) _ s e in
    let b = bind_ok (has_words handler_operands ws) _ s a.2 in
    let d = bind_ok (require Twice (not (block_has_name (drop r.threads r.blocks) (word_at ws 1)))) _ s b.2 in
    let f = bind_ok (numbered tables.Handlers (word_at ws 1) r.names) _ s d.2 in
    let p = passed (ltb 0 r.threads) tt a.0 Order a.1 in
    let q = passed (not (block_has_name (drop r.threads r.blocks) (word_at ws 1))) tt d.0 Twice d.1 in
    subst (Bounded (suc c)) (ok_is _ s f.2)
    (begin_handler c r (word_at ws 1) _ f.0 h none (ltb-true 0 r.threads p.0) (not_false _ q.0) f.1 refl)

outside_next : (c : ℕ) (r : Reading) (ws : List (List ℕ)) → Bounded c r → r.open_block ≡ None
    → length ws ≤ suc SCRIPT_BYTES → Next c (outside r ws)
outside_next c r ws h none le =
    either (is_word ws 0 (codes "class")) _ _ (class_next c r ws h)
    (either (is_word ws 0 (codes "setup")) _ _ (setup_next c r ws h)
    (either (is_word ws 0 (codes "thread")) _ _ (thread_next c r ws h le)
    (either (is_word ws 0 (codes "handler")) _ _ (handler_next c r ws h none) (λ s e. absurd cc))))
  where
    either : (t : Bool) (x y : Result Reading Reason) → Next c x → Next c y → Next c (cond t x y)
    either true x y p q = p
    either false x y p q = q

-- ---- lines inside a block

thread_closed : (threads : ℕ) (blocks : List Block) (b : Block) → threads ≡ suc (length blocks)
    → block_names (drop threads (blocks ++ b ∷ [])) ++ [] ≡ block_names (drop threads blocks) ++ []
thread_closed threads blocks b p =
    ap (λ (bs : List Block). block_names bs ++ []) (drop_all threads (blocks ++ b ∷ []) (omega (arith, p, length-append blocks (b ∷ [])))
    ∙ sym (drop_all threads blocks (omega (arith, p))))

names_push : (bs : List Block) (b : Block) → block_names (bs ++ b ∷ []) ≡ block_names bs ++ b.name ∷ []
names_push [] b = refl
names_push (c ∷ bs) b = ap (λ (l : List (List ℕ)). c.name ∷ l) (names_push bs b)

-- the names of handlers as a block ends
closed_names : (threads : ℕ) (blocks : List Block) (kind : BlockKind) (b : Block)
    → KindPlaced threads (length blocks) kind
    → block_names (drop threads (blocks ++ b ∷ [])) ++ [] ≡ block_names (drop threads blocks) ++ opened_name kind b.name
closed_names threads blocks kinds.Setup b p = thread_closed threads blocks b p
closed_names threads blocks kinds.Thread b p = thread_closed threads blocks b p
closed_names threads blocks kinds.Handler b p =
    append-nil (block_names (drop threads (blocks ++ b ∷ [])))
    ∙ ap block_names (drop-append-le threads blocks (b ∷ []) p)
    ∙ names_push (drop threads blocks) b

closed_placed : (threads blocks : ℕ) (kind : BlockKind) → KindPlaced threads blocks kind → threads ≤ suc blocks
closed_placed threads blocks kinds.Setup p = omega (arith, p)
closed_placed threads blocks kinds.Thread p = omega (arith, p)
closed_placed threads blocks kinds.Handler p = omega (arith, p)

some_is_none : {A : Type 0} (b : Opened) → Some b ≡ None → A
some_is_none b e = absurd cc

end_block : (c : ℕ) (r : Reading) (b : Opened) (line : ℕ) → Bounded c r → r.open_block ≡ Some b → c ≤ SCRIPT_BYTES
    → Bounded (suc c) (record r {
      blocks = r.blocks ++ close_block b r.names.variables line ∷ [];
      open_block = None;
      names = record r.names { variables = [] };
    })
end_block c r b line h is le =
    let closed = close_block b r.names.variables line in
    let opened = subst (OpenFits c) is h.opened in
    let placed = subst (OpenPlaced r.threads (length r.blocks)) is h.placed in
    let named = subst (λ (o : Option Opened). Named (handler_names r.threads r.blocks o) r.names.handlers) is h.named in
    record {
      threads = h.threads;
      blocks = All-push FitsText r.blocks closed h.blocks (record { uses = opened.0; statements = omega (arith, opened.1, le) });
      opened = tt;
      begun = λ z. some_is_none b (sym is ∙ (h.begun z).1);
      placed = omega (arith, closed_placed r.threads (length r.blocks) b.kind placed, length-append r.blocks (closed ∷ []));
      few = h.few;
      named = subst (λ (l : List (List ℕ)). Named l r.names.handlers) (sym (closed_names r.threads r.blocks b.kind closed placed)) named;
    }

end_next : (c : ℕ) (r : Reading) (b : Opened) (ws : List (List ℕ)) → Bounded c r → r.open_block ≡ Some b
    → c ≤ SCRIPT_BYTES → Next c (end_line r b ws)
unfolding end_line
end_next c r b ws h is le s e =
    let a = bind_ok (require Arity (eqb (length ws) 1)) _ s e in
    subst (Bounded (suc c)) (ok_is _ s a.2) (end_block c r b (r.count + 1) h is le)

statement_grown : (classes : List ClassLine) (threads : List (List ℕ)) (in_handler : Bool) (names : Names)
    (ws : List (List ℕ)) (s : With Statement) → statement_of classes threads in_handler names ws ≡ Ok s
    → Grown names.handlers s.names.handlers
unfolding statement_of
statement_grown classes threads in_handler names ws s e =
    let a = bind_ok (form_of ws) _ s e in
    let b = bind_ok (are_of in_handler a.0.operands [] (drop 1 ws)) _ s a.2 in
    let d = bind_ok (numbers_of a.0.operands (drop 1 ws) (no_numbers names)) _ s b.2 in
    let f = bind_ok (statement_by classes threads a.0.form d.0.value ws) _ s d.2 in
    subst (λ (x : With Statement). Grown names.handlers x.names.handlers) (ok_is _ s f.2)
    (numbers_grown a.0.operands (drop 1 ws) (no_numbers names) d.0 d.1)

put_statement : (c : ℕ) (r : Reading) (b : Opened) (t : Statement) (line : ℕ) (names : Names) → Bounded c r
    → r.open_block ≡ Some b → Grown r.names.handlers names.handlers
    → Bounded (suc c) (record r { open_block = Some (with_statement b t line); names = names })
put_statement c r b t line names h is g =
    let opened = subst (OpenFits c) is h.opened in
    let named = subst (λ (o : Option Opened). Named (handler_names r.threads r.blocks o) r.names.handlers) is h.named in
    record {
      threads = h.threads;
      blocks = h.blocks;
      opened = (opened.0, omega (arith, opened.1, length-append b.statements (t ∷ [])));
      begun = λ z. some_is_none b (sym is ∙ (h.begun z).1);
      placed = subst (OpenPlaced r.threads (length r.blocks)) is h.placed;
      few = g.few h.few;
      named = named_on _ r.names.handlers names.handlers g named;
    }

statement_next : (threads : List (List ℕ)) (c : ℕ) (r : Reading) (b : Opened) (ws : List (List ℕ)) → Bounded c r
    → r.open_block ≡ Some b → Next c (statement_line threads r b ws)
unfolding statement_line
statement_next threads c r b ws h is s e =
    let a = bind_ok (statement_of r.classes threads (is_handler b.kind) r.names ws) _ s e in
    subst (Bounded (suc c)) (ok_is _ s a.2)
    (put_statement c r b a.0.value (r.count + 1) a.0.names h is
    (statement_grown r.classes threads (is_handler b.kind) r.names ws a.0 a.1))

-- ---- the lines of a text

place_next : (threads : List (List ℕ)) (c : ℕ) (r : Reading) (o : Option Opened) (ws : List (List ℕ)) → Bounded c r
    → r.open_block ≡ o → c ≤ SCRIPT_BYTES → length ws ≤ suc SCRIPT_BYTES → Next c (place_line threads r o ws)
place_next threads c r None ws h is le count = outside_next c r ws h is count
place_next threads c r (Some b) ws h is le count = inside_next (is_word ws 0 (codes "end"))
  where
    inside_next : (t : Bool) → Next c (cond t (end_line r b ws) (statement_line threads r b ws))
    inside_next true = end_next c r b ws h is le
    inside_next false = statement_next threads c r b ws h is

header_next : (c : ℕ) (r : Reading) (ws : List (List ℕ)) → Bounded c r → Next c (header_line r ws)
unfolding header_line
header_next c r ws h s e =
    let a = bind_ok (require Header (is_header ws)) _ s e in
    subst (Bounded (suc c)) (ok_is r s a.2) (kept c r r.classes h)

spoken_next : (threads : List (List ℕ)) (c : ℕ) (r : Reading) (line : List ℕ) → Bounded c r → c ≤ SCRIPT_BYTES
    → length line ≤ SCRIPT_BYTES → Next c (spoken_line threads r line)
unfolding spoken_line
spoken_next threads c r line h le short s e =
    let a = bind_ok (needed reasons.Text (words line)) _ s e in
    first (eqb r.count 0) a.0 (found (words line) a.0 (words_count Between line) a.1) s a.2
  where
    found : (o : Option (List (List ℕ))) (ws : List (List ℕ)) → CountWithin (suc (length line)) o
        → needed reasons.Text o ≡ Ok ws → length ws ≤ suc SCRIPT_BYTES
    found None ws h e = absurd cc
    found (Some vs) ws h e = let same : vs ≡ ws = cc in omega (arith, h, short, ap length same)

    first : (t : Bool) (ws : List (List ℕ)) → length ws ≤ suc SCRIPT_BYTES
        → Next c (cond t (header_line r ws) (place_line threads r r.open_block ws))
    first true ws count = header_next c r ws h
    first false ws count = place_next threads c r r.open_block ws h refl le count

after_next : (threads : List (List ℕ)) (c : ℕ) (r : Reading) (line : List ℕ) → Bounded c r → c ≤ SCRIPT_BYTES
    → length line ≤ SCRIPT_BYTES → Next c (after_line threads r line)
unfolding after_line
after_next threads c r line h le short s e =
    let a = bind_ok (require NotUtf8 (is_utf8 line)) _ s e in
    let b = bind_ok (cond (ltb 0 r.count && says_nothing line) (Ok r) (spoken_line threads r line)) _ s a.2 in
    subst (Bounded (suc c)) (ok_is _ s b.2)
    (counts (r.count + 1) b.0 (said (ltb 0 r.count && says_nothing line) b.0 b.1))
  where
    said : (t : Bool) → Next c (cond t (Ok r) (spoken_line threads r line))
    said true s e = subst (Bounded (suc c)) (ok_is r s e) (kept c r r.classes h)
    said false s e = spoken_next threads c r line h le short s e

    counts : (n : ℕ) (s : Reading) → Bounded (suc c) s → Bounded (suc c) (record s { count = n })
    counts n s h = record {
      threads = h.threads;
      blocks = h.blocks;
      opened = h.opened;
      begun = h.begun;
      placed = h.placed;
      few = h.few;
      named = h.named;
    }

line_ok : {A : Type 0} (count : ℕ) (found : Result A Reason) (x : A) → on_line_after count found ≡ Ok x
    → found ≡ read_as x
line_ok count (Ok y) x e = let same : y ≡ x = cc in ap read_as same
line_ok count (Err reason) x e = absurd cc

read_next : (threads : List (List ℕ)) (c : ℕ) (r : Reading) (ls : List (List ℕ)) (s : Reading) → Bounded c r
    → c + length ls ≤ SCRIPT_BYTES → EachWithin SCRIPT_BYTES ls → read_from threads r ls ≡ Ok s
    → Bounded (c + length ls) s
read_next threads c r [] s h le short e =
    let same : r ≡ s = cc in
    let n : c ≡ c + 0 = omega arith in
    subst (λ (k : ℕ). Bounded k s) n (subst (Bounded c) same h)
read_next threads c r (l ∷ ls) s h le short e =
    let a = bind_ok (on_line_after r.count (after_line threads r l)) _ s e in
    let n : suc c + length ls ≡ c + length (l ∷ ls) = omega arith in
    subst (λ (k : ℕ). Bounded k s) n
    (read_next threads (suc c) a.0 ls s (after_next threads c r l h (omega (arith, le)) short.0 a.0 (line_ok r.count (after_line threads r l) a.0 a.1)) (omega (arith, le)) short.1 a.2)

started : Bounded 0 start
started = record {
  threads = omega arith;
  blocks = All-nil FitsText;
  opened = tt;
  begun = λ z. (refl, refl);
  placed = omega arith;
  few = omega arith;
  named = omega arith;
}

-- ---- the script

placed_at : (n threads : ℕ) (names : List (List ℕ)) (i : ℕ) → length names ≤ n → threads + n ≤ 65536
    → IfSome (option_map (λ k. threads + k) (cond (ltb i (length names)) (Some i) None)) (λ b. b < 65536)
placed_at n threads names i few le = tested (ltb i (length names)) (λ e. ltb-true i (length names) e)
  where
    tested : (t : Bool) → (t ≡ true → i < length names)
        → IfSome (option_map (λ k. threads + k) (cond t (Some i) None)) (λ b. b < 65536)
    tested true lt = omega (arith, lt refl, few, le)
    tested false lt = tt

all_placed : (threads : ℕ) (blocks : List Block) (hs : List (List ℕ)) → threads ≤ 64
    → length (block_names (drop threads blocks)) ≤ 1024 → All IsPlaced (map (handler_named threads blocks) hs)
all_placed threads blocks hs t few =
    All-map IsPlaced (handler_named threads blocks) hs (λ k d lt. placed_at 1024 threads (block_names (drop threads blocks)) _ few (omega (arith, t)))

whole_numbered : (c : ℕ) (r : Reading) (s : Parts) → Bounded c r → whole r ≡ Ok s → NamesOnly s → IsNumbered s
unfolding whole
whole_numbered c r s h e own =
    let a = bind_ok (ended r) _ s e in
    let names = handler_names r.threads r.blocks r.open_block in
    let same = ok_is (script_at r) s a.2 in
    let named = subst NamesOnly (sym same) own in
    subst IsNumbered same (record {
      threads = h.threads;
      handlers = all_placed r.threads r.blocks r.names.handlers h.threads (omega (arith, length-append (block_names (drop r.threads r.blocks)) (open_name r.open_block), h.few, h.named, counted_few (member names) r.names.handlers));
      blocks = h.blocks;
      modes = named.modes;
      named = named.threads;
    })

-- a text has a script whose numbers fit
pub text_numbered : (bs : List ℕ) (s : Parts) → length bs ≤ SCRIPT_BYTES → script_of bs ≡ Ok s → IsNumbered s
unfolding script_by
text_numbered bs s le e =
    let a = bind_ok (read_from (named_threads (lines bs)) start (lines bs)) _ s e in
    let count : length (lines bs) ≤ length bs = omega (arith, length-map (pieces bs) without_return, pieces_count bs) in
    whole_numbered _ a.0 s
    (read_next (named_threads (lines bs)) 0 start (lines bs) a.0 started (omega (arith, count, le)) (within_more (length bs) SCRIPT_BYTES (lines bs) le (lines_within (length bs) (pieces bs) (pieces_within bs))) a.1)
    (line_ok a.0.count (whole a.0) s a.2) (text_names_only bs s e)
