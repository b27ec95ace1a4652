-- The statements of a text's script are of the forms that the reader takes.
use Rattle.std.proofs.Common.{◌≡◌, ℕ, zero, suc, Bool, true, false, cond, eqb, List, [], ◌∷◌, ◌++◌, length, drop, Option, Some, None, Result, Ok, Err, refl, ap, subst}
use Rattle.std.specs.Prelude.{ℤ, slice_get, codes, nat_lt, not, ◌&&◌, ◌||◌}
use Rattle.std.specs.List.{list_any}
use Rattle.std.specs.Str.{is_utf8}
use Rattle.cf_number.specs.declared.kinds.NumKind.{NumKind}
use Rattle.cf_number.specs.Kinds.{fits_kind}
use Rattle.cf_syntax.specs.declared.statement.Statement.{Statement}
use Rattle.cf_syntax.specs.declared.statement.Statement.TheVariants.{MakeNumber}
use Rattle.cf_syntax.specs.declared.script.Script.{Script}
use Rattle.cf_syntax.specs.declared.script.Block.{Block}
use Rattle.cf_syntax.specs.declared.script.ClassLine.{ClassLine}
use Rattle.cf_syntax.specs.declared.form.StatementForm.{StatementForm}
use Rattle.cf_syntax.specs.declared.form.StatementForm.TheVariants as forms
use Rattle.cf_syntax.specs.declared.form.NameTable.TheVariants as tables
use Rattle.cf_syntax.specs.declared.refusal.Reason.{Reason}
use Rattle.cf_syntax.specs.declared.refusal.Reason.TheVariants.{NotUtf8, Header, Word, Kind, Order, Arity, Twice, TooMany, Number}
use Rattle.cf_syntax.specs.declared.refusal.Reason.TheVariants as reasons
use Rattle.cf_syntax.specs.BlockLines.{statements_in}
use Rattle.cf_syntax.specs.FormTable.{FormWord, forms_now}
use Rattle.cf_syntax.specs.FormStatements.{Numbers, word_at, var, kind_at, integer_at, with_literal, number_by, statement_by}
use Rattle.cf_syntax.specs.FormWords.{◌>>=◌, require, needed, starts, begins, has_count, find_row, form_of, are_of, Names, With, numbered, numbers_of, no_numbers}
use Rattle.cf_syntax.specs.Lines.{lines}
use Rattle.cf_syntax.specs.Words.{says_nothing, words}
use Rattle.cf_syntax.specs.Text.{Opened, Reading, start, is_word, is_header, class_operands, handler_operands, thread_operands, has_words, class_has_name, block_has_name, used_words, numbered_uses, ended, class_line, setup_line, thread_line, handler_line, outside, is_handler, end_line, statement_of, statement_line, inside, place_line, header_line, spoken_line, after_line, whole, on_line_after, read_from, named_threads, script_by, Text}
use Rattle.cf_syntax.specs.Stage.{is_of_stage, IsOfStage}

-- ---- what a result has, if it is Ok

pub record OkHas {A E : Type 0} (P : A → Type 0) (r : Result A E) : Type 0 where
  pub has : (x : A) → r ≡ Ok x → P x

value_of : {A E : Type 0} → A → Result A E → A
value_of a (Ok x) = x
value_of a (Err e) = a

pub ok_has : {A E : Type 0} (P : A → Type 0) (x : A) → P x → OkHas {A = A} {E = E} P (Ok x)
unfolding value_of
ok_has {A = A} {E = E} P x h = record { has = λ y e. subst P (ap (λ (r : Result A E). value_of x r) e) h }

pub err_has : {A E : Type 0} (P : A → Type 0) (d : E) → OkHas {A = A} {E = E} P (Err d)
err_has P d = record { has = λ y e. absurd cc }

pub then_has : {A B E : Type 0} (P : B → Type 0) (r : Result A E) (f : A → Result B E)
    → ((x : A) → r ≡ Ok x → OkHas P (f x)) → OkHas P (r >>= f)
then_has P (Ok x) f h = h x refl
then_has P (Err e) f h = err_has P e

pub either_has : {A E : Type 0} (P : A → Type 0) (b : Bool) (x y : Result A E) → OkHas P x → OkHas P y
    → OkHas P (cond b x y)
either_has P true x y h k = h
either_has P false x y h k = k

pub has_ok : {A E : Type 0} (P : A → Type 0) (r : Result A E) (x : A) → r ≡ Ok x → OkHas P r → P x
has_ok P r x e h = h.has x e

-- ---- the form of a line

-- a form is none of those that the reader refuses
abbrev is_now : StatementForm → Bool
is_now forms.MakeTimer = false
is_now forms.MakeObserver = false
is_now forms.Observe = false
is_now forms.Forget = false
is_now forms.Post = false
is_now _ = true

abbrev AllNow : List FormWord → Type 0
AllNow [] = Unit {0}
AllNow (r ∷ rows) = (is_now r.form ≡ true) × AllNow rows

all_now : AllNow forms_now
all_now = (refl, (refl, (refl, (refl, (refl, (refl, (refl, (refl, (refl, (refl, (refl, (refl, (refl, (refl, (refl, (refl, (refl, (refl, (refl, (refl, (refl, (refl, (refl, (refl, (refl, (refl, (refl, (refl, (refl, (refl, (refl, (refl, (refl, (refl, (refl, (refl, (refl, (refl, (refl, (refl, (refl, (refl, (refl, (refl, (refl, (refl, (refl, (refl, (refl, (refl, (refl, (refl, (refl, (refl, (refl, (refl, (refl, (refl, (refl, (refl, tt))))))))))))))))))))))))))))))))))))))))))))))))))))))))))))

found_now : (test : FormWord → Bool) (rows : List FormWord) → AllNow rows → (r : FormWord) → find_row test rows ≡ Some r
    → is_now r.form ≡ true
found_now test [] all r e = absurd cc
found_now test (x ∷ rows) all r e = by (test x) e (found_now test rows all.1 r)
  where
    by : (b : Bool) → cond b (Some x) (find_row test rows) ≡ Some r
        → (find_row test rows ≡ Some r → is_now r.form ≡ true) → is_now r.form ≡ true
    by true e rest = let same : x ≡ r = cc in subst (λ (y : FormWord). is_now y.form ≡ true) same all.0
    by false e rest = rest e

needed_now : (reason : Reason) (o : Option FormWord) → ((r : FormWord) → o ≡ Some r → is_now r.form ≡ true)
    → OkHas (λ (r : FormWord). is_now r.form ≡ true) (needed reason o)
needed_now reason None h = err_has (λ (r : FormWord). is_now r.form ≡ true) reason
needed_now reason (Some r) h = ok_has (λ (r : FormWord). is_now r.form ≡ true) r (h r refl)

form_now : (ws : List (List ℕ)) → OkHas (λ (r : FormWord). is_now r.form ≡ true) (form_of ws)
unfolding form_of
form_now ws =
    then_has (λ (r : FormWord). is_now r.form ≡ true) (require Word (list_any (λ r. starts r ws) forms_now)) _ (λ a p. then_has (λ (r : FormWord). is_now r.form ≡ true) (require Kind (nat_lt (length ws) 3 || list_any (λ r. begins r ws) forms_now)) _ (λ b q. needed_now Arity (find_row (λ r. begins r ws && has_count r ws) forms_now) (found_now (λ r. begins r ws && has_count r ws) forms_now all_now)))

-- ---- the statement of a line

abbrev OfStage : Statement → Type 0
OfStage x = is_of_stage x ≡ true

literal_stage : (text : Result (List ℕ) Reason) (statement : List ℕ → Statement)
    → ((t : List ℕ) → OfStage (statement t)) → OkHas OfStage (with_literal text statement)
literal_stage (Ok t) statement h = ok_has OfStage (statement t) (h t)
literal_stage (Err e) statement h = err_has OfStage e

number_stage : (v : ℕ) (kind : NumKind) (value : ℤ) → OkHas OfStage (number_by v kind value)
number_stage v kind value =
    let made = MakeNumber v (record { kind = kind; value = value }) in
    either_has OfStage (fits_kind kind value) (Ok made) (Err Number) (ok_has OfStage made refl) (err_has OfStage Number)

module _ (classes : List ClassLine) (threads : List (List ℕ)) (ns : Numbers) (ws : List (List ℕ)) where
  form_stage : (form : StatementForm) → is_now form ≡ true → OkHas OfStage (statement_by classes threads form ns ws)
  form_stage forms.MakeString now = literal_stage _ _ (λ t. refl)
  form_stage forms.MakeMstring now = literal_stage _ _ (λ t. refl)
  form_stage forms.StrInsert now = literal_stage _ _ (λ t. refl)
  form_stage forms.StrReplace now = literal_stage _ _ (λ t. refl)
  form_stage forms.MakeNumber now = number_stage (var ns 0) (kind_at ws 3) (integer_at ws 4)
  form_stage forms.MakeTimer now = absurd cc
  form_stage forms.MakeObserver now = absurd cc
  form_stage forms.Observe now = absurd cc
  form_stage forms.Forget now = absurd cc
  form_stage forms.Post now = absurd cc
  form_stage form now = ok_has OfStage _ refl

statement_stage : (classes : List ClassLine) (threads : List (List ℕ)) (in_handler : Bool) (names : Names)
    (ws : List (List ℕ))
    → OkHas (λ (x : With Statement). OfStage x.value) (statement_of classes threads in_handler names ws)
unfolding statement_of
statement_stage classes threads in_handler names ws =
    let P : With Statement → Type 0 = λ x. OfStage x.value in
    then_has P (form_of ws) _ (λ form e. then_has P (are_of in_handler form.operands [] (drop 1 ws)) _ (λ b q. then_has P (numbers_of form.operands (drop 1 ws) (no_numbers names)) _ (λ ns m. then_has P (statement_by classes threads form.form ns.value ws) _ (λ x f.
    ok_has P _ (has_ok OfStage (statement_by classes threads form.form ns.value ws) x f
    (form_stage classes threads ns.value ws form.form (has_ok (λ (r : FormWord). is_now r.form ≡ true) (form_of ws) form e (form_now ws))))))))

-- ---- what lines make

abbrev AllOfStage : List Statement → Type 0
AllOfStage xs = (n : ℕ) (x : Statement) → slice_get xs n ≡ Some x → is_of_stage x ≡ true

abbrev BlocksOfStage : List Block → Type 0
BlocksOfStage bs = (b : ℕ) → AllOfStage (statements_in (slice_get bs b))

abbrev OpenOfStage : Option Opened → Type 0
OpenOfStage None = Unit {0}
OpenOfStage (Some b) = AllOfStage b.statements

-- the statements of the blocks that are ended, and of the one that is open
record ReadsOfStage (r : Reading) : Type 0 where
  ended : BlocksOfStage r.blocks
  opened : OpenOfStage r.open_block

nothing_said : AllOfStage []
nothing_said n x e = absurd cc

statement_is : (x y : Statement) → ◌≡◌ {A = Option Statement} (Some x) (Some y) → x ≡ y
statement_is x y e = cc

one_more : (xs : List Statement) (x : Statement) → AllOfStage xs → OfStage x → AllOfStage (xs ++ x ∷ [])
one_more [] x all h zero y e = subst OfStage (statement_is x y e) h
one_more [] x all h (suc n) y e = absurd cc
one_more (z ∷ xs) x all h zero y e = all zero y e
one_more (z ∷ xs) x all h (suc n) y e = one_more xs x (λ m w q. all (suc m) w q) h n y e

one_block_more : (bs : List Block) (b : Block) → BlocksOfStage bs → AllOfStage b.statements
    → BlocksOfStage (bs ++ b ∷ [])
one_block_more [] b all h zero = h
one_block_more [] b all h (suc n) = nothing_said
one_block_more (c ∷ bs) b all h zero = all zero
one_block_more (c ∷ bs) b all h (suc n) = one_block_more bs b (λ m. all (suc m)) h n

class_reads : (r : Reading) (ws : List (List ℕ)) → ReadsOfStage r → OkHas ReadsOfStage (class_line r ws)
unfolding class_line
class_reads r ws h =
    then_has ReadsOfStage (require Order (eqb r.threads 0)) _ (λ a p. then_has ReadsOfStage (has_words class_operands ws) _ (λ b q. then_has ReadsOfStage (require Twice (not (class_has_name r.classes (word_at ws 1)))) _ (λ c u. then_has ReadsOfStage (require TooMany (nat_lt (length r.classes) 1011)) _ (λ d v.
    ok_has ReadsOfStage _ (record { ended = h.ended; opened = h.opened })))))

setup_reads : (r : Reading) (ws : List (List ℕ)) → ReadsOfStage r → OkHas ReadsOfStage (setup_line r ws)
unfolding setup_line
setup_reads r ws h =
    then_has ReadsOfStage (has_words [] ws) _ (λ a p. then_has ReadsOfStage (require Twice (eqb r.threads 0)) _ (λ b q. ok_has ReadsOfStage _ (record { ended = h.ended; opened = nothing_said })))

thread_reads : (r : Reading) (ws : List (List ℕ)) → ReadsOfStage r → OkHas ReadsOfStage (thread_line r ws)
unfolding thread_line
thread_reads r ws h =
    then_has ReadsOfStage (require Order (nat_lt 0 r.threads && eqb (length r.blocks) r.threads)) _ (λ a p. then_has ReadsOfStage (has_words (thread_operands (length ws)) ws) _ (λ b q. then_has ReadsOfStage (require Twice (not (block_has_name (drop 1 r.blocks) (word_at ws 1)))) _ (λ c u. then_has ReadsOfStage (require TooMany (nat_lt r.threads 64)) _ (λ d v. then_has ReadsOfStage (numbered_uses r.names (used_words ws)) _ (λ vs w.
    ok_has ReadsOfStage _ (record { ended = h.ended; opened = nothing_said }))))))

handler_reads : (r : Reading) (ws : List (List ℕ)) → ReadsOfStage r → OkHas ReadsOfStage (handler_line r ws)
unfolding handler_line
handler_reads r ws h =
    then_has ReadsOfStage (require Order (nat_lt 0 r.threads)) _ (λ a p. then_has ReadsOfStage (has_words handler_operands ws) _ (λ b q. then_has ReadsOfStage (require Twice (not (block_has_name (drop r.threads r.blocks) (word_at ws 1)))) _ (λ c u. then_has ReadsOfStage (numbered tables.Handlers (word_at ws 1) r.names) _ (λ hs v.
    ok_has ReadsOfStage _ (record { ended = h.ended; opened = nothing_said })))))

outside_reads : (r : Reading) (ws : List (List ℕ)) → ReadsOfStage r → OkHas ReadsOfStage (outside r ws)
outside_reads r ws h =
    let refused = Err Word in
    let handlers = cond (is_word ws 0 (codes "handler")) (handler_line r ws) refused in
    let threads = cond (is_word ws 0 (codes "thread")) (thread_line r ws) handlers in
    let blocks = cond (is_word ws 0 (codes "setup")) (setup_line r ws) threads in
    either_has ReadsOfStage (is_word ws 0 (codes "class")) (class_line r ws) blocks (class_reads r ws h)
    (either_has ReadsOfStage (is_word ws 0 (codes "setup")) (setup_line r ws) threads (setup_reads r ws h)
    (either_has ReadsOfStage (is_word ws 0 (codes "thread")) (thread_line r ws) handlers (thread_reads r ws h)
    (either_has ReadsOfStage (is_word ws 0 (codes "handler")) (handler_line r ws) refused (handler_reads r ws h) (err_has ReadsOfStage Word))))

end_reads : (r : Reading) (b : Opened) (ws : List (List ℕ)) → ReadsOfStage r → AllOfStage b.statements
    → OkHas ReadsOfStage (end_line r b ws)
unfolding end_line
end_reads r b ws h of =
    then_has ReadsOfStage (require Arity (eqb (length ws) 1)) _ (λ a p. ok_has ReadsOfStage _ (record { ended = one_block_more r.blocks _ h.ended of; opened = tt }))

said_reads : (threads : List (List ℕ)) (r : Reading) (b : Opened) (ws : List (List ℕ)) → ReadsOfStage r
    → AllOfStage b.statements → OkHas ReadsOfStage (statement_line threads r b ws)
unfolding statement_line
said_reads threads r b ws h of =
    then_has ReadsOfStage (statement_of r.classes threads (is_handler b.kind) r.names ws) _ (λ x e. ok_has ReadsOfStage _ (record {
      ended = h.ended;
      opened = one_more b.statements x.value of (has_ok (λ (y : With Statement). OfStage y.value) (statement_of r.classes threads (is_handler b.kind) r.names ws) x e (statement_stage r.classes threads (is_handler b.kind) r.names ws));
    }))

inside_reads : (threads : List (List ℕ)) (r : Reading) (b : Opened) (ws : List (List ℕ)) → ReadsOfStage r
    → AllOfStage b.statements → OkHas ReadsOfStage (inside threads r b ws)
inside_reads threads r b ws h of =
    either_has ReadsOfStage (is_word ws 0 (codes "end")) (end_line r b ws) (statement_line threads r b ws) (end_reads r b ws h of) (said_reads threads r b ws h of)

place_reads : (threads : List (List ℕ)) (r : Reading) (o : Option Opened) (ws : List (List ℕ)) → ReadsOfStage r
    → OpenOfStage o → OkHas ReadsOfStage (place_line threads r o ws)
place_reads threads r None ws h of = outside_reads r ws h
place_reads threads r (Some b) ws h of = inside_reads threads r b ws h of

header_reads : (r : Reading) (ws : List (List ℕ)) → ReadsOfStage r → OkHas ReadsOfStage (header_line r ws)
unfolding header_line
header_reads r ws h = then_has ReadsOfStage (require Header (is_header ws)) _ (λ a p. ok_has ReadsOfStage r h)

spoken_reads : (threads : List (List ℕ)) (r : Reading) (l : List ℕ) → ReadsOfStage r
    → OkHas ReadsOfStage (spoken_line threads r l)
unfolding spoken_line
spoken_reads threads r l h =
    then_has ReadsOfStage (needed reasons.Text (words l)) _ (λ ws p. either_has ReadsOfStage (eqb r.count 0) (header_line r ws) (place_line threads r r.open_block ws) (header_reads r ws h) (place_reads threads r r.open_block ws h h.opened))

line_reads : (threads : List (List ℕ)) (r : Reading) (l : List ℕ) → ReadsOfStage r
    → OkHas ReadsOfStage (after_line threads r l)
unfolding after_line
line_reads threads r l h =
    then_has ReadsOfStage (require NotUtf8 (is_utf8 l)) _ (λ a p. then_has ReadsOfStage (cond (nat_lt 0 r.count && says_nothing l) (Ok r) (spoken_line threads r l)) _ (λ s e.
    let here : ReadsOfStage s = has_ok ReadsOfStage (cond (nat_lt 0 r.count && says_nothing l) (Ok r) (spoken_line threads r l)) s e (either_has ReadsOfStage (nat_lt 0 r.count && says_nothing l) (Ok r) (spoken_line threads r l) (ok_has ReadsOfStage r h) (spoken_reads threads r l h)) in
    ok_has ReadsOfStage _ (record { ended = here.ended; opened = here.opened })))

-- ---- the lines of a text

pub numbered_has : {A : Type 0} (P : A → Type 0) (count : ℕ) (r : Result A Reason) → OkHas P r
    → OkHas P (on_line_after count r)
numbered_has P count (Ok x) h = ok_has P x (h.has x refl)
numbered_has P count (Err e) h = err_has P _

all_reads : (threads : List (List ℕ)) (r : Reading) (ls : List (List ℕ)) → ReadsOfStage r
    → OkHas ReadsOfStage (read_from threads r ls)
all_reads threads r [] h = ok_has ReadsOfStage r h
all_reads threads r (l ∷ ls) h =
    then_has ReadsOfStage (on_line_after r.count (after_line threads r l)) (λ s. read_from threads s ls)
    (λ s e. all_reads threads s ls (has_ok ReadsOfStage (on_line_after r.count (after_line threads r l)) s e (numbered_has ReadsOfStage r.count (after_line threads r l) (line_reads threads r l h))))

whole_reads : (r : Reading) → ReadsOfStage r → OkHas IsOfStage (whole r)
unfolding whole
whole_reads r h = then_has IsOfStage (ended r) _ (λ a p. ok_has IsOfStage _ (λ b n x e. h.ended b n x e))

start_reads : ReadsOfStage start
start_reads = record { ended = λ b. nothing_said; opened = tt }

script_reads : (threads : List (List ℕ)) (ls : List (List ℕ)) → OkHas IsOfStage (script_by threads ls)
unfolding script_by
script_reads threads ls =
    then_has IsOfStage (read_from threads start ls) (λ r. on_line_after r.count (whole r))
    (λ r e. numbered_has IsOfStage r.count (whole r) (whole_reads r (has_ok ReadsOfStage (read_from threads start ls) r e (all_reads threads start ls start_reads))))

pub text_of_stage : (bs : List ℕ) (s : Script) → Text bs s → IsOfStage s
text_of_stage bs s e = has_ok IsOfStage (script_by (named_threads (lines bs)) (lines bs)) s e (script_reads (named_threads (lines bs)) (lines bs))
