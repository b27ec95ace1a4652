-- The words of a line name modes that have numbers and threads that the text has, and its statement names no others.
use Rattle.std.proofs.Common.{◌≡◌, ℕ, suc, ◌+◌, ◌<◌, ◌≤◌, Bool, true, false, cond, not, ltb, List, [], ◌∷◌, ◌++◌, length, drop, Option, Some, None, Result, Ok, Err, refl, arith, subst}
use Rattle.std.specs.Prelude.{ℤ, ◌||◌, codes, IfSome}
use Rattle.std.specs.List.{list_any, position_or_len}
use Rattle.std.specs.Str.{bytes_eq}
use Rattle.std.proofs.lemmas.Bool.{ltb-true}
use Rattle.std.proofs.lemmas.List.{length-append}
use Rattle.cf_ids.specs.declared.limits.TheConstants.{MODES}
use Rattle.cf_number.specs.declared.kinds.NumKind.{NumKind}
use Rattle.cf_number.specs.Kinds.{fits_kind}
use Rattle.cf_syntax.specs.declared.statement.Statement.{Statement}
use Rattle.cf_syntax.specs.declared.statement.Statement.TheVariants.{MakeNumber}
use Rattle.cf_syntax.specs.declared.mention.ThreadWord.{ThreadWord}
use Rattle.cf_syntax.specs.declared.mention.ThreadWord.TheVariants.{Own, Named}
use Rattle.cf_syntax.specs.declared.mention.ModeWord.TheVariants as modes
use Rattle.cf_syntax.specs.declared.script.ClassLine.{ClassLine}
use Rattle.cf_syntax.specs.declared.form.StatementForm.{StatementForm}
use Rattle.cf_syntax.specs.declared.form.StatementForm.TheVariants as forms
use Rattle.cf_syntax.specs.declared.form.NameTable.{NameTable}
use Rattle.cf_syntax.specs.declared.form.NameTable.TheVariants as tables
use Rattle.cf_syntax.specs.declared.form.Operand.{Operand}
use Rattle.cf_syntax.specs.declared.refusal.Reason.{Reason}
use Rattle.cf_syntax.specs.declared.refusal.Reason.TheVariants.{TooMany, Number}
use Rattle.cf_syntax.specs.FormStatements.{Numbers, word_at, var, kind_at, integer_at, mode_at, thread_named, thread_of, with_literal, number_by, statement_by}
use Rattle.cf_syntax.specs.FormWords.{form_of, are_of, Names, With, names_in, limit_of, with_names, with_name, with_number, numbered, table_of, numbered_word, numbers_of, no_numbers}
use Rattle.cf_syntax.specs.Numbered.{thread_word, mode_word, NamesThread, NamesMode}
use Rattle.cf_syntax.specs.Text.{statement_of}
use Rattle.cf_syntax.proofs.ReadingLaws.{OkHas, ok_has, err_has, then_has, either_has, has_ok}

-- ---- the names of modes

-- there are at least so many modes, at most 1,024, and the mode of a line is one of them
pub record HasMode (k : ℕ) (x : With Numbers) : Type 0 where
  pub least : k ≤ length x.names.modes
  pub few : length x.names.modes ≤ MODES
  pub mode : x.value.mode < length x.names.modes

place_step : (t rest : Bool) (n m : ℕ) → (rest ≡ true → n < m) → (t || rest) ≡ true → cond (not t) (1 + n) 0 < suc m
place_step true rest n m h e = omega arith
place_step false rest n m h e = omega (arith, h e)

-- a name that is there has a place among those that are there
place_there : (w : List ℕ) (names : List (List ℕ)) → list_any (bytes_eq w) names ≡ true
    → position_or_len (bytes_eq w) names < length names
place_there w [] e = absurd cc
place_there w (x ∷ names) e =
    place_step (bytes_eq w x) (list_any (bytes_eq w) names) (position_or_len (bytes_eq w) names) (length names) (place_there w names) e

past_step : (t rest : Bool) (n m : ℕ) → (rest ≡ false → n ≡ m) → (t || rest) ≡ false → cond (not t) (1 + n) 0 ≡ suc m
past_step true rest n m h e = absurd cc
past_step false rest n m h e = omega (arith, h e)

-- and one that is not, the place after them
place_past : (w : List ℕ) (names : List (List ℕ)) → list_any (bytes_eq w) names ≡ false
    → position_or_len (bytes_eq w) names ≡ length names
place_past w [] e = refl
place_past w (x ∷ names) e =
    past_step (bytes_eq w x) (list_any (bytes_eq w) names) (position_or_len (bytes_eq w) names) (length names) (place_past w names) e

-- the names with one more, and its place among them
record Placed (w : List ℕ) (names more : List (List ℕ)) : Type 0 where
  least : length names ≤ length more
  few : length names ≤ MODES → length more ≤ MODES
  place : position_or_len (bytes_eq w) names < length more

placed : (w : List ℕ) (names : List (List ℕ)) → position_or_len (bytes_eq w) names < MODES
    → Placed w names (with_name names w)
placed w names lt = by (list_any (bytes_eq w) names) refl
  where
    by : (t : Bool) → list_any (bytes_eq w) names ≡ t → Placed w names (cond t names (names ++ w ∷ []))
    by true e = record { least = omega arith; few = λ h. h; place = place_there w names e }
    by false e = record {
      least = omega (arith, length-append names (w ∷ []));
      few = λ h. omega (arith, length-append names (w ∷ []), place_past w names e, lt);
      place = omega (arith, length-append names (w ∷ []), place_past w names e);
    }

-- the number of a word in a table, with the names after it
abbrev number_in : NameTable → List ℕ → Names → With ℕ
number_in table w names = record {
  names = with_names table (with_name (names_in table names) w) names;
  value = position_or_len (bytes_eq w) (names_in table names);
}

record Fitting (table : NameTable) (w : List ℕ) (names : Names) (n : With ℕ) : Type 0 where
  is : number_in table w names ≡ n
  below : position_or_len (bytes_eq w) (names_in table names) < limit_of table

number_fits : (table : NameTable) (w : List ℕ) (names : Names) (n : With ℕ) → numbered table w names ≡ Ok n
    → Fitting table w names n
number_fits table w names n e = by (ltb (position_or_len (bytes_eq w) (names_in table names)) (limit_of table)) refl e
  where
    by : (t : Bool) → ltb (position_or_len (bytes_eq w) (names_in table names)) (limit_of table) ≡ t
        → cond t (Ok (number_in table w names)) (Err TooMany) ≡ Ok n → Fitting table w names n
    by true q e = record { is = cc; below = ltb-true _ _ q }
    by false q e = absurd cc

module _ (k : ℕ) (w : List ℕ) (x : With Numbers) (h : HasMode k x) where
  -- what a word of a table makes of the numbers before it
  abbrev with_word : NameTable → With ℕ → With Numbers
  with_word table n = record { names = n.names; value = with_number table n.value x.value }

  word_fits : (table : NameTable) → position_or_len (bytes_eq w) (names_in table x.names) < limit_of table
      → HasMode k (with_word table (number_in table w x.names))
  word_fits tables.Variables lt = record { least = h.least; few = h.few; mode = h.mode }
  word_fits tables.Handlers lt = record { least = h.least; few = h.few; mode = h.mode }
  word_fits tables.Notices lt = record { least = h.least; few = h.few; mode = h.mode }
  word_fits tables.Modes lt =
      let p = placed w x.names.modes lt in
      record { least = omega (arith, h.least, p.least); few = p.few h.few; mode = p.place }

  word_mode : (table : Option NameTable) → OkHas (HasMode k) (numbered_word table w x)
  word_mode None = ok_has (HasMode k) x h
  word_mode (Some table) =
      then_has (HasMode k) (numbered table w x.names) _ (λ n e. let r = number_fits table w x.names n e in
      ok_has (HasMode k) _ (subst (λ (m : With ℕ). HasMode k (with_word table m)) r.is (word_fits table r.below)))

-- the numbers of a line's words
pub numbers_mode : (k : ℕ) (os : List Operand) (ws : List (List ℕ)) (x : With Numbers) → HasMode k x
    → OkHas (HasMode k) (numbers_of os ws x)
numbers_mode k [] ws x h = ok_has (HasMode k) x h
numbers_mode k (o ∷ os) [] x h = ok_has (HasMode k) x h
numbers_mode k (o ∷ os) (w ∷ ws) x h =
    let first = numbered_word (table_of o w) w x in
    then_has (HasMode k) first _ (λ y e. numbers_mode k os ws y (has_ok (HasMode k) first y e (word_mode k w x h (table_of o w))))

pub no_numbers_mode : (names : Names) → 0 < length names.modes → length names.modes ≤ MODES
    → HasMode (length names.modes) (no_numbers names)
no_numbers_mode names some few = record { least = omega arith; few = few; mode = some }

-- ---- the statement of a line

-- a statement names no mode and no thread beyond these
pub record NamesWithin (threads modes : ℕ) (x : Statement) : Type 0 where
  pub thread : NamesThread threads x
  pub mode : NamesMode modes x

below_more : (o : Option ℕ) (m n : ℕ) → m ≤ n → IfSome o (λ k. k < m) → IfSome o (λ k. k < n)
below_more None m n le h = tt
below_more (Some k) m n le h = omega (arith, le, h)

pub within_more : (t u m n : ℕ) → t ≤ u → m ≤ n → (x : Statement) → NamesWithin t m x → NamesWithin u n x
within_more t u m n te me x h = record {
  thread = below_more _ t u te h.thread;
  mode = below_more _ m n me h.mode;
}

module _ (classes : List ClassLine) (threads : List (List ℕ)) (ns : Numbers) (ws : List (List ℕ)) (count : ℕ)
    (has : ns.mode < count) where
  abbrev Within : Statement → Type 0
  Within = NamesWithin (suc (length threads)) count

  abbrev Below : ThreadWord → Type 0
  Below u = IfSome (thread_word u) (λ t. t < suc (length threads))

  thread_there : (word : List ℕ) → Below (thread_of threads word)
  thread_there word = own (bytes_eq word (codes "self"))
    where
      named : (b : Bool) (n : ℕ) → ltb n (length threads) ≡ b → Below (Named (cond b (Some (n + 1)) None))
      named true n e = omega (arith, ltb-true n (length threads) e)
      named false n e = tt

      setup : (b : Bool) → Below (cond b (Named (Some 0)) (Named (thread_named threads word)))
      setup true = omega arith
      setup false = named (ltb (position_or_len (bytes_eq word) threads) (length threads)) _ refl

      own : (b : Bool)
          → Below (cond b Own (cond (bytes_eq word (codes "setup")) (Named (Some 0)) (Named (thread_named threads word))))
      own true = tt
      own false = setup (bytes_eq word (codes "setup"))

  mode_there : (i : ℕ) → IfSome (mode_word (mode_at ns ws i)) (λ m. m < count)
  mode_there i = by (bytes_eq (word_at ws i) (codes "common"))
    where
      by : (b : Bool) → IfSome (mode_word (cond b modes.Common (modes.Mode ns.mode))) (λ m. m < count)
      by true = tt
      by false = has

  literal_within : (text : Result (List ℕ) Reason) (statement : List ℕ → Statement)
      → ((t : List ℕ) → Within (statement t)) → OkHas Within (with_literal text statement)
  literal_within (Ok t) statement h = ok_has Within (statement t) (h t)
  literal_within (Err e) statement h = err_has Within e

  number_within : (v : ℕ) (kind : NumKind) (value : ℤ) → OkHas Within (number_by v kind value)
  number_within v kind value =
      let made = MakeNumber v (record { kind = kind; value = value }) in
      either_has Within (fits_kind kind value) (Ok made) (Err Number)
      (ok_has Within made (record { thread = tt; mode = tt })) (err_has Within Number)

  form_within : (form : StatementForm) → OkHas Within (statement_by classes threads form ns ws)
  form_within forms.MakeString = literal_within _ _ (λ t. record { thread = tt; mode = tt })
  form_within forms.MakeMstring = literal_within _ _ (λ t. record { thread = tt; mode = tt })
  form_within forms.StrInsert = literal_within _ _ (λ t. record { thread = tt; mode = tt })
  form_within forms.StrReplace = literal_within _ _ (λ t. record { thread = tt; mode = tt })
  form_within forms.MakeNumber = number_within (var ns 0) (kind_at ws 3) (integer_at ws 4)
  form_within forms.Add = ok_has Within _ (record { thread = thread_there (word_at ws 2); mode = mode_there 3 })
  form_within forms.Drop = ok_has Within _ (record { thread = thread_there (word_at ws 2); mode = mode_there 3 })
  form_within forms.Common = ok_has Within _ (record { thread = thread_there (word_at ws 1); mode = has })
  form_within forms.Wake = ok_has Within _ (record { thread = thread_there (word_at ws 1); mode = tt })
  form_within forms.Stop = ok_has Within _ (record { thread = thread_there (word_at ws 1); mode = tt })
  form_within forms.Run = ok_has Within _ (record { thread = tt; mode = has })
  form_within form = ok_has Within _ (record { thread = tt; mode = tt })

-- what a line's words make: names with no fewer modes, and a statement that names no others
pub record Says (threads k : ℕ) (x : With Statement) : Type 0 where
  pub least : k ≤ length x.names.modes
  pub few : length x.names.modes ≤ MODES
  pub within : NamesWithin (suc threads) (length x.names.modes) x.value

pub statement_says : (classes : List ClassLine) (threads : List (List ℕ)) (in_handler : Bool) (names : Names)
    (ws : List (List ℕ)) → 0 < length names.modes → length names.modes ≤ MODES
    → OkHas (Says (length threads) (length names.modes)) (statement_of classes threads in_handler names ws)
unfolding statement_of
statement_says classes threads in_handler names ws some few =
    let n = length names.modes in
    let P : With Statement → Type 0 = λ x. Says (length threads) n x in
    then_has P (form_of ws) _ (λ form e. then_has P (are_of in_handler form.operands [] (drop 1 ws)) _ (λ b q. then_has P (numbers_of form.operands (drop 1 ws) (no_numbers names)) _ (λ ns m.
    let has = has_ok (HasMode n) (numbers_of form.operands (drop 1 ws) (no_numbers names)) ns m (numbers_mode n form.operands (drop 1 ws) (no_numbers names) (no_numbers_mode names some few)) in
    then_has P (statement_by classes threads form.form ns.value ws) _ (λ x f. ok_has P _ (record {
      least = has.least;
      few = has.few;
      within = has_ok (NamesWithin (suc (length threads)) (length ns.names.modes)) (statement_by classes threads form.form ns.value ws) x f
          (form_within classes threads ns.value ws (length ns.names.modes) has.mode form.form);
    })))))
