-- Each text is that of a script, or has one refusal.
use Rattle.std.proofs.Common.{◌≡◌, ◌⊎◌, inl, inr, ℕ, zero, suc, ◌+◌, List, [], ◌∷◌, take, drop, Option, Some, None, Result, Ok, Err, refl, ap, sym, ◌∙◌, arith, subst}
use Rattle.std.specs.Str.{is_utf8}
use Rattle.cf_syntax.specs.declared.script.Script.{Script}
use Rattle.cf_syntax.specs.declared.refusal.Refusal.{Refusal}
use Rattle.cf_syntax.specs.declared.refusal.Reason.{Reason}
use Rattle.cf_syntax.specs.declared.refusal.Reason.TheVariants.{NotUtf8}
use Rattle.cf_syntax.specs.Lines.{lines}
use Rattle.cf_syntax.specs.FormWords.{◌>>=◌, require}
use Rattle.cf_syntax.specs.Text.{Reading, start, after_line, whole, on_line_after, read_from, named_threads, script_by, script_of, Text}
use Rattle.cf_syntax.specs.Refusals.{fault_in, next_fault, Refused}

-- what a step that is Ok goes on with
pub bind_ok : {A B E : Type 0} (r : Result A E) (f : A → Result B E) (y : B) → (r >>= f) ≡ Ok y
    → (x : A) × (r ≡ Ok x) × (f x ≡ Ok y)
bind_ok (Ok x) f y e = (x, refl, e)
bind_ok (Err d) f y e = absurd cc

-- a line more is counted
pub line_counted : (threads : List (List ℕ)) (r s : Reading) (l : List ℕ) → after_line threads r l ≡ Ok s
    → s.count ≡ r.count + 1
unfolding after_line
line_counted threads r s l e =
    let a = bind_ok (require NotUtf8 (is_utf8 l)) _ s e in
    let b = bind_ok _ (λ (x : Reading). Ok (record x { count = r.count + 1 })) s a.2 in
    sym (ap (λ (x : Result Reading Reason). count_of x) b.2)
  where
    count_of : Result Reading Reason → ℕ
    count_of (Ok x) = x.count
    count_of (Err d) = 0

abbrev on_line : {A : Type 0} → ℕ → Reason → Result A Refusal
on_line n reason = Err (record { line = n; reason = reason })

place_line : {A : Type 0} (count : ℕ) (found : Result A Reason) (x : Refusal) → on_line_after count found ≡ Err x
    → (x.line ≡ count + 1) × (fault_in found ≡ Some x.reason)
place_line count (Ok y) x e = absurd cc
place_line count (Err reason) x e = (sym (ap line_of e), ap reason_of e)
  where
    line_of : {A : Type 0} → Result A Refusal → ℕ
    line_of (Ok y) = 0
    line_of (Err r) = r.line

    reason_of : {A : Type 0} → Result A Refusal → Option Reason
    reason_of (Ok y) = None
    reason_of (Err r) = Some r.reason

abbrev failed : {A : Type 0} → Refusal → Result A Refusal
failed r = Err r

err_any : {A B : Type 0} (y x : Refusal) → failed {A = A} y ≡ failed {A = A} x → failed {A = B} y ≡ failed {A = B} x
err_any {A = A} {B = B} y x e = let same : y ≡ x = cc in ap (failed {A = B}) same

-- a refusal by its line and its reason
err_is : {A : Type 0} (x : Refusal) (n : ℕ) (reason : Reason) → x.line ≡ n → Some reason ≡ Some x.reason
    → on_line {A = A} n reason ≡ Err x
err_is {A = A} x n reason line fault =
    let same : reason ≡ x.reason = cc in
    ap (λ (m : ℕ). on_line {A = A} m reason) (sym line) ∙ ap (on_line {A = A} x.line) same

-- reading on to the end
abbrev finish : (threads : List (List ℕ)) → Reading → List (List ℕ) → Result Script Refusal
finish threads r ls = read_from threads r ls >>= (λ s. on_line_after s.count (whole s))

-- the lines before a refusal, from some line on
record Ahead (threads : List (List ℕ)) (r : Reading) (ls : List (List ℕ)) (x : Refusal) : Type 0 where
  before : Reading
  count : ℕ
  place : before.count ≡ r.count + count
  earlier : read_from threads r (take count ls) ≡ Ok before
  line : x.line ≡ before.count + 1
  fault : next_fault threads before (drop count ls) ≡ Some x.reason

found : (threads : List (List ℕ)) (r : Reading) (ls : List (List ℕ)) (x : Refusal) → finish threads r ls ≡ Err x
    → Ahead threads r ls x
found threads r [] x e =
    let p = place_line r.count (whole r) x e in
    record { before = r; count = 0; place = omega arith; earlier = refl; line = p.0; fault = p.1 }
found threads r (l ∷ ls) x e = step (after_line threads r l) refl e (λ s f. found threads s ls x f)
  where
    step : (next : Result Reading Reason) → after_line threads r l ≡ next
        → (((on_line_after r.count next) >>= (λ s. read_from threads s ls)) >>= (λ s. on_line_after s.count (whole s)))
        ≡ Err x
        → ((s : Reading) → finish threads s ls ≡ Err x → Ahead threads s ls x) → Ahead threads r (l ∷ ls) x
    step (Err reason) is e rest =
        let p = place_line r.count (Err reason) x (err_any {A = Script} {B = Reading} (record { line = r.count + 1; reason = reason }) x e) in
        record { before = r; count = 0; place = omega arith; earlier = refl; line = p.0; fault = ap fault_in is ∙ p.1 }
    step (Ok s) is e rest =
        let more = rest s e in
        record {
          before = more.before;
          count = suc more.count;
          place = omega (arith, more.place, line_counted threads r s l is);
          earlier = ap (λ (n : Result Reading Reason). on_line_after r.count n >>= (λ t. read_from threads t (take more.count ls))) is ∙ more.earlier;
          line = more.line;
          fault = more.fault;
        }

pub refused_from : (bs : List ℕ) (x : Refusal) → script_of bs ≡ Err x → Refused bs x
unfolding script_by
refused_from bs x e =
    let threads = named_threads (lines bs) in
    let a = found threads start (lines bs) x e in
    let same : a.count ≡ a.before.count = omega (arith, a.place) in
    record {
      before = a.before;
      earlier = subst (λ (n : ℕ). read_from threads start (take n (lines bs)) ≡ Ok a.before) same a.earlier;
      line = a.line;
      fault = subst (λ (n : ℕ). next_fault threads a.before (drop n (lines bs)) ≡ Some x.reason) same a.fault;
    }

-- and back
reading_on : (threads : List (List ℕ)) (r s : Reading) (n : ℕ) (ls : List (List ℕ))
    → read_from threads r (take n ls) ≡ Ok s
    → finish threads r ls ≡ finish threads s (drop n ls)
reading_on threads r s zero ls e = ap (λ (t : Result Reading Refusal). t >>= (λ u. finish threads u ls)) {x = Ok r} {y = Ok s} e
reading_on threads r s (suc n) [] e = ap (λ (t : Result Reading Refusal). t >>= (λ u. finish threads u [])) {x = Ok r} {y = Ok s} e
reading_on threads r s (suc n) (l ∷ ls) e = step (after_line threads r l) e (λ t f. reading_on threads t s n ls f)
  where
    step : (next : Result Reading Reason)
        → ((on_line_after r.count next) >>= (λ t. read_from threads t (take n ls))) ≡ Ok s
        → ((t : Reading) → read_from threads t (take n ls) ≡ Ok s → finish threads t ls ≡ finish threads s (drop n ls))
        → (((on_line_after r.count next) >>= (λ t. read_from threads t ls)) >>= (λ t. on_line_after t.count (whole t)))
        ≡ finish threads s (drop n ls)
    step (Err reason) e rest = absurd cc
    step (Ok t) e rest = rest t e

fails_next : (threads : List (List ℕ)) (r : Reading) (ls : List (List ℕ)) (x : Refusal) → x.line ≡ r.count + 1
    → next_fault threads r ls ≡ Some x.reason → finish threads r ls ≡ Err x
fails_next threads r [] x line fault = step (whole r) fault
  where
    step : (end : Result Script Reason) → fault_in end ≡ Some x.reason → on_line_after r.count end ≡ Err x
    step (Ok s) f = absurd cc
    step (Err reason) f = err_is x (r.count + 1) reason line f
fails_next threads r (l ∷ ls) x line fault = step (after_line threads r l) fault
  where
    step : (next : Result Reading Reason) → fault_in next ≡ Some x.reason
        → (((on_line_after r.count next) >>= (λ s. read_from threads s ls)) >>= (λ s. on_line_after s.count (whole s)))
        ≡ Err x
    step (Ok s) f = absurd cc
    step (Err reason) f = err_is x (r.count + 1) reason line f

pub refused_is : (bs : List ℕ) (x : Refusal) → Refused bs x → script_of bs ≡ Err x
unfolding script_by
refused_is bs x h =
    let threads = named_threads (lines bs) in
    reading_on threads start h.before h.before.count (lines bs) h.earlier
    ∙ fails_next threads h.before (drop h.before.count (lines bs)) x h.line h.fault

pub read_or_refused : (bs : List ℕ) → ((s : Script) × Text bs s) ⊎ ((r : Refusal) × Refused bs r)
read_or_refused bs = cases (script_of bs) refl
  where
    cases : (o : Result Script Refusal) → script_of bs ≡ o
        → ((s : Script) × Text bs s) ⊎ ((r : Refusal) × Refused bs r)
    cases (Ok s) e = inl (s, e)
    cases (Err r) e = inr (r, refused_from bs r e)

pub not_both : (bs : List ℕ) (s : Script) (r : Refusal) → Text bs s → Refused bs r → ⊥
not_both bs s r t h = let e : Ok s ≡ Err r = sym t ∙ refused_is bs r h in cc

pub one_refusal : (bs : List ℕ) (r q : Refusal) → Refused bs r → Refused bs q → r ≡ q
one_refusal bs r q a b = let e : Err r ≡ Err q = sym (refused_is bs r a) ∙ refused_is bs q b in cc
