-- What a command came to, and what of its lines was written, make its outcome.
use Rattle.std.proofs.Common.{◌≡◌, false, ℕ, ◌<◌, ◌≤◌, List, [], ◌∷◌, length, Option, Some, None, refl, sym, ap, ◌∙◌, subst, arith, inl, inr, ◌⊎◌}
use Rattle.std.specs.Prelude.{Result, Ok, Err, IsSome, IsSomeAnd, IfSome, Contains}
use Rattle.cf_io.specs.Bytes.{then_bytes}
use Rattle.cf_io.specs.Files.{File, content_of}
use Rattle.cf_syntax.specs.declared.script.Script.{Script}
use Rattle.cf_syntax.specs.declared.refusal.Refusal.{Refusal}
use Rattle.cf_syntax.specs.Text.{Text}
use Rattle.cf_syntax.specs.Owned.{Owned, owner_fault}
use Rattle.cf_syntax.proofs.RefusalLaws.{one_refusal, not_both as read_and_refused}
use Rattle.cf_model.specs.declared.entry.Entry.{Entry}
use Rattle.cf_model.specs.declared.ending.Ending.{Ending}
use Rattle.cf_model.specs.declared.ending.Ending.TheVariants as endings
use Rattle.cf_model.specs.Journals.{IsWhole}
use Rattle.cf_render.specs.Rendering.{rendering}
use Rattle.cf_serial.specs.declared.serial.Ran.{Ran as Over}
use Rattle.cf_run.specs.declared.output.Unwritten.{Unwritten as WriteError}
use Rattle.cf_run.specs.declared.output.Unwritten.TheVariants.{Fault, NoMemory}
use Rattle.cf_run.specs.declared.settle.Settled.{Settled}
use Rattle.cf_run.specs.declared.settle.Settled.TheVariants as settled
use Rattle.cf_run.specs.Calls.{SourceState, Call, status_is, SinkFailed, Wrote}
use Rattle.cf_run.specs.Commands.{file_of}
use Rattle.cf_run.specs.Written.{WritesAll}
use Rattle.cf_run.specs.Outcomes.{script_bytes, IsContent, IsRead, IsAccepted, IsUnfit, IsFaulty, IsRefused, IsRefusedText, too_many, faulty, refusal_text, IsTold, IsJournal, IsDue, usage_due, refusal_due, fault_due, run_due, Ran, Misused, Rejected, Unreadable, Unwritten, Shortened, Silent, Outcome, done, limited, full, stalled, misused, rejected, unreadable, unwritten, no_memory, Reads, ReadsScript, Tells}
use Rattle.cf_run.specs.Settled.{Accepted, CanWrite, HasRunBy, Settles, due_of, entries_of, status_by, status_after}
use Rattle.cf_run.proofs.Stalling.{stalled_not_whole}

-- a run that is over, of an accepted script
abbrev RanBy : List (List ℕ) → (before after : SourceState) → Over → Type 0
RanBy words before after over = Accepted words before after over.script × HasRunBy over

pub can_write : (words : List (List ℕ)) (before after : SourceState) (s : Settled) → Settles words before after s
    → CanWrite s
can_write words before after settled.Usage h = tt
can_write words before after settled.ReadFault h = tt
can_write words before after (settled.Refused r) h = tt
can_write words before after (settled.Ran over) h = h.1

module _ (call : Call) where
  -- a run, in a call with its journal
  journal_is : (over : Over) → HasRunBy over → call.journal ≡ over.journal.items
      → IsJournal over.script over.ending call.journal
  journal_is over h is = subst (IsJournal over.script over.ending) (sym is) h.journal

  rendering_is : (over : Over) → call.journal ≡ over.journal.items
      → rendering over.script over.journal.items over.ending false ≡ rendering over.script call.journal over.ending false
  rendering_is over is = ap (λ (js : List Entry). rendering over.script js over.ending false) (sym is)

  -- what is due of what a command came to
  due_is : (s : Settled) → Settles call.words call.source call.source_after s → call.journal ≡ entries_of s
      → IsDue call (due_of s)
  due_is settled.Usage h is = usage_due h.0 is refl
  due_is settled.ReadFault h is = fault_due h.0 h.1 is refl
  due_is (settled.Refused r) h is = refusal_due r h.0 is refl
  due_is (settled.Ran over) h is = run_due over.script over.ending h.0.read (journal_is over h.1 is) (rendering_is over is)

  -- the status of each ending
  ended_so : (ending : Ending) → call.status ≡ status_by ending → Ran ending call → Outcome call
  ended_so endings.Done st x = done st x
  ended_so endings.Limit st x = limited st x
  ended_so endings.Full st x = full st x
  ended_so endings.Stalled st x = stalled st x

  ran_whole : (over : Over) → RanBy call.words call.source call.source_after over → call.journal ≡ over.journal.items
      → call.sink_after.taken
      ≡ then_bytes call.sink.taken (rendering over.script over.journal.items over.ending false)
      → Ran over.ending call
  ran_whole over h is w = record {
    script = over.script;
    read = h.0.read;
    at_end = h.0.at_end;
    quiet = h.0.quiet;
    journal = journal_is over h.1 is;
    written = w ∙ ap (then_bytes call.sink.taken) (rendering_is over is);
  }

  all_written : (s : Settled) → Settles call.words call.source call.source_after s
      → call.status ≡ status_after (Ok tt) s → call.journal ≡ entries_of s
      → call.sink_after.taken ≡ then_bytes call.sink.taken (due_of s) → Outcome call
  all_written settled.Usage h st e w = misused st (record { words_are = h.0; untouched = h.1; empty = e; written = w })
  all_written settled.ReadFault h st e w = unreadable st (record { words_are = h.0; risen = h.1; empty = e; written = w })
  all_written (settled.Refused r) h st e w = rejected st (record { refusal = r; refused = h.0; quiet = h.1; empty = e; written = w })
  all_written (settled.Ran over) h st e w = ended_so over.ending st (ran_whole over h e w)

  pub concluded : (r : Result (Unit {0}) WriteError) (s : Settled) → Settles call.words call.source call.source_after s
      → call.status ≡ status_after r s
      → call.journal ≡ entries_of s
      → WritesAll r (due_of s) call.sink.taken call.sink_after.taken call.sink.faults call.sink_after.faults
      → Outcome call
  concluded (Ok u) s h st e w = all_written s h st e w.0
  concluded (Err Fault) s h st e w = unwritten st (record { risen = w.1; shortened = record { due = due_of s; is_due = due_is s h e; cut = w.0 } })
  concluded (Err NoMemory) s h st e w = no_memory st (inr (record { due = due_of s; is_due = due_is s h e; cut = w.0 }))

-- ---- accepted and refused bytes are apart

no_file : (words : List (List ℕ)) (file : List ℕ) → file_of words ≡ Some file → file_of words ≡ None → ⊥
no_file words file s n = let e : ◌≡◌ {A = Option (List ℕ)} (Some file) None = sym s ∙ n in cc

taken_file : (words : List (List ℕ)) → IsSome (file_of words) → file_of words ≡ None → ⊥
taken_file words h n = let e : IsSome {T = List ℕ} None = subst (λ (o : Option (List ℕ)). IsSome o) n h in absurd cc

rejected_file : (words : List (List ℕ)) (files : Option (List File)) (r : Refusal) → IsRefused words files r
    → file_of words ≡ None → ⊥
rejected_file words files r (inl x) n = no_file words x.file x.named n
rejected_file words files r (inr x) n = no_file words x.read.file x.read.named n

same_file : (words : List (List ℕ)) (file other : List ℕ) → file_of words ≡ Some file → file_of words ≡ Some other
    → file ≡ other
same_file words file other a b = let e : ◌≡◌ {A = Option (List ℕ)} (Some file) (Some other) = sym a ∙ b in cc

-- the bytes that were read are those that the source tells
same_bytes : (words : List (List ℕ)) (files : Option (List File)) (told : List File) (file bytes : List ℕ)
    (read : List ℕ)
    → files ≡ Some told → file_of words ≡ Some file → content_of told file ≡ Some bytes → IsRead words files read
    → read ≡ bytes
same_bytes words files told file bytes read f n c r =
    let there : content_of told r.file ≡ Some read = subst (λ (fs : Option (List File)). IsContent fs r.file read) f r.content in
    let e : ◌≡◌ {A = Option (List ℕ)} (Some read) (Some bytes) = sym there ∙ ap (content_of told) (same_file words r.file file r.named n) ∙ c in cc

-- no bytes are both the text of a script and refused as no text, or as that of another script
same_script : (bytes : List ℕ) (s t : Script) → Text bytes s → Text bytes t → s ≡ t
same_script bytes s t p q = let e : ◌≡◌ {A = Result Script Refusal} (Ok s) (Ok t) = sym p ∙ q in cc

owned_unfit : (bytes : List ℕ) (script : Script) (r : Refusal) → Text bytes script → Owned script → IsUnfit bytes r → ⊥
owned_unfit bytes script r t o u =
    let e : ◌≡◌ {A = Option Refusal} None (Some r) = sym o ∙ ap owner_fault (same_script bytes script u.script t u.text) ∙ u.unfit in cc

not_both : (bytes : List ℕ) (script : Script) (r : Refusal) → Text bytes script → Owned script → IsFaulty bytes r → ⊥
not_both bytes script r t o (inl u) = read_and_refused bytes script r t u
not_both bytes script r t o (inr u) = owned_unfit bytes script r t o u

-- faulty bytes have one refusal
one_fault : (bytes : List ℕ) (r q : Refusal) → IsFaulty bytes r → IsFaulty bytes q → r ≡ q
one_fault bytes r q (inl u) (inl v) = one_refusal bytes r q u v
one_fault bytes r q (inl u) (inr v) = absurd (read_and_refused bytes v.script r v.text u)
one_fault bytes r q (inr u) (inl v) = absurd (read_and_refused bytes u.script q u.text v)
one_fault bytes r q (inr u) (inr v) =
    let e : ◌≡◌ {A = Option Refusal} (Some r) (Some q) = sym u.unfit ∙ ap owner_fault (same_script bytes u.script v.script u.text v.text) ∙ v.unfit in cc

one_text : (bytes : List ℕ) (r q : Refusal) → IsRefusedText bytes r → IsRefusedText bytes q → r ≡ q
one_text bytes r q (too_many over u) (too_many more v) = u ∙ sym v
one_text bytes r q (too_many over u) (faulty within v) = absurd (omega (arith, over, within))
one_text bytes r q (faulty within u) (too_many over v) = absurd (omega (arith, over, within))
one_text bytes r q (faulty within u) (faulty few v) = one_fault bytes r q u v

-- a file that is refused has bytes with this refusal
refused_text : (words : List (List ℕ)) (files : Option (List File)) (told : List File) (file bytes : List ℕ)
    (r : Refusal)
    → files ≡ Some told → file_of words ≡ Some file → content_of told file ≡ Some bytes → IsRefused words files r
    → IsRefusedText bytes r
refused_text words files told file bytes r f n c (inl x) =
    let long = subst (λ (fs : Option (List File)). IfSome fs (λ ts. IsSomeAnd (content_of ts x.file) (λ bs. script_bytes < length bs))) f x.long in
    let over : script_bytes < length bytes = subst (λ (o : Option (List ℕ)). IsSomeAnd o (λ bs. script_bytes < length bs)) (ap (content_of told) (same_file words x.file file x.named n) ∙ c) long in
    too_many over x.reason
refused_text words files told file bytes r f n c (inr x) =
    let same = same_bytes words files told file bytes x.bytes f n c x.read in
    subst (λ (bs : List ℕ). IsRefusedText bs r) same (faulty x.read.within x.fault)

-- the text of an accepted script is not refused
accepted_text : (bytes : List ℕ) (script : Script) (r : Refusal) → length bytes ≤ script_bytes → Text bytes script
    → Owned script → IsRefusedText bytes r → ⊥
accepted_text bytes script r w t o (too_many over x) = omega (arith, w, over)
accepted_text bytes script r w t o (faulty within x) = not_both bytes script r t o x

refused_accepted : (words : List (List ℕ)) (files : Option (List File)) (told : List File) (file bytes : List ℕ)
    (script : Script) (r : Refusal)
    → files ≡ Some told → file_of words ≡ Some file → content_of told file ≡ Some bytes → IsRefusedText bytes r
    → IsAccepted words files script → ⊥
refused_accepted words files told file bytes script r f n c x a =
    let same = same_bytes words files told file bytes a.bytes f n c a.read in
    accepted_text a.bytes script r a.read.within a.text a.owned (subst (λ (bs : List ℕ). IsRefusedText bs r) (sym same) x)

-- a journal that is not whole of one script is not whole of another, if the bytes are the text of both
unfinished : (words : List (List ℕ)) (files : Option (List File)) (told : List File) (file bytes : List ℕ)
    (script other : Script) (entries : List Entry)
    → files ≡ Some told → file_of words ≡ Some file → content_of told file ≡ Some bytes → Text bytes script
    → IsAccepted words files other → (IsWhole other entries → ⊥) → IsWhole script entries → ⊥
unfinished words files told file bytes script other entries f n c t a going whole =
    let same = same_bytes words files told file bytes a.bytes f n c a.read in
    let read : Text bytes other = subst (λ (bs : List ℕ). Text bs other) same a.text in
    let e : ◌≡◌ {A = Result Script Refusal} (Ok other) (Ok script) = sym read ∙ t in
    let is : other ≡ script = cc in
    going (subst (λ (s : Script). IsWhole s entries) (sym is) whole)

-- a journal of a run that stopped or stalled is not whole
not_whole : (ending : Ending) (script : Script) (entries : List Entry) → IsJournal script ending entries
    → IsWhole script entries → ending ≡ endings.Done
not_whole endings.Done script entries h whole = refl
not_whole endings.Limit script entries h whole = absurd (h.ends.1 whole)
not_whole endings.Full script entries h whole = absurd (h.ends.1 whole)
not_whole endings.Stalled script entries h whole = absurd (stalled_not_whole script entries h.serial.legal h.ends whole)

-- ---- what each status tells

module _ (call : Call) where
  when_done : Outcome call → status_is 0 call → Ran endings.Done call
  when_done (done st x) e = x
  when_done (limited st x) e = absurd (omega arith)
  when_done (full st x) e = absurd (omega arith)
  when_done (stalled st x) e = absurd (omega arith)
  when_done (misused st x) e = absurd (omega arith)
  when_done (rejected st x) e = absurd (omega arith)
  when_done (unreadable st x) e = absurd (omega arith)
  when_done (unwritten st x) e = absurd (omega arith)
  when_done (no_memory st x) e = absurd (omega arith)

  when_limited : Outcome call → status_is 7 call → Ran endings.Limit call
  when_limited (done st x) e = absurd (omega arith)
  when_limited (limited st x) e = x
  when_limited (full st x) e = absurd (omega arith)
  when_limited (stalled st x) e = absurd (omega arith)
  when_limited (misused st x) e = absurd (omega arith)
  when_limited (rejected st x) e = absurd (omega arith)
  when_limited (unreadable st x) e = absurd (omega arith)
  when_limited (unwritten st x) e = absurd (omega arith)
  when_limited (no_memory st x) e = absurd (omega arith)

  when_full : Outcome call → status_is 8 call → Ran endings.Full call
  when_full (done st x) e = absurd (omega arith)
  when_full (limited st x) e = absurd (omega arith)
  when_full (full st x) e = x
  when_full (stalled st x) e = absurd (omega arith)
  when_full (misused st x) e = absurd (omega arith)
  when_full (rejected st x) e = absurd (omega arith)
  when_full (unreadable st x) e = absurd (omega arith)
  when_full (unwritten st x) e = absurd (omega arith)
  when_full (no_memory st x) e = absurd (omega arith)

  when_stalled : Outcome call → status_is 9 call → Ran endings.Stalled call
  when_stalled (done st x) e = absurd (omega arith)
  when_stalled (limited st x) e = absurd (omega arith)
  when_stalled (full st x) e = absurd (omega arith)
  when_stalled (stalled st x) e = x
  when_stalled (misused st x) e = absurd (omega arith)
  when_stalled (rejected st x) e = absurd (omega arith)
  when_stalled (unreadable st x) e = absurd (omega arith)
  when_stalled (unwritten st x) e = absurd (omega arith)
  when_stalled (no_memory st x) e = absurd (omega arith)

  when_misused : Outcome call → status_is 2 call → Misused call
  when_misused (done st x) e = absurd (omega arith)
  when_misused (limited st x) e = absurd (omega arith)
  when_misused (full st x) e = absurd (omega arith)
  when_misused (stalled st x) e = absurd (omega arith)
  when_misused (misused st x) e = x
  when_misused (rejected st x) e = absurd (omega arith)
  when_misused (unreadable st x) e = absurd (omega arith)
  when_misused (unwritten st x) e = absurd (omega arith)
  when_misused (no_memory st x) e = absurd (omega arith)

  when_rejected : Outcome call → status_is 3 call → Rejected call
  when_rejected (done st x) e = absurd (omega arith)
  when_rejected (limited st x) e = absurd (omega arith)
  when_rejected (full st x) e = absurd (omega arith)
  when_rejected (stalled st x) e = absurd (omega arith)
  when_rejected (misused st x) e = absurd (omega arith)
  when_rejected (rejected st x) e = x
  when_rejected (unreadable st x) e = absurd (omega arith)
  when_rejected (unwritten st x) e = absurd (omega arith)
  when_rejected (no_memory st x) e = absurd (omega arith)

  when_unreadable : Outcome call → status_is 4 call → Unreadable call
  when_unreadable (done st x) e = absurd (omega arith)
  when_unreadable (limited st x) e = absurd (omega arith)
  when_unreadable (full st x) e = absurd (omega arith)
  when_unreadable (stalled st x) e = absurd (omega arith)
  when_unreadable (misused st x) e = absurd (omega arith)
  when_unreadable (rejected st x) e = absurd (omega arith)
  when_unreadable (unreadable st x) e = x
  when_unreadable (unwritten st x) e = absurd (omega arith)
  when_unreadable (no_memory st x) e = absurd (omega arith)

  when_unwritten : Outcome call → status_is 5 call → Unwritten call
  when_unwritten (done st x) e = absurd (omega arith)
  when_unwritten (limited st x) e = absurd (omega arith)
  when_unwritten (full st x) e = absurd (omega arith)
  when_unwritten (stalled st x) e = absurd (omega arith)
  when_unwritten (misused st x) e = absurd (omega arith)
  when_unwritten (rejected st x) e = absurd (omega arith)
  when_unwritten (unreadable st x) e = absurd (omega arith)
  when_unwritten (unwritten st x) e = x
  when_unwritten (no_memory st x) e = absurd (omega arith)

  when_no_memory : Outcome call → status_is 6 call → Silent call ⊎ Shortened call
  when_no_memory (done st x) e = absurd (omega arith)
  when_no_memory (limited st x) e = absurd (omega arith)
  when_no_memory (full st x) e = absurd (omega arith)
  when_no_memory (stalled st x) e = absurd (omega arith)
  when_no_memory (misused st x) e = absurd (omega arith)
  when_no_memory (rejected st x) e = absurd (omega arith)
  when_no_memory (unreadable st x) e = absurd (omega arith)
  when_no_memory (unwritten st x) e = absurd (omega arith)
  when_no_memory (no_memory st x) e = x

  -- there are no other statuses
  one_of_nine : Outcome call → Contains (0 ∷ 2 ∷ 3 ∷ 4 ∷ 5 ∷ 6 ∷ 7 ∷ 8 ∷ 9 ∷ []) call.status
  one_of_nine (done st x) = (0, omega arith, sym st)
  one_of_nine (limited st x) = (6, omega arith, sym st)
  one_of_nine (full st x) = (7, omega arith, sym st)
  one_of_nine (stalled st x) = (8, omega arith, sym st)
  one_of_nine (misused st x) = (1, omega arith, sym st)
  one_of_nine (rejected st x) = (2, omega arith, sym st)
  one_of_nine (unreadable st x) = (3, omega arith, sym st)
  one_of_nine (unwritten st x) = (4, omega arith, sym st)
  one_of_nine (no_memory st x) = (5, omega arith, sym st)

  -- faulty words and no fault
  misused_or_memory : Outcome call → file_of call.words ≡ None → (SinkFailed call → ⊥)
      → status_is 2 call ⊎ status_is 6 call
  misused_or_memory (done st x) n q = absurd (no_file call.words x.read.read.file x.read.read.named n)
  misused_or_memory (limited st x) n q = absurd (no_file call.words x.read.read.file x.read.read.named n)
  misused_or_memory (full st x) n q = absurd (no_file call.words x.read.read.file x.read.read.named n)
  misused_or_memory (stalled st x) n q = absurd (no_file call.words x.read.read.file x.read.read.named n)
  misused_or_memory (misused st x) n q = inl st
  misused_or_memory (rejected st x) n q = absurd (rejected_file call.words call.source.files x.refusal x.refused n)
  misused_or_memory (unreadable st x) n q = absurd (taken_file call.words x.words_are n)
  misused_or_memory (unwritten st x) n q = absurd (q x.risen)
  misused_or_memory (no_memory st x) n q = inr st

  -- an accepted script and no fault
  runs_or_memory : Outcome call → (script : Script) → ReadsScript call script
      → Contains (0 ∷ 6 ∷ 7 ∷ 8 ∷ 9 ∷ []) call.status
  runs_or_memory (done st x) script h = (0, omega arith, sym st)
  runs_or_memory (limited st x) script h = (2, omega arith, sym st)
  runs_or_memory (full st x) script h = (3, omega arith, sym st)
  runs_or_memory (stalled st x) script h = (4, omega arith, sym st)
  runs_or_memory (misused st x) script h = absurd (no_file call.words h.reads.file h.reads.named x.words_are)
  runs_or_memory (rejected st x) script h = absurd (accepted_text h.bytes script x.refusal h.within h.text h.owned
      (refused_text call.words call.source.files h.reads.told h.reads.file h.bytes x.refusal h.reads.tells h.reads.named h.reads.content x.refused))
  runs_or_memory (unreadable st x) script h = absurd (h.reads.source_holds x.risen)
  runs_or_memory (unwritten st x) script h = absurd (h.reads.sink_holds x.risen)
  runs_or_memory (no_memory st x) script h = (1, omega arith, sym st)

  -- a run to another end than that of the script is not whole
  stopped : (ending : Ending) (script : Script) (h : ReadsScript call script) (x : Ran ending call)
      → (ending ≡ endings.Done → ⊥) → IsWhole script call.journal → ⊥
  stopped ending script h x other whole = unfinished call.words call.source.files h.reads.told h.reads.file h.bytes script x.script call.journal
      h.reads.tells h.reads.named h.reads.content h.text x.read (λ w. other (not_whole ending x.script call.journal x.journal w)) whole

  -- an accepted script whose journal is whole, and no fault
  done_or_memory : Outcome call → (script : Script) → ReadsScript call script → IsWhole script call.journal
      → status_is 0 call ⊎ status_is 6 call
  done_or_memory (done st x) script h whole = inl st
  done_or_memory (limited st x) script h whole = absurd (stopped endings.Limit script h x (λ e. cc) whole)
  done_or_memory (full st x) script h whole = absurd (stopped endings.Full script h x (λ e. cc) whole)
  done_or_memory (stalled st x) script h whole = absurd (stopped endings.Stalled script h x (λ e. cc) whole)
  done_or_memory (misused st x) script h whole = absurd (no_file call.words h.reads.file h.reads.named x.words_are)
  done_or_memory (rejected st x) script h whole = absurd (accepted_text h.bytes script x.refusal h.within h.text h.owned
      (refused_text call.words call.source.files h.reads.told h.reads.file h.bytes x.refusal h.reads.tells h.reads.named h.reads.content x.refused))
  done_or_memory (unreadable st x) script h whole = absurd (h.reads.source_holds x.risen)
  done_or_memory (unwritten st x) script h whole = absurd (h.reads.sink_holds x.risen)
  done_or_memory (no_memory st x) script h whole = inr st

  -- refused bytes and no fault
  ran_refused : (ending : Ending) (bytes : List ℕ) (r : Refusal) (h : Reads call bytes)
      (refused : IsRefusedText bytes r)
      → Ran ending call → ⊥
  ran_refused ending bytes r h refused x =
      refused_accepted call.words call.source.files h.told h.file bytes x.script r h.tells h.named h.content refused x.read

  rejected_or_memory : Outcome call → (bytes : List ℕ) (r : Refusal) → Reads call bytes → IsRefusedText bytes r
      → IsTold r call ⊎ status_is 6 call
  rejected_or_memory (done st x) bytes r h refused = absurd (ran_refused endings.Done bytes r h refused x)
  rejected_or_memory (limited st x) bytes r h refused = absurd (ran_refused endings.Limit bytes r h refused x)
  rejected_or_memory (full st x) bytes r h refused = absurd (ran_refused endings.Full bytes r h refused x)
  rejected_or_memory (stalled st x) bytes r h refused = absurd (ran_refused endings.Stalled bytes r h refused x)
  rejected_or_memory (misused st x) bytes r h refused = absurd (no_file call.words h.file h.named x.words_are)
  rejected_or_memory (rejected st x) bytes r h refused =
      let here = refused_text call.words call.source.files h.told h.file bytes x.refusal h.tells h.named h.content x.refused in
      inl (record { status = st; written = subst (λ (q : Refusal). Wrote (refusal_text q) call) (one_text bytes x.refusal r here refused) x.written })
  rejected_or_memory (unreadable st x) bytes r h refused = absurd (h.source_holds x.risen)
  rejected_or_memory (unwritten st x) bytes r h refused = absurd (h.sink_holds x.risen)
  rejected_or_memory (no_memory st x) bytes r h refused = inr st

  -- all that is said of a call follows from its outcome
  pub tells_all : Outcome call → Tells call
  tells_all o = record {
    ran = when_done o;
    limited = when_limited o;
    full = when_full o;
    stalled = when_stalled o;
    misused = when_misused o;
    rejected = when_rejected o;
    unreadable = when_unreadable o;
    unwritten = when_unwritten o;
    no_memory = when_no_memory o;
    statuses = one_of_nine o;
    misuse_is_told = misused_or_memory o;
    accepted_runs = runs_or_memory o;
    whole_runs = done_or_memory o;
    refused_is_told = rejected_or_memory o;
  }
