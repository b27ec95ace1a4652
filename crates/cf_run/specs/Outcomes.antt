-- What a command comes to: the lines that are due, what is said of them, and what each status tells. This
-- project's own.
use Rattle.std.specs.Prelude.{◌≡◌, ℕ, ◌<◌, ◌≤◌, ◌⊎◌, false, List, [], ◌∷◌, ◌++◌, length, codes, Contains, Option, Some, None, IfSome, IsSomeAnd}
use Rattle.std.specs.Fmt.{decimal}
use Rattle.cf_io.specs.Bytes.{IsAtEnd}
use Rattle.cf_io.specs.Files.{File, content_of}
use Rattle.cf_syntax.specs.declared.refusal.Refusal.{Refusal}
use Rattle.cf_syntax.specs.declared.refusal.Reason.{Reason}
use Rattle.cf_syntax.specs.declared.refusal.Reason.TheVariants as reasons
use Rattle.cf_syntax.specs.declared.script.Script.{Script}
use Rattle.cf_syntax.specs.Text.{Text}
use Rattle.cf_syntax.specs.Refusals.{Refused}
use Rattle.cf_syntax.specs.Owned.{Owned, Unfit}
use Rattle.cf_model.specs.declared.entry.Entry.{Entry}
use Rattle.cf_model.specs.declared.ending.Ending.{Ending}
use Rattle.cf_model.specs.declared.ending.Ending.TheVariants.{Done, Limit, Full, Stalled}
use Rattle.cf_model.specs.Journals.{IsWhole}
use Rattle.cf_render.specs.Rendering.{rendering}
use Rattle.cf_serial.specs.Serial.{HasRun}
use Rattle.cf_run.specs.Calls.{Call, status_is, SourceFailed, SinkFailed, Wrote}
use Rattle.cf_run.specs.Commands.{file_of, TakesWords}
use Rattle.cf_run.specs.Written.{Cut}
use Rattle.cf_ids.specs.declared.limits.TheConstants.{SCRIPT_BYTES, DEFAULT_LIMIT}

-- the most bytes of a script
abbrev pub script_bytes : ℕ
script_bytes = SCRIPT_BYTES

-- a file of this name has these bytes, if the source tells its files
abbrev pub IsContent : Option (List File) → List ℕ → List ℕ → Type 0
IsContent files file bytes = IfSome files (λ told. content_of told file ≡ Some bytes)

-- the words name a file, it was opened by its name and read to its end, and it is no longer than a script
-- may be
pub record IsRead (words : List (List ℕ)) (files : Option (List File)) (bytes : List ℕ) : Type 0 where
  pub file : List ℕ
  pub named : file_of words ≡ Some file
  pub content : IsContent files file bytes
  pub within : length bytes ≤ script_bytes

-- the words name a file, it was read, and its bytes are the text of a script that is owned
pub record IsAccepted (words : List (List ℕ)) (files : Option (List File)) (script : Script) : Type 0 where
  pub bytes : List ℕ
  pub read : IsRead words files bytes
  pub text : Text bytes script
  pub owned : Owned script

-- a text whose script is not owned
pub record IsUnfit (bytes : List ℕ) (r : Refusal) : Type 0 where
  pub script : Script
  pub text : Text bytes script
  pub unfit : Unfit script r

-- a refusal without a line
abbrev pub without_line : Reason → Refusal
without_line reason = record { line = 0; reason = reason }

-- bytes that are no text, or the text of a script that is not owned
abbrev pub IsFaulty : List ℕ → Refusal → Type 0
IsFaulty bytes r = Refused bytes r ⊎ IsUnfit bytes r

-- the words name a file, it was read, and its bytes are faulty
pub record IsFaultyFile (words : List (List ℕ)) (files : Option (List File)) (r : Refusal) : Type 0 where
  pub bytes : List ℕ
  pub read : IsRead words files bytes
  pub fault : IsFaulty bytes r

-- the words name a file that is longer than a script may be
pub record IsTooLong (words : List (List ℕ)) (files : Option (List File)) (r : Refusal) : Type 0 where
  pub file : List ℕ
  pub named : file_of words ≡ Some file
  pub long : IfSome files (λ told. IsSomeAnd (content_of told file) (λ bytes. script_bytes < length bytes))
  pub reason : r ≡ without_line reasons.TooLong

-- the file is refused: it is too long, or its bytes are faulty
abbrev pub IsRefused : List (List ℕ) → Option (List File) → Refusal → Type 0
IsRefused words files r = IsTooLong words files r ⊎ IsFaultyFile words files r

-- bytes of a file with their refusal: they are too many, or no more than a script may have and faulty
pub data IsRefusedText (bytes : List ℕ) (r : Refusal) : Type 0 where
  too_many : script_bytes < length bytes → r ≡ without_line reasons.TooLong → IsRefusedText bytes r
  faulty : length bytes ≤ script_bytes → IsFaulty bytes r → IsRefusedText bytes r

-- the line of words that are of no form
abbrev pub usage_text : List ℕ
usage_text = codes "usage: cfrun run [--serial] FILE\n"

-- the line of a file that could not be read
abbrev pub fault_text : List ℕ
fault_text = codes "read fault\n"

-- the word of a reason
abbrev pub reason_word : Reason → List ℕ
reason_word reasons.TooLong = codes "TooLong"
reason_word reasons.Unread = codes "Unread"
reason_word reasons.NotUtf8 = codes "NotUtf8"
reason_word reasons.Text = codes "Text"
reason_word reasons.Header = codes "Header"
reason_word reasons.Word = codes "Word"
reason_word reasons.Order = codes "Order"
reason_word reasons.Kind = codes "Kind"
reason_word reasons.Arity = codes "Arity"
reason_word reasons.Name = codes "Name"
reason_word reasons.Number = codes "Number"
reason_word reasons.Hex = codes "Hex"
reason_word reasons.Twice = codes "Twice"
reason_word reasons.TooMany = codes "TooMany"
reason_word reasons.Open = codes "Open"
reason_word reasons.NoSetup = codes "NoSetup"
reason_word reasons.Undefined = codes "Undefined"
reason_word reasons.Redefined = codes "Redefined"
reason_word reasons.Unowned = codes "Unowned"
reason_word reasons.Unbalanced = codes "Unbalanced"

-- the line of a refusal
abbrev pub refusal_text : Refusal → List ℕ
refusal_text r = codes "refused line " ++ (decimal r.line ++ (codes " " ++ (reason_word r.reason ++ codes "\n")))

-- the most entries of a journal
abbrev pub default_limit : ℕ
default_limit = DEFAULT_LIMIT

-- the journal of a serial run, with the default limit: it is legal and in the serial order, it has this ending, its
-- callouts and finals fit, and each tick goes to the least date of a sleeper
abbrev pub IsJournal : Script → Ending → List Entry → Type 0
IsJournal script ending entries = HasRun script default_limit (Some []) ending entries

-- the lines that are due: by the words, the file and the source's count of faults
pub data IsDue (call : Call) (due : List ℕ) : Type 0 where
  usage_due : file_of call.words ≡ None → call.journal ≡ [] → due ≡ usage_text → IsDue call due
  refusal_due : (r : Refusal) → IsRefused call.words call.source.files r → call.journal ≡ [] → due ≡ refusal_text r
      → IsDue call due
  fault_due : TakesWords call.words → SourceFailed call → call.journal ≡ [] → due ≡ fault_text → IsDue call due
  run_due : (script : Script) (ending : Ending) → IsAccepted call.words call.source.files script
      → IsJournal script ending call.journal → due ≡ rendering script call.journal ending false → IsDue call due

-- statuses 0, 7, 8 and 9: an accepted script has run to this ending, and the bytes written are the rendering of its
-- journal; the source stands at the end of the file, and its count of faults is as it was
pub record Ran (ending : Ending) (call : Call) : Type 0 where
  pub script : Script
  pub read : IsAccepted call.words call.source.files script
  pub at_end : IsAtEnd call.source_after.left
  pub quiet : call.source_after.faults ≡ call.source.faults
  pub journal : IsJournal script ending call.journal
  pub written : Wrote (rendering script call.journal ending false) call

-- status 2: the words are not of the two forms, and the source was not asked
pub record Misused (call : Call) : Type 0 where
  pub words_are : file_of call.words ≡ None
  pub untouched : call.source_after ≡ call.source
  pub empty : call.journal ≡ []
  pub written : Wrote usage_text call

-- status 3: a file was read, its bytes are refused, and the source's count of faults is as it was
pub record Rejected (call : Call) : Type 0 where
  pub refusal : Refusal
  pub refused : IsRefused call.words call.source.files refusal
  pub quiet : call.source_after.faults ≡ call.source.faults
  pub empty : call.journal ≡ []
  pub written : Wrote (refusal_text refusal) call

-- status 4: the source's count of faults rose
pub record Unreadable (call : Call) : Type 0 where
  pub words_are : TakesWords call.words
  pub risen : SourceFailed call
  pub empty : call.journal ≡ []
  pub written : Wrote fault_text call

-- a part of the lines due was taken, and not all of them
pub record Shortened (call : Call) : Type 0 where
  pub due : List ℕ
  pub is_due : IsDue call due
  pub cut : Cut due call.sink.taken call.sink_after.taken

-- nothing was written, and no script has run
pub record Silent (call : Call) : Type 0 where
  pub empty : call.journal ≡ []
  pub written : call.sink_after.taken ≡ call.sink.taken

-- status 5: the sink's count of faults rose
pub record Unwritten (call : Call) : Type 0 where
  pub risen : SinkFailed call
  pub shortened : Shortened call

-- what a status tells of a call; with 6 memory ran out
pub data Outcome (call : Call) : Type 0 where
  done : status_is 0 call → Ran Done call → Outcome call
  limited : status_is 7 call → Ran Limit call → Outcome call
  full : status_is 8 call → Ran Full call → Outcome call
  stalled : status_is 9 call → Ran Stalled call → Outcome call
  misused : status_is 2 call → Misused call → Outcome call
  rejected : status_is 3 call → Rejected call → Outcome call
  unreadable : status_is 4 call → Unreadable call → Outcome call
  unwritten : status_is 5 call → Unwritten call → Outcome call
  no_memory : status_is 6 call → Silent call ⊎ Shortened call → Outcome call

-- ---- what is said of every call

-- the words name a file that the source tells, with these bytes, and no count of faults rose
pub record Reads (call : Call) (bytes : List ℕ) : Type 0 where
  pub told : List File
  pub file : List ℕ
  pub tells : call.source.files ≡ Some told
  pub named : file_of call.words ≡ Some file
  pub content : content_of told file ≡ Some bytes
  pub source_holds : ¬ (SourceFailed call)
  pub sink_holds : ¬ (SinkFailed call)

-- the words name a file whose bytes are those of a script that is accepted, and no count of faults rose
pub record ReadsScript (call : Call) (script : Script) : Type 0 where
  pub bytes : List ℕ
  pub reads : Reads call bytes
  pub within : length bytes ≤ script_bytes
  pub text : Text bytes script
  pub owned : Owned script

-- a refusal is told by its line
pub record IsTold (r : Refusal) (call : Call) : Type 0 where
  pub status : status_is 3 call
  pub written : Wrote (refusal_text r) call

-- what is said of every call: the cause of each status, and when a status does come
pub record Tells (call : Call) : Type 0 where
  -- the script ran to its end
  pub ran : status_is 0 call → Ran Done call
  -- the journal was at its limit before the script's end
  pub limited : status_is 7 call → Ran Limit call
  -- the next action makes an object, and as many were made as a run may make
  pub full : status_is 8 call → Ran Full call
  -- every thread that is not done sleeps, and none has a date
  pub stalled : status_is 9 call → Ran Stalled call
  -- the causes of the other statuses, and what is written with each
  pub misused : status_is 2 call → Misused call
  pub rejected : status_is 3 call → Rejected call
  pub unreadable : status_is 4 call → Unreadable call
  pub unwritten : status_is 5 call → Unwritten call
  pub no_memory : status_is 6 call → Silent call ⊎ Shortened call
  -- there are no others
  pub statuses : Contains (0 ∷ 2 ∷ 3 ∷ 4 ∷ 5 ∷ 6 ∷ 7 ∷ 8 ∷ 9 ∷ []) call.status
  -- faulty words give 2, unless the sink's count rose or memory ran out
  pub misuse_is_told : file_of call.words ≡ None → ¬ (SinkFailed call) → status_is 2 call ⊎ status_is 6 call
  -- of a source that tells its files, if no count rose: an accepted script runs, one whose journal is whole gives 0, and
  -- of a refused one its line and reason are told
  pub accepted_runs : (script : Script) → ReadsScript call script → Contains (0 ∷ 6 ∷ 7 ∷ 8 ∷ 9 ∷ []) call.status
  pub whole_runs : (script : Script) → ReadsScript call script → IsWhole script call.journal
      → status_is 0 call ⊎ status_is 6 call
  pub refused_is_told : (bytes : List ℕ) (r : Refusal) → Reads call bytes → IsRefusedText bytes r
      → IsTold r call ⊎ status_is 6 call
