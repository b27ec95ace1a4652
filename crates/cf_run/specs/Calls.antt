-- A call of the program as its clauses see it: what it was given, and what it left. This project's own.
use Rattle.std.specs.Prelude.{◌≡◌, ℕ, List, map, Option}
use Rattle.cf_fault.specs.Fault.{HasRisen}
use Rattle.cf_io.specs.Bytes.{then_bytes}
use Rattle.cf_io.specs.Files.{File}
use Rattle.cf_model.specs.declared.entry.Entry.{Entry}
use Rattle.cf_run.specs.declared.report.Report.{Report}
use denote.Ref.{Bor}

-- what a source tells: its files and what is left of the open one, if it tells them, and its count of faults
pub record SourceState : Type 0 where
  pub files : Option (List File)
  pub left : Option (List ℕ)
  pub faults : ℕ

-- what a sink tells: the bytes that it has taken, if it tells them, and its count of faults
pub record SinkState : Type 0 where
  pub taken : Option (List ℕ)
  pub faults : ℕ

-- a call: the words after the program's name, the source and the sink before and after it, the exit status that it
-- reports, and the journal
pub record Call : Type 0 where
  pub words : List (List ℕ)
  pub source : SourceState
  pub source_after : SourceState
  pub sink : SinkState
  pub sink_after : SinkState
  pub status : ℕ
  pub journal : List Entry

-- what a source tells, by its meanings
abbrev pub told_by : {S : Type 0} → (S → Option (List File)) → (S → Option (List ℕ)) → (S → ℕ) → S → SourceState
told_by files left faults source = record { files = files source; left = left source; faults = faults source }

-- what a sink tells, by its meanings
abbrev pub took_by : {K : Type 0} → (K → Option (List ℕ)) → (K → ℕ) → K → SinkState
took_by taken faults sink = record { taken = taken sink; faults = faults sink }

-- a call by its parts
abbrev pub call_by : List (List ℕ) → (before after : SourceState) → (old new : SinkState) → Report → Call
call_by words before after old new report = record {
  words = words;
  source = before;
  source_after = after;
  sink = old;
  sink_after = new;
  status = report.status;
  journal = report.journal.items;
}

-- a call by its parts, with words that are lent
abbrev pub call_of : List (Bor (List ℕ)) → (before after : SourceState) → (old new : SinkState) → Report → Call
call_of words before after old new report = call_by (map (λ w. w.now) words) before after old new report

-- the call reports this status
abbrev pub status_is : ℕ → Call → Type 0
status_is status call = call.status ≡ status

-- the source's count of faults rose in the call
abbrev pub SourceFailed : Call → Type 0
SourceFailed call = HasRisen call.source.faults call.source_after.faults

-- the sink's count of faults rose in the call
abbrev pub SinkFailed : Call → Type 0
SinkFailed call = HasRisen call.sink.faults call.sink_after.faults

-- these bytes are written, and nothing else
abbrev pub Wrote : List ℕ → Call → Type 0
Wrote bytes call = call.sink_after.taken ≡ then_bytes call.sink.taken bytes
