-- What is written of a journal: a line for each entry, or only for those that a reader of the output sees; a line for
-- each object that is left; and the end line. This project's own.
use Rattle.std.specs.Prelude.{ℕ, ◌+◌, Bool, ◌||◌, List, [], ◌∷◌, ◌++◌, codes, length, Option, Some, None, ◌==◌, if◌then◌else◌}
use Rattle.std.specs.List.{join_with_byte}
use Rattle.std.specs.Fmt.{decimal, signed_decimal}
use Rattle.cf_ids.specs.Words.{thread_word, number_word}
use Rattle.cf_ids.specs.declared.answer.Answer.{Answer}
use Rattle.cf_ids.specs.declared.answer.Answer.TheVariants as answers
use Rattle.cf_syntax.specs.declared.script.Script.{Script}
use Rattle.cf_syntax.specs.declared.script.ClassLine.{ClassLine}
use Rattle.cf_syntax.specs.declared.statement.Statement.{Statement}
use Rattle.cf_contents.specs.Contents.{Object}
use Rattle.cf_contents.specs.Descriptions.{class_name, member_word}
use Rattle.cf_graph.specs.Edges.{Reference, weigh, owning, holding}
use Rattle.cf_next.specs.declared.action.Action.{Action}
use Rattle.cf_next.specs.declared.action.Action.TheVariants as actions
use Rattle.cf_model.specs.declared.entry.Entry.{Entry}
use Rattle.cf_model.specs.declared.ending.Ending.{Ending}
use Rattle.cf_model.specs.declared.ending.Ending.TheVariants as endings
use Rattle.cf_model.specs.State.{State, times}
use Rattle.cf_model.specs.Journals.{After}
use Rattle.cf_model.specs.Runs.{is_seen}
use Rattle.cf_history.specs.Written.{statement_of}
use Rattle.cf_history.specs.Notices.{used_in}
use Rattle.cf_render.specs.FormWords.{statement_words, thread_name, handler_name, mode_name}

-- words joined by single spaces
abbrev pub joined : List (List ℕ) → List ℕ
joined words = join_with_byte 32 words

-- ---- the words of an answer

-- the words of an answer; the date of a sleep is not written
abbrev pub answer_words : List ClassLine → Answer → List (List ℕ)
answer_words classes answers.Ok = codes "ok" ∷ []
answer_words classes answers.More = codes "more" ∷ []
answer_words classes (answers.Final c) = codes "final" ∷ class_name classes c ∷ []
answer_words classes answers.Skip = codes "skip" ∷ []
answer_words classes answers.Nil = codes "nil" ∷ []
answer_words classes (answers.Object o) = number_word o ∷ []
answer_words classes (answers.Shown description) = description ∷ []
answer_words classes (answers.Number n) = signed_decimal n ∷ []
answer_words classes answers.Lossy = codes "lossy" ∷ []
answer_words classes answers.Range = codes "range" ∷ []
answer_words classes answers.Split = codes "split" ∷ []
answer_words classes answers.Added = codes "added" ∷ []
answer_words classes answers.Changed = codes "changed" ∷ []
answer_words classes answers.Present = codes "present" ∷ []
answer_words classes answers.Absent = codes "absent" ∷ []
answer_words classes answers.Empty = codes "empty" ∷ []
answer_words classes answers.Invalid = codes "invalid" ∷ []
answer_words classes answers.Elsewhere = codes "elsewhere" ∷ []
answer_words classes answers.Idle = codes "idle" ∷ []
answer_words classes answers.Entered = codes "in" ∷ []
answer_words classes answers.Woken = codes "woken" ∷ []
answer_words classes answers.Due = codes "due" ∷ []
answer_words classes (answers.Asleep date) = codes "asleep" ∷ []
answer_words classes answers.Again = codes "again" ∷ []

-- ---- the words of an action

-- the words of a statement with the objects that it uses, if there is one
abbrev pub words_if : Script → List (Option ℕ) → Option Statement → List (List ℕ)
words_if s used None = []
words_if s used (Some x) = statement_words s used x

-- the actions that no statement writes, by their word and what they name; all others by the words of their statement
abbrev pub action_words : Script → Action → List (List ℕ)
action_words s (actions.Pack t o) = codes "pack" ∷ thread_name s t ∷ member_word o ∷ []
action_words s (actions.Claim o) = codes "claim" ∷ member_word o ∷ []
action_words s actions.Done = codes "done" ∷ []
action_words s (actions.Owed o) = codes "release" ∷ number_word o ∷ []
action_words s (actions.DropSlot b k o) = codes "drop" ∷ number_word b ∷ decimal k ∷ number_word o ∷ []
action_words s (actions.Note a) = codes "note" ∷ decimal a ∷ []
action_words s actions.Sources = codes "sources" ∷ []
action_words s actions.Timers = codes "timers" ∷ []
action_words s (actions.Call h item info) =
    codes "call" ∷ handler_name s h ∷ member_word item ∷ member_word info ∷ []
action_words s actions.Return = codes "return" ∷ []
action_words s (actions.Spend i) = codes "spend" ∷ number_word i ∷ []
action_words s actions.Sleep = codes "sleep" ∷ []
action_words s actions.Test = codes "test" ∷ []
action_words s (actions.Ran m) = codes "ran" ∷ mode_name s m ∷ []
action_words s (actions.Tick time) = codes "tick" ∷ decimal time ∷ []
action_words s actions.Stall = codes "stall" ∷ []
action_words s a = words_if s (used_in a) (statement_of s a)

-- ---- the lines of entries

-- the line of an entry: its thread, the words of its action, and those of its answer
abbrev pub line : Script → Entry → List ℕ
line s e = joined (thread_word e.thread ∷ action_words s e.action ++ answer_words s.classes e.answer)

-- an entry is written: each is with `full`, and else only what a reader sees, which is a call, the description of an
-- object, what finalises an object, a run of an empty mode, and the end of a run
abbrev pub is_written : (full : Bool) → Entry → Bool
is_written full e = full || is_seen e.action e.answer

-- the lines of entries, in order
abbrev pub entry_lines : Script → (full : Bool) → List Entry → List (List ℕ)
entry_lines s full [] = []
entry_lines s full (e ∷ es) = (if is_written full e then line s e ∷ [] else []) ++ entry_lines s full es

-- ---- the end lines

-- the line of an object that is left, with how many references own it and how many hold it
abbrev pub alive_line : List ClassLine → ℕ → Object → List Reference → List ℕ
alive_line classes o ob es =
    joined (codes "alive" ∷ number_word o ∷ class_name classes ob.class
    ∷ codes "owners" ∷ decimal (weigh (owning o) es) ∷ codes "slots" ∷ decimal (weigh (holding o) es) ∷ [])

-- those of the objects from a number on that are not finalised
abbrev pub alive_from : List ClassLine → ℕ → List Object → (finalised : List ℕ) → List Reference → List (List ℕ)
alive_from classes o [] finalised es = []
alive_from classes o (ob ∷ obs) finalised es =
    (if times o finalised == 0 then alive_line classes o ob es ∷ [] else [])
    ++ alive_from classes (o + 1) obs finalised es

-- the word of an ending
abbrev pub ending_word : Ending → List ℕ
ending_word endings.Done = codes "done"
ending_word endings.Limit = codes "limit"
ending_word endings.Full = codes "full"
ending_word endings.Stalled = codes "stalled"

-- the last line: how many entries there are, how many objects were made and finalised, and how many are left
abbrev pub last_line : Ending → (events objects finals alive : ℕ) → List ℕ
last_line ending events objects finals alive =
    joined (codes "end" ∷ ending_word ending ∷ codes "events" ∷ decimal events ∷ codes "objects" ∷ decimal objects
    ∷ codes "finals" ∷ decimal finals ∷ codes "alive" ∷ decimal alive ∷ [])

-- the lines at the end: those of the objects that are left, and the last one
abbrev pub ends_with : Ending → (events objects finals : ℕ) → (alive : List (List ℕ)) → List (List ℕ)
ends_with ending events objects finals alive = alive ++ last_line ending events objects finals (length alive) ∷ []

-- the lines at the end, by the number of entries, the state after them, and references, whose order says nothing here
abbrev pub end_lines_in : Script → (events : ℕ) → State → List Reference → Ending → List (List ℕ)
end_lines_in s events st es ending =
    ends_with ending events (length st.parts.objects) (length st.parts.finalised)
    (alive_from s.classes 0 st.parts.objects st.parts.finalised es)

-- the lines at the end, by a journal and references
abbrev pub end_lines : Script → List Entry → List Reference → Ending → List (List ℕ)
end_lines s es edges ending = end_lines_in s (length es) (After s es) edges ending

-- ---- the whole

-- the lines of a journal: those of its entries, and those at the end, by the references after it
abbrev pub lines : Script → List Entry → Ending → (full : Bool) → List (List ℕ)
lines s es ending full = entry_lines s full es ++ end_lines s es (After s es).edges ending

-- lines as text, each ended by a line feed
abbrev pub text_of_lines : List (List ℕ) → List ℕ
text_of_lines [] = []
text_of_lines (l ∷ ls) = l ++ 10 ∷ text_of_lines ls

-- the text of a journal with its ending: its lines, each ended by a line feed
abbrev pub rendering : Script → List Entry → Ending → (full : Bool) → List ℕ
rendering s es ending full = text_of_lines (lines s es ending full)
