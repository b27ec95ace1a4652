-- Small scripts over threads, run loops and notices, by which the definitions can be compared with what they are
-- meant to say. The expected entries are worked by hand.
use Rattle.std.specs.Prelude.{ℕ, pos, true, false, List, [], ◌∷◌, Option, Some, None, codes}
use Rattle.cf_ids.specs.declared.answer.Answer.{Answer}
use Rattle.cf_ids.specs.declared.answer.Answer.TheVariants as answers
use Rattle.cf_syntax.specs.declared.script.Script.{Script}
use Rattle.cf_syntax.specs.declared.script.Block.{Block}
use Rattle.cf_syntax.specs.declared.script.Given.{Given}
use Rattle.cf_syntax.specs.declared.script.Handler.{Handler}
use Rattle.cf_syntax.specs.declared.statement.Statement.{Statement}
use Rattle.cf_syntax.specs.declared.statement.Statement.TheVariants as forms
use Rattle.cf_syntax.specs.declared.mention.ThreadWord.{ThreadWord}
use Rattle.cf_syntax.specs.declared.mention.ThreadWord.TheVariants.{Own, Named}
use Rattle.cf_syntax.specs.declared.mention.ModeWord.TheVariants as words
use Rattle.cf_next.specs.declared.action.Action.{Action}
use Rattle.cf_next.specs.declared.action.Action.TheVariants as actions
use Rattle.cf_model.specs.declared.entry.Entry.{Entry}
use Rattle.cf_model.specs.Runs.{Seen, Left, Summary}

-- a block of statements, with what it uses
abbrev block : List Given → List Statement → Block
block uses statements = record {
  name = codes "b";
  uses = uses;
  variables = [];
  statements = statements;
  lines = [];
  first = 0;
  last = 0;
}

-- a handler with its block
abbrev handler : ℕ → Handler
handler b = record { name = codes "h"; block = Some b }

-- a script of blocks, of which so many are threads, and of handlers, whose blocks follow those
abbrev script : (threads : ℕ) → List Block → List Handler → Script
script threads blocks handlers = record {
  classes = [];
  blocks = blocks;
  thread_count = threads;
  handlers = handlers;
  modes = codes "default" ∷ codes "other" ∷ [];
  notices = codes "news" ∷ [];
}

-- a thread uses the first variable of setup as its own
abbrev first_variable : List Given
first_variable = record { setup = Some 0; own = 0 } ∷ []

-- an entry that is seen
abbrev seen : ℕ → Action → Answer → Seen
seen t a answer = record { thread = t; action = a; answer = answer }

-- a call of an item in thread 0
abbrev calls : (handler item : ℕ) (info : Option ℕ) → Answer → Seen
calls h i info answer = seen 0 (actions.Call h (Some i) info) answer

-- an item is added to the mode `default`
abbrev in_default : ThreadWord → ℕ → Statement
in_default thread v = forms.Add v thread (words.Mode 0)

-- one string for two threads, which both release it
abbrev pub two_threads : Script
two_threads = script 3 (
    block [] (forms.MakeString 0 (codes "x") ∷ forms.Retain 0 ∷ [])
    ∷ block first_variable (forms.Retain 0 ∷ forms.Release 0 ∷ forms.Release 0 ∷ [])
    ∷ block first_variable (forms.Release 0 ∷ []) ∷ [])
    []

-- a source that is signalled three times
abbrev pub one_signal : Script
one_signal = script 1 (
    block [] (
    forms.MakeSource 0 (pos 0) 0 None ∷ in_default Own 0 ∷ forms.Signal 0 ∷ forms.Signal 0 ∷ forms.Signal 0
    ∷ forms.Run 0 (Some 0) false ∷ forms.Release 0 ∷ [])
    ∷ block [] [] ∷ [])
    (handler 1 ∷ [])

-- a source whose handler takes another one out of the mode, which is in a second mode too
abbrev pub cut_out : Script
cut_out = script 1 (
    block [] (
    forms.MakeArray 0 false ∷ forms.MakeSource 1 (pos 1) 0 (Some 0) ∷ forms.MakeSource 2 (pos 2) 1 None
    ∷ forms.ArrAppend 0 2 ∷ in_default Own 1 ∷ in_default Own 2 ∷ forms.Add 2 Own (words.Mode 1)
    ∷ forms.Signal 2 ∷ forms.Signal 1 ∷ forms.Run 0 (Some 0) false ∷ forms.Run 1 (Some 0) false ∷ [])
    ∷ block [] (forms.ArrTake 1 0 0 ∷ forms.Drop 1 Own (words.Mode 0) ∷ forms.Release 1 ∷ [])
    ∷ block [] [] ∷ [])
    (handler 1 ∷ handler 2 ∷ [])

-- a wake before a run is kept for its first sleep; the second one ends at the deadline
abbrev pub kept_wake : Script
kept_wake = script 1 (
    block [] (forms.MakeSource 0 (pos 0) 0 None ∷ in_default Own 0 ∷ forms.Wake Own ∷ forms.Run 0 (Some 10) false ∷ [])
    ∷ block [] [] ∷ [])
    (handler 1 ∷ [])

-- a source in the loops of two threads, of which one signals it while the other sleeps
abbrev pub silent_signal : Script
silent_signal = script 3 (
    block [] (
    forms.MakeSource 0 (pos 0) 0 None ∷ forms.Retain 0 ∷ in_default (Named (Some 1)) 0
    ∷ in_default (Named (Some 2)) 0 ∷ [])
    ∷ block first_variable (forms.Run 0 (Some 10) false ∷ forms.Release 0 ∷ [])
    ∷ block first_variable (forms.Run 0 (Some 5) false ∷ forms.Signal 0 ∷ forms.Release 0 ∷ [])
    ∷ block [] [] ∷ [])
    (handler 3 ∷ [])

-- a repeating timer, and a clock that is late
abbrev pub late_timer : Script
late_timer = script 1 (
    block [] (forms.MakeTimer 0 5 10 0 None ∷ in_default Own 0 ∷ forms.Run 0 (Some 20) false ∷ forms.Show 0 ∷ [])
    ∷ block [] [] ∷ [])
    (handler 1 ∷ [])

-- a run without a deadline, which nothing wakes
abbrev pub no_date : Script
no_date = script 1 (
    block [] (forms.MakeSource 0 (pos 0) 0 None ∷ in_default Own 0 ∷ forms.Run 0 None false ∷ [])
    ∷ block [] [] ∷ [])
    (handler 1 ∷ [])

-- a second mode becomes a common one, and a source is a common item
abbrev pub common_item : Script
common_item = script 1 (
    block [] (
    forms.MakeSource 0 (pos 0) 0 None ∷ forms.Common Own 1 ∷ forms.Add 0 Own words.Common ∷ forms.Signal 0
    ∷ forms.Run 1 (Some 0) false ∷ forms.Drop 0 Own words.Common ∷ forms.Release 0 ∷ [])
    ∷ block [] [] ∷ [])
    (handler 1 ∷ [])

-- a notice is posted to an observer, and again when that is finalised
abbrev pub two_posts : Script
two_posts = script 1 (
    block [] (
    forms.MakeString 0 (codes "o") ∷ forms.Observe 0 0 (Some 0) None ∷ forms.Post 0 None ∷ forms.Release 0
    ∷ forms.Post 0 None ∷ [])
    ∷ block [] (forms.Show 0 ∷ []) ∷ [])
    (handler 1 ∷ [])

-- a worker whose loop has a source, a timer that rings once and stops the run, and an observer; a producer that
-- hands the worker a string
abbrev pub worker_and_producer : Script
worker_and_producer = script 3 (
    block [] (
    forms.MakeArray 0 false ∷ forms.MakeSource 1 (pos 0) 0 (Some 0) ∷ forms.MakeTimer 2 100 0 1 None
    ∷ forms.MakeObserver 3 231 true (pos 0) 2 None ∷ in_default (Named (Some 1)) 1 ∷ in_default (Named (Some 1)) 2
    ∷ in_default (Named (Some 1)) 3 ∷ forms.Release 2 ∷ forms.Release 3 ∷ forms.Retain 1 ∷ [])
    ∷ block (record { setup = Some 1; own = 0 } ∷ []) (forms.Run 0 (Some 1000) false ∷ forms.Release 0 ∷ [])
    ∷ block (record { setup = Some 0; own = 0 } ∷ record { setup = Some 1; own = 1 } ∷ []) (
    forms.MakeString 2 (codes "one") ∷ forms.ArrAppend 0 2 ∷ forms.Release 2 ∷ forms.Signal 1
    ∷ forms.Wake (Named (Some 1)) ∷ forms.Release 0 ∷ forms.Release 1 ∷ [])
    ∷ block [] (forms.ArrTake 1 0 0 ∷ forms.Show 1 ∷ forms.ArrRemove 0 0 ∷ forms.Release 1 ∷ [])
    ∷ block [] (forms.Stop Own ∷ [])
    ∷ block [] [] ∷ [])
    (handler 3 ∷ handler 4 ∷ handler 5 ∷ [])

-- a string with two references, one of which another variable has: the second release is not its own
abbrev pub not_owned : Script
not_owned = script 1 (
    block [] (
    forms.MakeString 0 (codes "x") ∷ forms.MakeArray 1 false ∷ forms.ArrAppend 1 0 ∷ forms.ArrTake 2 1 0
    ∷ forms.Release 0 ∷ forms.Release 0 ∷ [])
    ∷ [])
    []

-- ---- what is expected

-- an action of a statement on one object
abbrev on_object : ℕ → List (Option ℕ)
on_object o = Some o ∷ None ∷ None ∷ []

-- a run of a mode ends with this result
abbrev ran : (thread mode result : ℕ) → Seen
ran t m result = seen t (actions.Ran m) (answers.Number (pos result))

-- a thread shows an object, by the statement of this number of a block
abbrev shows : (thread block number object : ℕ) → List ℕ → Seen
shows t b n o description = seen t (actions.Show b n (on_object o)) (answers.Shown description)

-- a thread releases the last reference, by the statement of this number
abbrev releases_last : (thread number object class : ℕ) → Seen
releases_last t n o class = seen t (actions.Release t n (on_object o)) (answers.Final class)

-- of two threads: the second release of thread 1 is the last one
abbrev pub two_threads_seen : List Seen
two_threads_seen = releases_last 1 2 0 3 ∷ []

-- of three signals: one call, and the run ends at its deadline
abbrev pub one_signal_seen : List Seen
one_signal_seen = calls 0 0 None answers.Ok ∷ ran 0 0 3 ∷ []

-- of the source that takes another out: in the first mode it alone is called, in the second the other
abbrev pub cut_out_seen : List Seen
cut_out_seen = calls 0 1 (Some 0) answers.Ok ∷ ran 0 0 3 ∷ calls 1 2 None answers.Ok ∷ ran 0 1 3 ∷ []

-- of the wake that is kept: the run ends at its deadline
abbrev pub kept_wake_seen : List Seen
kept_wake_seen = ran 0 0 3 ∷ []

-- of the signal that wakes nobody: both runs end at their deadlines, and nothing is called
abbrev pub silent_signal_seen : List Seen
silent_signal_seen = ran 2 0 3 ∷ ran 1 0 3 ∷ []

-- of the late timer: one call, the run ends at its deadline, and the timer keeps to its times
abbrev pub late_timer_seen : List Seen
late_timer_seen =
    calls 0 0 None answers.Ok ∷ ran 0 0 3 ∷ shows 0 0 3 0 (codes "RunLoopTimer valid 45") ∷ []

-- of the common item: a call in a mode that got it, and the last release
abbrev pub common_item_seen : List Seen
common_item_seen = calls 0 0 None answers.Ok ∷ ran 0 1 3 ∷ releases_last 0 6 0 11 ∷ []

-- of the two notices: a call for the first, the last release of the observer, and no call for the second
abbrev pub two_posts_seen : List Seen
two_posts_seen =
    seen 0 (actions.Call 0 None (Some 0)) answers.Ok ∷ shows 0 1 0 0 (codes "String \"o\"")
    ∷ releases_last 0 3 0 3 ∷ []

-- the observer is told of an activity
abbrev told : ℕ → Seen
told a = seen 1 (actions.Call 2 (Some 3) None) (answers.Number (pos a))

-- of the worker: what the observer is told in each turn, the call for the producer's string, whose last release comes
-- then, the bell, which is spent, and the end of the run, which was told to stop
abbrev pub worker_and_producer_seen : List Seen
worker_and_producer_seen =
    told 1 ∷ told 2 ∷ told 4 ∷ seen 1 (actions.Call 0 (Some 1) (Some 0)) answers.Ok
    ∷ shows 1 3 1 4 (codes "String \"one\"")
    ∷ seen 1 (actions.Release 3 3 (on_object 4)) (answers.Final 3)
    ∷ told 2 ∷ told 4 ∷ told 32 ∷ told 64 ∷ told 2 ∷ told 4 ∷ told 32 ∷ told 64
    ∷ seen 1 (actions.Call 1 (Some 2) None) answers.Ok ∷ seen 1 (actions.Owed 2) (answers.Final 12)
    ∷ told 128 ∷ ran 1 0 2 ∷ []

-- a run as a whole that is over
abbrev pub over_with : List Seen → List Left → (events objects finals : ℕ) → Summary
over_with what rest events objects finals =
    record { seen = what; left = rest; events = events; objects = objects; finals = finals; is_over = true }

-- an object that is left
abbrev pub left : (object owners slots : ℕ) → Left
left o owners slots = record { object = o; owners = owners; slots = slots }

-- of three signals, of the wake, of the late timer and of the stall: the item is in the mode, and owned if it was not
-- released
abbrev pub released_item : List Left
released_item = left 0 0 1 ∷ []

-- the same of an item that was not released
abbrev pub kept_item : List Left
kept_item = left 0 1 1 ∷ []

-- of the source that takes another out: the array holds that, and the source the array
abbrev pub cut_out_left : List Left
cut_out_left = left 0 1 1 ∷ left 1 1 1 ∷ left 2 1 2 ∷ []

-- of the signal that wakes nobody: the source is in both loops
abbrev pub silent_signal_left : List Left
silent_signal_left = left 0 0 2 ∷ []

-- of the worker: the source holds the array, and the mode holds the source and the observer
abbrev pub worker_and_producer_left : List Left
worker_and_producer_left = left 0 0 1 ∷ left 1 0 1 ∷ left 3 0 1 ∷ []

-- entries of which it is shown that they are not legal: a release that finalises what another thread owns
abbrev pub final_too_early : Entry
final_too_early = record { thread = 2; action = actions.Release 2 0 (on_object 0); answer = answers.Final 3 }

-- a second call for one signal, or for one date
abbrev pub second_call : Entry
second_call = record { thread = 0; action = actions.Call 0 (Some 0) None; answer = answers.Ok }

-- a call of a source that was taken out of the mode
abbrev pub call_of_what_is_out : Entry
call_of_what_is_out = record { thread = 0; action = actions.Call 1 (Some 2) None; answer = answers.Ok }

-- a loop sleeps although it was woken before
abbrev pub sleep_past_a_wake : Entry
sleep_past_a_wake = record { thread = 0; action = actions.Sleep; answer = answers.Asleep (Some 10) }

-- a loop that sleeps goes on after a signal
abbrev pub woken_by_a_signal : Entry
woken_by_a_signal = record { thread = 1; action = actions.Note 64; answer = answers.Ok }

-- a tick to a time before the least date, and one where there is no date
abbrev pub early_tick : Entry
early_tick = record { thread = 255; action = actions.Tick 4; answer = answers.Ok }

-- a call of an observer of notices that is finalised
abbrev pub call_of_a_finalised_observer : Entry
call_of_a_finalised_observer = record { thread = 0; action = actions.Call 0 None (Some 0); answer = answers.Ok }

-- an entry of thread 0
abbrev entry : Action → Answer → Entry
entry a answer = record { thread = 0; action = a; answer = answer }

-- a statement uses no object
abbrev nothing : List (Option ℕ)
nothing = None ∷ None ∷ None ∷ []

-- the journal of the script that releases what another variable holds
abbrev pub not_owned_journal : List Entry
not_owned_journal =
    entry (actions.MakeString 0 0 nothing) (answers.Object 0)
    ∷ entry (actions.MakeArray 0 1 nothing) (answers.Object 1)
    ∷ entry (actions.ArrAppend 0 2 (Some 1 ∷ Some 0 ∷ None ∷ [])) answers.Ok
    ∷ entry (actions.ArrTake 0 3 (on_object 1)) (answers.Object 0)
    ∷ entry (actions.Release 0 4 (on_object 0)) answers.More
    ∷ entry (actions.Release 0 5 (on_object 0)) answers.More
    ∷ entry actions.Done answers.Ok
    ∷ []
