-- What small scripts write, with their names, and what is expected of it. The expected lines are worked by hand.
use Rattle.std.specs.Prelude.{ℕ, false, true, List, [], ◌∷◌, Some, codes}
use Rattle.cf_syntax.specs.declared.script.Script.{Script}
use Rattle.cf_syntax.specs.declared.script.Block.{Block}
use Rattle.cf_syntax.specs.declared.script.Given.{Given}
use Rattle.cf_syntax.specs.declared.script.Handler.{Handler}
use Rattle.cf_syntax.specs.declared.statement.Statement.{Statement}
use Rattle.cf_syntax.specs.declared.statement.Statement.TheVariants as forms
use Rattle.cf_model.specs.declared.ending.Ending.{Ending}
use Rattle.cf_model.specs.Runs.{serial_run}
use Rattle.cf_render.specs.Rendering.{rendering, text_of_lines}
use Rattle.cf_model.specs.Examples.{one_signal, cut_out, kept_wake, silent_signal, late_timer, no_date, common_item, two_posts, worker_and_producer}

-- ---- scripts with their names

-- blocks, the first of which have these names
abbrev blocks_named : List (List ℕ) → List Block → List Block
blocks_named (n ∷ ns) (b ∷ bs) = record b { name = n } ∷ blocks_named ns bs
blocks_named ns bs = bs

-- handlers, the first of which have these names
abbrev handlers_named : List (List ℕ) → List Handler → List Handler
handlers_named (n ∷ ns) (h ∷ hs) = record h { name = n } ∷ handlers_named ns hs
handlers_named ns hs = hs

-- a script with these names
abbrev named : (threads handlers modes : List (List ℕ)) → Script → Script
named threads handlers modes s = record s {
  blocks = blocks_named threads s.blocks;
  handlers = handlers_named handlers s.handlers;
  modes = modes;
}

-- a script of setup alone, with these names of its handlers
abbrev with_handlers : List (List ℕ) → Script → Script
with_handlers handlers s = named (codes "setup" ∷ []) handlers (codes "default" ∷ []) s

-- the same with one handler
abbrev only_hit : Script → Script
only_hit s = with_handlers (codes "hit" ∷ []) s

-- a text of two threads that release one string
abbrev pub two_releases_script : List ℕ
two_releases_script = text_of_lines (
    codes "cf 1"
    ∷ codes "setup"
    ∷ codes "make x string \"x\""
    ∷ codes "retain x"
    ∷ codes "end"
    ∷ codes "thread a uses x"
    ∷ codes "retain x"
    ∷ codes "release x"
    ∷ codes "release x"
    ∷ codes "end"
    ∷ codes "thread b uses x"
    ∷ codes "release x"
    ∷ codes "end"
    ∷ [])

-- a thread uses the first variable of setup as its own
abbrev first_variable : List Given
first_variable = record { setup = Some 0; own = 0 } ∷ []

-- the script of that text
abbrev pub two_releases : Script
two_releases = record {
  classes = [];
  blocks = record {
    name = codes "setup";
    uses = [];
    variables = codes "x" ∷ [];
    statements = forms.MakeString 0 (codes "x") ∷ forms.Retain 0 ∷ [];
    lines = 3 ∷ 4 ∷ [];
    first = 2;
    last = 5;
  } ∷ record {
    name = codes "a";
    uses = first_variable;
    variables = codes "x" ∷ [];
    statements = forms.Retain 0 ∷ forms.Release 0 ∷ forms.Release 0 ∷ [];
    lines = 7 ∷ 8 ∷ 9 ∷ [];
    first = 6;
    last = 10;
  } ∷ record {
    name = codes "b";
    uses = first_variable;
    variables = codes "x" ∷ [];
    statements = forms.Release 0 ∷ [];
    lines = 12 ∷ [];
    first = 11;
    last = 13;
  } ∷ [];
  thread_count = 3;
  handlers = [];
  modes = codes "default" ∷ [];
  notices = [];
}

-- a source that is signalled three times
abbrev pub three_signals : Script
three_signals = only_hit one_signal

-- a source whose handler takes another one out
abbrev pub taken_out : Script
taken_out =
    named (codes "setup" ∷ []) (codes "cut" ∷ codes "hit" ∷ []) (codes "default" ∷ codes "late" ∷ []) cut_out

-- a wake before a run
abbrev pub early_wake : Script
early_wake = only_hit kept_wake

-- a signal that wakes nobody
abbrev pub quiet_signal : Script
quiet_signal =
    named (codes "setup" ∷ codes "a" ∷ codes "b" ∷ []) (codes "hit" ∷ []) (codes "default" ∷ []) silent_signal

-- a repeating timer, and a clock that is late
abbrev pub slow_clock : Script
slow_clock = only_hit late_timer

-- a run without a date
abbrev pub without_date : Script
without_date = only_hit no_date

-- an item of the common modes
abbrev pub panel_item : Script
panel_item = named (codes "setup" ∷ []) (codes "hit" ∷ []) (codes "default" ∷ codes "panel" ∷ []) common_item

-- two notices
abbrev pub posted_twice : Script
posted_twice = with_handlers (codes "hear" ∷ []) two_posts

-- a worker, a bell and an observer
abbrev pub worker_script : Script
worker_script =
    named
    (codes "setup" ∷ codes "worker" ∷ codes "producer" ∷ [])
    (codes "work" ∷ codes "bell" ∷ codes "seen" ∷ [])
    (codes "default" ∷ [])
    worker_and_producer

-- a script of setup alone, with these statements
abbrev setup_only : List Statement → Script
setup_only statements = record {
  classes = [];
  blocks = record {
    name = codes "setup";
    uses = [];
    variables = [];
    statements = statements;
    lines = [];
    first = 0;
    last = 0;
  } ∷ [];
  thread_count = 1;
  handlers = [];
  modes = codes "default" ∷ [];
  notices = [];
}

-- a plain array does not hold the string that it names
abbrev pub plain_array : Script
plain_array = setup_only (
    forms.MakeString 0 (codes "x") ∷ forms.MakeArray 1 true ∷ forms.ArrAppend 1 0 ∷ forms.Release 0
    ∷ forms.ArrTake 2 1 0 ∷ forms.Release 2 ∷ forms.Release 1 ∷ [])

-- an array holds one string twice
abbrev pub equal_elements : Script
equal_elements = setup_only (
    forms.MakeString 0 (codes "x") ∷ forms.MakeArray 1 false ∷ forms.ArrAppend 1 0 ∷ forms.ArrAppend 1 0
    ∷ forms.Release 0 ∷ forms.Release 1 ∷ [])

-- two arrays hold each other
abbrev pub cycle : Script
cycle = setup_only (
    forms.MakeArray 0 false ∷ forms.MakeArray 1 false ∷ forms.ArrAppend 0 1 ∷ forms.ArrAppend 1 0 ∷ forms.Release 0
    ∷ forms.Release 1 ∷ [])

-- a dictionary keeps its key where an equal one is set
abbrev pub kept_key : Script
kept_key = setup_only (
    forms.MakeString 0 (codes "k") ∷ forms.MakeString 1 (codes "k") ∷ forms.MakeString 2 (codes "1")
    ∷ forms.MakeString 3 (codes "2") ∷ forms.MakeDict 4 false ∷ forms.DictSet 4 0 2 ∷ forms.Release 2
    ∷ forms.DictSet 4 1 3 ∷ forms.Show 4 ∷ [])

-- ---- what is written of a serial run of so many entries at most

-- what is written of it without the journal
abbrev pub written : Script → (times : List ℕ) → ℕ → Ending → List ℕ
written s times n ending = rendering s (serial_run s times n).entries ending false

-- what is written of it with the journal
abbrev pub written_in_full : Script → (times : List ℕ) → ℕ → Ending → List ℕ
written_in_full s times n ending = rendering s (serial_run s times n).entries ending true

-- ---- what is expected

-- of two threads that release one string
abbrev pub two_releases_text : List ℕ
two_releases_text = text_of_lines (
    codes "t1 release #0 final String"
    ∷ codes "end done events 13 objects 1 finals 1 alive 0"
    ∷ [])

-- the same with the journal
abbrev pub two_releases_journal : List ℕ
two_releases_journal = text_of_lines (
    codes "t0 make string \"x\" #0"
    ∷ codes "t0 retain #0 ok"
    ∷ codes "t0 pack a #0 ok"
    ∷ codes "t0 pack b #0 ok"
    ∷ codes "t0 done ok"
    ∷ codes "t1 claim #0 ok"
    ∷ codes "t2 claim #0 ok"
    ∷ codes "t1 retain #0 ok"
    ∷ codes "t2 release #0 more"
    ∷ codes "t1 release #0 more"
    ∷ codes "t2 done ok"
    ∷ codes "t1 release #0 final String"
    ∷ codes "t1 done ok"
    ∷ codes "end done events 13 objects 1 finals 1 alive 0"
    ∷ [])

-- of a plain array, with the journal
abbrev pub plain_array_journal : List ℕ
plain_array_journal = text_of_lines (
    codes "t0 make string \"x\" #0"
    ∷ codes "t0 make array plain #1"
    ∷ codes "t0 arr.append #1 #0 ok"
    ∷ codes "t0 release #0 final String"
    ∷ codes "t0 arr.take #1 0 nil"
    ∷ codes "t0 release nil skip"
    ∷ codes "t0 release #1 final Array"
    ∷ codes "t0 done ok"
    ∷ codes "end done events 8 objects 2 finals 2 alive 0"
    ∷ [])

-- of three signals
abbrev pub three_signals_text : List ℕ
three_signals_text = text_of_lines (
    codes "t0 call hit #0 nil ok"
    ∷ codes "t0 ran default 3"
    ∷ codes "alive #0 RunLoopSource owners 0 slots 1"
    ∷ codes "end done events 19 objects 1 finals 0 alive 1"
    ∷ [])

-- of the source that takes another out
abbrev pub taken_out_text : List ℕ
taken_out_text = text_of_lines (
    codes "t0 call cut #1 #0 ok"
    ∷ codes "t0 ran default 3"
    ∷ codes "t0 call hit #2 nil ok"
    ∷ codes "t0 ran late 3"
    ∷ codes "alive #0 Array owners 1 slots 1"
    ∷ codes "alive #1 RunLoopSource owners 1 slots 1"
    ∷ codes "alive #2 RunLoopSource owners 1 slots 2"
    ∷ codes "end done events 39 objects 3 finals 0 alive 3"
    ∷ [])

-- of the early wake
abbrev pub early_wake_text : List ℕ
early_wake_text = text_of_lines (
    codes "t0 ran default 3"
    ∷ codes "alive #0 RunLoopSource owners 1 slots 1"
    ∷ codes "end done events 25 objects 1 finals 0 alive 1"
    ∷ [])

-- of the signal that wakes nobody
abbrev pub quiet_signal_text : List ℕ
quiet_signal_text = text_of_lines (
    codes "t2 ran default 3"
    ∷ codes "t1 ran default 3"
    ∷ codes "alive #0 RunLoopSource owners 0 slots 2"
    ∷ codes "end done events 40 objects 1 finals 0 alive 1"
    ∷ [])

-- of the late timer
abbrev pub slow_clock_text : List ℕ
slow_clock_text = text_of_lines (
    codes "t0 call hit #0 nil ok"
    ∷ codes "t0 ran default 3"
    ∷ codes "t0 show #0 RunLoopTimer valid 45"
    ∷ codes "alive #0 RunLoopTimer owners 1 slots 1"
    ∷ codes "end done events 20 objects 1 finals 0 alive 1"
    ∷ [])

-- the same with the journal
abbrev pub slow_clock_journal : List ℕ
slow_clock_journal = text_of_lines (
    codes "t0 make timer 5 10 hit nil #0"
    ∷ codes "t0 add #0 self default ok"
    ∷ codes "t0 run default 20 in"
    ∷ codes "t0 note 1 ok"
    ∷ codes "t0 note 2 ok"
    ∷ codes "t0 note 4 ok"
    ∷ codes "t0 sources ok"
    ∷ codes "t0 note 32 ok"
    ∷ codes "t0 sleep asleep"
    ∷ codes "lead tick 37 ok"
    ∷ codes "t0 note 64 ok"
    ∷ codes "t0 timers ok"
    ∷ codes "t0 call hit #0 nil ok"
    ∷ codes "t0 return ok"
    ∷ codes "t0 release #0 more"
    ∷ codes "t0 test 3"
    ∷ codes "t0 note 128 ok"
    ∷ codes "t0 ran default 3"
    ∷ codes "t0 show #0 RunLoopTimer valid 45"
    ∷ codes "t0 done ok"
    ∷ codes "alive #0 RunLoopTimer owners 1 slots 1"
    ∷ codes "end done events 20 objects 1 finals 0 alive 1"
    ∷ [])

-- of the run without a date
abbrev pub without_date_text : List ℕ
without_date_text = text_of_lines (
    codes "alive #0 RunLoopSource owners 1 slots 1"
    ∷ codes "end stalled events 10 objects 1 finals 0 alive 1"
    ∷ [])

-- of the common item
abbrev pub panel_item_text : List ℕ
panel_item_text = text_of_lines (
    codes "t0 call hit #0 nil ok"
    ∷ codes "t0 ran panel 3"
    ∷ codes "t0 release #0 final RunLoopSource"
    ∷ codes "end done events 22 objects 1 finals 1 alive 0"
    ∷ [])

-- of the two notices
abbrev pub posted_twice_text : List ℕ
posted_twice_text = text_of_lines (
    codes "t0 call hear nil #0 ok"
    ∷ codes "t0 show #0 String \"o\""
    ∷ codes "t0 release #0 final String"
    ∷ codes "end done events 10 objects 1 finals 1 alive 0"
    ∷ [])

-- of the worker
abbrev pub worker_text : List ℕ
worker_text = text_of_lines (
    codes "t1 call seen #3 nil 1"
    ∷ codes "t1 call seen #3 nil 2"
    ∷ codes "t1 call seen #3 nil 4"
    ∷ codes "t1 call work #1 #0 ok"
    ∷ codes "t1 show #4 String \"one\""
    ∷ codes "t1 release #4 final String"
    ∷ codes "t1 call seen #3 nil 2"
    ∷ codes "t1 call seen #3 nil 4"
    ∷ codes "t1 call seen #3 nil 32"
    ∷ codes "t1 call seen #3 nil 64"
    ∷ codes "t1 call seen #3 nil 2"
    ∷ codes "t1 call seen #3 nil 4"
    ∷ codes "t1 call seen #3 nil 32"
    ∷ codes "t1 call seen #3 nil 64"
    ∷ codes "t1 call bell #2 nil ok"
    ∷ codes "t1 release #2 final RunLoopTimer"
    ∷ codes "t1 call seen #3 nil 128"
    ∷ codes "t1 ran default 2"
    ∷ codes "alive #0 Array owners 0 slots 1"
    ∷ codes "alive #1 RunLoopSource owners 0 slots 1"
    ∷ codes "alive #3 RunLoopObserver owners 0 slots 1"
    ∷ codes "end done events 104 objects 5 finals 2 alive 3"
    ∷ [])

-- of the array that holds one string twice
abbrev pub equal_elements_text : List ℕ
equal_elements_text = text_of_lines (
    codes "t0 release #1 final Array"
    ∷ codes "t0 drop #1 1 #0 final String"
    ∷ codes "end done events 9 objects 2 finals 2 alive 0"
    ∷ [])

-- of the same where the limit is four entries
abbrev pub equal_elements_limited : List ℕ
equal_elements_limited = text_of_lines (
    codes "alive #0 String owners 1 slots 2"
    ∷ codes "alive #1 Array owners 1 slots 0"
    ∷ codes "end limit events 4 objects 2 finals 0 alive 2"
    ∷ [])

-- of the two arrays that hold each other
abbrev pub cycle_text : List ℕ
cycle_text = text_of_lines (
    codes "alive #0 Array owners 0 slots 1"
    ∷ codes "alive #1 Array owners 0 slots 1"
    ∷ codes "end done events 7 objects 2 finals 0 alive 2"
    ∷ [])

-- of the dictionary that keeps its key
abbrev pub kept_key_text : List ℕ
kept_key_text = text_of_lines (
    codes "t0 release #2 final String"
    ∷ codes "t0 show #4 Dictionary 1 [#0:#3]"
    ∷ codes "alive #0 String owners 1 slots 1"
    ∷ codes "alive #1 String owners 1 slots 0"
    ∷ codes "alive #3 String owners 1 slots 1"
    ∷ codes "alive #4 Dictionary owners 1 slots 0"
    ∷ codes "end done events 11 objects 5 finals 1 alive 4"
    ∷ [])
