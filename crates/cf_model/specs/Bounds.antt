-- What one entry adds at most, and so how much there can be after so many entries. This project's own.
use Rattle.std.specs.Prelude.{◌≡◌, ℕ, ◌+◌, ◌*◌, ◌<◌, ◌≤◌, ◌⊎◌, IsTrue, List, length, slice_get}
use Rattle.cf_ids.specs.declared.limits.TheConstants.{MODES, OBJECTS}
use Rattle.cf_syntax.specs.declared.script.Script.{Script}
use Rattle.cf_syntax.specs.Owned.{Owned}
use Rattle.cf_graph.specs.Edges.{degree}
use Rattle.cf_graph.specs.Flows.{gained_by, gains}
use Rattle.cf_contents.specs.Contents.{size_at}
use Rattle.cf_contents.specs.Stores.{Held, objects_of, MayGrow}
use Rattle.cf_model.specs.declared.entry.Entry.{Entry}
use Rattle.cf_model.specs.State.{State, times}
use Rattle.cf_model.specs.Journals.{makes, after_action, After}
use Rattle.cf_model.specs.Serial.{pointer_of}
use Rattle.cf_model.specs.Changes.{most_gained, changes}
use Rattle.cf_model.specs.Flowing.{flow_in}

-- an entry makes one object at most, and that only if its thread's next statement is of such a form; it finalises one
-- at most; and each collection has one member more at most
pub record EntryAdds (s : Script) (t : ℕ) (st next : State) : Type 0 where
  pub objects : (length next.parts.objects ≡ length st.parts.objects)
      ⊎ (IsTrue (makes s st t) × (length next.parts.objects ≡ length st.parts.objects + 1))
  pub finalised : length next.parts.finalised ≤ length st.parts.finalised + 1
  pub sizes : (o : ℕ) → size_at (slice_get next.parts.objects o) ≤ size_at (slice_get st.parts.objects o) + 1

-- the same of an entry after a journal
abbrev pub AddsFew : Script → List Entry → Entry → Type 0
AddsFew s es e = let st = After s es in EntryAdds s e.thread st (after_action s e.thread st e.action)

-- after so many entries no more objects were made, and no more were finalised; no collection has more members, so
-- that each may have one more
pub record AreFew (s : Script) (es : List Entry) : Type 0 where
  pub objects : length (After s es).parts.objects ≤ length es
  pub finalised : length (After s es).parts.finalised ≤ length es
  pub sizes : (o : ℕ) → size_at (slice_get (After s es).parts.objects o) ≤ length es
  pub grow : (bodies : List Held) → objects_of bodies ≡ (After s es).parts.objects → length es ≤ 4000000
      → MayGrow bodies

-- each thread has its stand, and its flags; of an owned script, in which each thread that is named is there, there are
-- no more flags; and the pointer of the serial order is a thread's number or one more than the last
pub record NumbersOfLists (s : Script) (es : List Entry) : Type 0 where
  pub stands : length (After s es).stands ≡ s.thread_count
  pub flags : Owned s → length (After s es).parts.flags ≡ s.thread_count
  pub some : s.thread_count ≤ length (After s es).parts.flags
  pub pointer : pointer_of s es ≤ s.thread_count

-- after a legal journal there are at most as many objects as one run may make; each stands once at most among those
-- that are finalised, and only such as were made; so there are no more of these
pub record FewOfLegal (s : Script) (es : List Entry) : Type 0 where
  pub objects : length (After s es).parts.objects ≤ OBJECTS
  pub once : (o : ℕ) → times o (After s es).parts.finalised ≤ 1
  pub made : (o : ℕ) → 0 < times o (After s es).parts.finalised → o < length (After s es).parts.objects
  pub finalised : length (After s es).parts.finalised ≤ length (After s es).parts.objects

-- after so many entries an object has at most so many changes, and so many references to it, if the script has no more
-- modes than it may
pub record FewReferences (s : Script) (es : List Entry) (o : ℕ) : Type 0 where
  pub moves : length s.modes ≤ MODES → changes s o es ≤ most_gained * length es
  pub references : length s.modes ≤ MODES → degree o (After s es).edges ≤ most_gained * length es

-- the objects to which an entry adds references, one for each, are a list: an object stands in it as often as it gains
-- a reference, and it has no more numbers than the script has modes and the run has objects, and two
pub record GainsAreListed (s : Script) (es : List Entry) (e : Entry) : Type 0 where
  pub listed : (o : ℕ) → let flow = flow_in s e.thread (After s es) e.action in gains o flow ≡ times o (gained_by flow)
  pub few : length (gained_by (flow_in s e.thread (After s es) e.action))
      ≤ length s.modes + length (After s es).parts.objects + 2
