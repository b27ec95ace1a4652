-- What each form of statement names, uses, makes and does to the counts of variables. This project's own; a further
-- form adds a line to `mentions_of`.
use Rattle.std.specs.Prelude.{ℕ, zero, suc, ◌-◌, Bool, true, false, List, [], ◌∷◌, ◌++◌, length, map, replicate, Option, Some, None}
use Rattle.cf_syntax.specs.declared.statement.Statement.{Statement}
use Rattle.cf_syntax.specs.declared.statement.Statement.TheVariants.{MakeString, MakeMstring, MakeData, MakeMdata, MakeNumber, MakeArray, MakeDict, MakeSet, MakeBag, MakeHeap, MakeSource, MakeTimer, MakeObserver, New, Retain, Release, Show, StrAppend, StrInsert, StrDelete, StrReplace, StrSub, DataAppend, DataReplace, DataDelete, NumAs, ArrAppend, ArrInsert, ArrSet, ArrRemove, ArrTake, DictAdd, DictSet, DictReplace, DictRemove, DictTake, SetAdd, SetSet, SetReplace, SetRemove, SetCount, SetTake, HeapAdd, HeapTake, HeapRemove, FieldSet, FieldClear, FieldTake, Add, Drop, Common, Signal, Invalidate, Wake, Stop, Run, Observe, Forget, Post}
use Rattle.cf_syntax.specs.declared.mention.ThreadWord.{ThreadWord}
use Rattle.cf_syntax.specs.declared.mention.ThreadWord.TheVariants.{Own, Named}
use Rattle.cf_syntax.specs.declared.mention.Mention.{Mention}
use Rattle.cf_syntax.specs.declared.mention.Mention.TheVariants.{Binds, Uses, Class, Handler, Thread, Unknown}
use Rattle.cf_syntax.specs.declared.mention.Ownership.{Ownership}
use Rattle.cf_syntax.specs.declared.mention.Ownership.TheVariants as ownerships

-- what a word THREAD names
abbrev pub thread_mention : ThreadWord → Option Mention
thread_mention Own = None
thread_mention (Named t) = Some (Thread t)

-- the variable that a word INFO or a filter names, where it names one
abbrev pub info_mention : Option ℕ → Option Mention
info_mention None = None
info_mention (Some v) = Some (Uses v)

-- the words of a line that name something, of which there are at most three. A line that may name nothing in its first
-- place names nothing there, so that what it binds is seen from its form alone
abbrev pub named : (first second third : Option Mention) → List (Option Mention)
named first second third = first ∷ second ∷ third ∷ []

-- the words of a statement that name a variable of its block, a class, a handler or a thread, in the order of its
-- words
abbrev pub mentions_of : Statement → List (Option Mention)
mentions_of (MakeString v text) = named (Some (Binds v)) None None
mentions_of (MakeMstring v text) = named (Some (Binds v)) None None
mentions_of (MakeData v bytes) = named (Some (Binds v)) None None
mentions_of (MakeMdata v bytes) = named (Some (Binds v)) None None
mentions_of (MakeNumber v number) = named (Some (Binds v)) None None
mentions_of (MakeArray v plain) = named (Some (Binds v)) None None
mentions_of (MakeDict v plain) = named (Some (Binds v)) None None
mentions_of (MakeSet v plain) = named (Some (Binds v)) None None
mentions_of (MakeBag v plain) = named (Some (Binds v)) None None
mentions_of (MakeHeap v plain) = named (Some (Binds v)) None None
mentions_of (MakeSource v order handler info) = named (Some (Binds v)) (Some (Handler handler)) (info_mention info)
mentions_of (MakeTimer v first interval handler info) =
    named (Some (Binds v)) (Some (Handler handler)) (info_mention info)
mentions_of (MakeObserver v mask repeats order handler info) =
    named (Some (Binds v)) (Some (Handler handler)) (info_mention info)
mentions_of (New v class key) = named (Some (Binds v)) (Some (Class class)) None
mentions_of (Retain v) = named (Some (Uses v)) None None
mentions_of (Release v) = named (Some (Uses v)) None None
mentions_of (Show v) = named (Some (Uses v)) None None
mentions_of (StrAppend v other) = named (Some (Uses v)) (Some (Uses other)) None
mentions_of (StrInsert v at text) = named (Some (Uses v)) None None
mentions_of (StrDelete v at len) = named (Some (Uses v)) None None
mentions_of (StrReplace v at len text) = named (Some (Uses v)) None None
mentions_of (StrSub v s at len) = named (Some (Binds v)) (Some (Uses s)) None
mentions_of (DataAppend v bytes) = named (Some (Uses v)) None None
mentions_of (DataReplace v at len bytes) = named (Some (Uses v)) None None
mentions_of (DataDelete v at len) = named (Some (Uses v)) None None
mentions_of (NumAs v kind) = named (Some (Uses v)) None None
mentions_of (ArrAppend v x) = named (Some (Uses v)) (Some (Uses x)) None
mentions_of (ArrInsert v at x) = named (Some (Uses v)) (Some (Uses x)) None
mentions_of (ArrSet v at x) = named (Some (Uses v)) (Some (Uses x)) None
mentions_of (ArrRemove v at) = named (Some (Uses v)) None None
mentions_of (ArrTake v a at) = named (Some (Binds v)) (Some (Uses a)) None
mentions_of (DictAdd v k x) = named (Some (Uses v)) (Some (Uses k)) (Some (Uses x))
mentions_of (DictSet v k x) = named (Some (Uses v)) (Some (Uses k)) (Some (Uses x))
mentions_of (DictReplace v k x) = named (Some (Uses v)) (Some (Uses k)) (Some (Uses x))
mentions_of (DictRemove v k) = named (Some (Uses v)) (Some (Uses k)) None
mentions_of (DictTake v d k) = named (Some (Binds v)) (Some (Uses d)) (Some (Uses k))
mentions_of (SetAdd v x) = named (Some (Uses v)) (Some (Uses x)) None
mentions_of (SetSet v x) = named (Some (Uses v)) (Some (Uses x)) None
mentions_of (SetReplace v x) = named (Some (Uses v)) (Some (Uses x)) None
mentions_of (SetRemove v x) = named (Some (Uses v)) (Some (Uses x)) None
mentions_of (SetCount v x) = named (Some (Uses v)) (Some (Uses x)) None
mentions_of (SetTake v s x) = named (Some (Binds v)) (Some (Uses s)) (Some (Uses x))
mentions_of (HeapAdd v x) = named (Some (Uses v)) (Some (Uses x)) None
mentions_of (HeapTake v h) = named (Some (Binds v)) (Some (Uses h)) None
mentions_of (HeapRemove v) = named (Some (Uses v)) None None
mentions_of (FieldSet v at x) = named (Some (Uses v)) (Some (Uses x)) None
mentions_of (FieldClear v at) = named (Some (Uses v)) None None
mentions_of (FieldTake v o at) = named (Some (Binds v)) (Some (Uses o)) None
mentions_of (Add item thread mode) = named (Some (Uses item)) (thread_mention thread) None
mentions_of (Drop item thread mode) = named (Some (Uses item)) (thread_mention thread) None
mentions_of (Common thread mode) = named None (thread_mention thread) None
mentions_of (Signal source) = named (Some (Uses source)) None None
mentions_of (Invalidate item) = named (Some (Uses item)) None None
mentions_of (Wake thread) = named None (thread_mention thread) None
mentions_of (Stop thread) = named None (thread_mention thread) None
mentions_of (Run mode limit once) = named None None None
mentions_of (Observe v handler name filter) = named (Some (Uses v)) (Some (Handler handler)) (info_mention filter)
mentions_of (Forget v name filter) = named (Some (Uses v)) (info_mention filter) None
mentions_of (Post name info) = named None (info_mention info) None

-- the variable that a word uses
abbrev pub used : Option Mention → Option ℕ
used None = None
used (Some (Binds v)) = None
used (Some (Uses v)) = Some v
used (Some (Class c)) = None
used (Some (Handler h)) = None
used (Some (Thread t)) = None
used (Some Unknown) = None

-- what is there, of places that may be empty
abbrev pub present : {A : Type 0} → List (Option A) → List A
present [] = []
present (None ∷ xs) = present xs
present (Some x ∷ xs) = x ∷ present xs

-- the variables that a statement uses, in the order of its words
abbrev pub used_by : Statement → List ℕ
used_by s = present (map used (mentions_of s))

-- what the first of some words does to the count of a variable: it binds one, or nothing
abbrev pub bound_in : List (Option Mention) → Ownership
bound_in [] = ownerships.Keeps
bound_in (None ∷ ms) = ownerships.Keeps
bound_in (Some (Binds v) ∷ ms) = ownerships.Binds v
bound_in (Some (Uses v) ∷ ms) = ownerships.Keeps
bound_in (Some (Class c) ∷ ms) = ownerships.Keeps
bound_in (Some (Handler h) ∷ ms) = ownerships.Keeps
bound_in (Some (Thread t) ∷ ms) = ownerships.Keeps
bound_in (Some Unknown ∷ ms) = ownerships.Keeps

-- what a statement does to the count of a variable. After the ownership rule of the Memory Management guide: who makes
-- or retains an object owns a reference, and releases it
abbrev pub ownership_of : Statement → Ownership
ownership_of (Retain v) = ownerships.Retains v
ownership_of (Release v) = ownerships.Releases v
ownership_of s = bound_in (mentions_of s)

-- the forms that make an object, or may make one
abbrev pub makes_object : Statement → Bool
makes_object (MakeString v text) = true
makes_object (MakeMstring v text) = true
makes_object (MakeData v bytes) = true
makes_object (MakeMdata v bytes) = true
makes_object (MakeNumber v number) = true
makes_object (MakeArray v plain) = true
makes_object (MakeDict v plain) = true
makes_object (MakeSet v plain) = true
makes_object (MakeBag v plain) = true
makes_object (MakeHeap v plain) = true
makes_object (MakeSource v order handler info) = true
makes_object (MakeTimer v first interval handler info) = true
makes_object (MakeObserver v mask repeats order handler info) = true
makes_object (New v class key) = true
makes_object (StrSub v s at len) = true
makes_object _ = false

-- a list of at most three, as three places
abbrev pub pad : {A : Type 0} → List A → List (Option A)
pad xs = map Some xs ++ replicate (3 - length xs) None

-- one of the objects of the variables that a statement uses, by its place among them, and the first one
abbrev pub used_at : List (Option ℕ) → ℕ → Option ℕ
used_at [] i = None
used_at (o ∷ os) zero = o
used_at (o ∷ os) (suc i) = used_at os i

abbrev pub first_of : List (Option ℕ) → Option ℕ
first_of used = used_at used 0
