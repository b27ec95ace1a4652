-- What a journal says of notices: the registrations that stand, and the receivers of a notice. After the reference of
-- CFNotificationCenter; the order is this project's own.
use Rattle.std.specs.Prelude.{ℕ, Bool, true, false, ◌&&◌, List, [], ◌∷◌, ◌++◌, map, filter, Option, Some, None, slice_index_or, if◌then◌else◌}
use Rattle.std.specs.List.{list_any}
use Rattle.cf_ids.specs.declared.answer.Answer.{Answer}
use Rattle.cf_ids.specs.declared.answer.Answer.TheVariants as answers
use Rattle.rl_base.specs.declared.registrations.Registration.{Registration}
use Rattle.rl_base.specs.Receivers.{forgets, is_there_and, receivers}
use Rattle.cf_syntax.specs.declared.script.Script.{Script}
use Rattle.cf_syntax.specs.declared.statement.Statement.{Statement}
use Rattle.cf_syntax.specs.declared.statement.Statement.TheVariants as forms
use Rattle.cf_syntax.specs.Mentions.{used_at, first_of}
use Rattle.cf_next.specs.declared.action.Action.{Action}
use Rattle.cf_next.specs.Actions.{Site, site_of}
use Rattle.cf_model.specs.declared.entry.Entry.{Entry}
use Rattle.cf_history.specs.Written.{statement_of}
use Rattle.cf_history.specs.History.{is_ok, is_live_after}

-- the objects of a statement at its site; none if there is no statement
abbrev pub used_at_site : Option Site → List (Option ℕ)
used_at_site None = []
used_at_site (Some site) = site.used

-- the objects that a statement's action uses
abbrev pub used_in : Action → List (Option ℕ)
used_in a = used_at_site (site_of a)

-- the object by which a statement tells notices apart, if it names one
abbrev pub filter_in : Option ℕ → List (Option ℕ) → Option ℕ
filter_in None used = None
filter_in (Some v) used = used_at used 1

-- ---- registrations

-- the registration of an observer, if there is one
abbrev pub registers : (handler : ℕ) (name object : Option ℕ) → Option ℕ → List Registration
registers h name object None = []
registers h name object (Some o) = record { observer = o; handler = h; name = name; filter = object } ∷ []

-- what a statement registers: an `observe` one registration
abbrev pub registered_by : Option Statement → List (Option ℕ) → List Registration
registered_by (Some (forms.Observe v h name x)) used = registers h name (filter_in x used) (first_of used)
registered_by _ used = []

-- what an entry registers, if it is accepted
abbrev pub registered_in : Script → Entry → List Registration
registered_in s e = if is_ok e.answer then registered_by (statement_of s e.action) (used_in e.action) else []

-- a registration is of this observer, if there is one, and has this name and filter
abbrev pub is_of : Option ℕ → (name filter : Option ℕ) → Registration → Bool
is_of None name object r = false
is_of (Some o) name object r = forgets o name object r

-- a statement takes a registration out: a `forget`
abbrev pub is_forgotten_by : Option Statement → List (Option ℕ) → Registration → Bool
is_forgotten_by (Some (forms.Forget v name x)) used r = is_of (first_of used) name (filter_in x used) r
is_forgotten_by _ used r = false

-- a `forget` that is not skipped answers a number
abbrev pub is_number : Answer → Bool
is_number (answers.Number n) = true
is_number _ = false

-- an entry takes a registration out
abbrev pub is_forgotten_in : Script → Registration → Entry → Bool
is_forgotten_in s r e =
    is_number e.answer && is_forgotten_by (statement_of s e.action) (used_in e.action) r

-- a registration as later entries leave it: one that they take out leaves its number empty
abbrev pub unless_forgotten : Script → List Entry → Registration → Option Registration
unless_forgotten s later r = if list_any (is_forgotten_in s r) later then None else Some r

-- the registrations that entries made, in order, as later ones leave them
abbrev pub registrations_after : Script → List Entry → List (Option Registration)
registrations_after s [] = []
registrations_after s (e ∷ es) = map (unless_forgotten s es) (registered_in s e) ++ registrations_after s es

-- ---- receivers

-- an object is live, if there is one
abbrev pub is_live_if : List Entry → Option ℕ → Bool
is_live_if es None = true
is_live_if es (Some o) = is_live_after es o

-- a registration is heard: its observer and its filter object are live
abbrev pub hears : List Entry → Registration → Bool
hears es r = is_live_after es r.observer && is_live_if es r.filter

-- the receivers of a notice after entries: the registrations made and not forgotten, in the order made, whose name is
-- that one or any and whose filter is the object or any, and whose observer and filter object are live
abbrev pub receivers_after : Script → List Entry → (name : ℕ) (object : Option ℕ) → List ℕ
receivers_after s es name object =
    let made = registrations_after s es in
    filter (λ k. is_there_and (hears es) (slice_index_or made k None)) (receivers name object made)
