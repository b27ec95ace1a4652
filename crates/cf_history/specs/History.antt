-- What a journal says of objects and of items of run loops: sentences over its entries, without the bits of a state.
-- After the Run Loops guide: a source is signalled until its callout begins, and an item that was invalidated is never
-- called again.
use Rattle.std.specs.Prelude.{ℕ, Bool, true, false, ◌&&◌, not, List, Option, Some, None, ◌==◌}
use Rattle.std.specs.List.{list_any}
use Rattle.cf_ids.specs.declared.answer.Answer.{Answer}
use Rattle.cf_ids.specs.declared.answer.Answer.TheVariants as answers
use Rattle.rl_base.specs.History.{holds_since}
use Rattle.cf_syntax.specs.Mentions.{first_of}
use Rattle.cf_next.specs.declared.action.Action.{Action}
use Rattle.cf_next.specs.declared.action.Action.TheVariants as actions
use Rattle.cf_model.specs.declared.entry.Entry.{Entry}
use Rattle.cf_model.specs.Finals.{finals, bound_in}

-- it is this object
abbrev pub names : ℕ → Option ℕ → Bool
names o None = false
names o (Some p) = p == o

-- what was asked was done
abbrev pub is_ok : Answer → Bool
is_ok answers.Ok = true
is_ok _ = false

-- ---- signalled

-- the source that an action signals, if it does
abbrev pub signalled_in : Action → Option ℕ
signalled_in (actions.Signal b n used) = first_of used
signalled_in _ = None

-- the item that an action calls, if it does
abbrev pub called_in : Action → Option ℕ
called_in (actions.Call h item info) = item
called_in _ = None

-- the entry is an accepted signal of this source
abbrev pub signals : ℕ → Entry → Bool
signals i e = names i (signalled_in e.action) && is_ok e.answer

-- the entry is a call of this item
abbrev pub calls : ℕ → Entry → Bool
calls i e = names i (called_in e.action)

-- a source is signalled after entries: some signal of it was accepted, and no call of it stands after that
abbrev pub is_signalled_after : List Entry → ℕ → Bool
is_signalled_after es i = holds_since (signals i) (calls i) es

-- ---- valid

-- the action makes a source
abbrev pub is_source_form : Action → Bool
is_source_form (actions.MakeSource b n used) = true
is_source_form _ = false

-- the action makes an item of run loops: a source, a timer or an observer
abbrev pub is_item_form : Action → Bool
is_item_form (actions.MakeSource b n used) = true
is_item_form (actions.MakeTimer b n used) = true
is_item_form (actions.MakeObserver b n used) = true
is_item_form _ = false

-- the entry binds this object
abbrev pub binds : ℕ → Entry → Bool
binds o e = names o (bound_in e.answer)

-- the entry makes this item, as a source
abbrev pub makes_source : ℕ → Entry → Bool
makes_source i e = is_source_form e.action && binds i e

-- the entry makes this item
abbrev pub makes_item : ℕ → Entry → Bool
makes_item i e = is_item_form e.action && binds i e

-- the item that an action invalidates, by a statement or since it is spent
abbrev pub invalidated_in : Action → Option ℕ
invalidated_in (actions.Invalidate b n used) = first_of used
invalidated_in (actions.Spend i) = Some i
invalidated_in _ = None

-- the entry invalidates this item, which is accepted
abbrev pub invalidates : ℕ → Entry → Bool
invalidates i e = names i (invalidated_in e.action) && is_ok e.answer

-- an item is a source after entries: one of them made it as that
abbrev pub is_source_after : List Entry → ℕ → Bool
is_source_after es i = list_any (makes_source i) es

-- an item is valid after entries: one of them made it, and no `invalidate` or `spend` of it was accepted
abbrev pub is_valid_after : List Entry → ℕ → Bool
is_valid_after es i = list_any (makes_item i) es && not (list_any (invalidates i) es)

-- ---- live

-- an object was made in entries: one of them binds it
abbrev pub is_made_after : List Entry → ℕ → Bool
is_made_after es o = list_any (binds o) es

-- an object is live after entries: it was made, and none of them finalised it
abbrev pub is_live_after : List Entry → ℕ → Bool
is_live_after es o = is_made_after es o && (finals o es == 0)
