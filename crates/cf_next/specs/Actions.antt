-- The action of each form of statement. This project's own; a further form adds a line to each table.
use Rattle.std.specs.Prelude.{ℕ, List, Option, Some, None}
use Rattle.cf_syntax.specs.declared.statement.Statement.{Statement}
use Rattle.cf_syntax.specs.declared.statement.Statement.TheVariants as forms
use Rattle.cf_syntax.specs.Mentions.{first_of}
use Rattle.cf_next.specs.declared.action.Action.{Action}
use Rattle.cf_next.specs.declared.action.Action.TheVariants as actions

-- where an action of a statement stands, and the objects of the variables that it uses
pub record Site : Type 0 where
  pub block : ℕ
  pub number : ℕ
  pub used : List (Option ℕ)

-- the action of a statement at its site
abbrev pub action_of : Statement → Site → Action
action_of (forms.MakeString v text) s = actions.MakeString s.block s.number s.used
action_of (forms.MakeMstring v text) s = actions.MakeMstring s.block s.number s.used
action_of (forms.MakeData v bytes) s = actions.MakeData s.block s.number s.used
action_of (forms.MakeMdata v bytes) s = actions.MakeMdata s.block s.number s.used
action_of (forms.MakeNumber v number) s = actions.MakeNumber s.block s.number s.used
action_of (forms.New v class key) s = actions.New s.block s.number s.used
action_of (forms.MakeArray v plain) s = actions.MakeArray s.block s.number s.used
action_of (forms.MakeDict v plain) s = actions.MakeDict s.block s.number s.used
action_of (forms.MakeSet v plain) s = actions.MakeSet s.block s.number s.used
action_of (forms.MakeBag v plain) s = actions.MakeBag s.block s.number s.used
action_of (forms.MakeHeap v plain) s = actions.MakeHeap s.block s.number s.used
action_of (forms.MakeSource v order handler info) s = actions.MakeSource s.block s.number s.used
action_of (forms.MakeTimer v first interval handler info) s = actions.MakeTimer s.block s.number s.used
action_of (forms.MakeObserver v mask repeats order handler info) s = actions.MakeObserver s.block s.number s.used
action_of (forms.Retain v) s = actions.Retain s.block s.number s.used
action_of (forms.Release v) s = actions.Release s.block s.number s.used
action_of (forms.Show v) s = actions.Show s.block s.number s.used
action_of (forms.StrAppend v other) s = actions.StrAppend s.block s.number s.used
action_of (forms.StrInsert v at text) s = actions.StrInsert s.block s.number s.used
action_of (forms.StrDelete v at len) s = actions.StrDelete s.block s.number s.used
action_of (forms.StrReplace v at len text) s = actions.StrReplace s.block s.number s.used
action_of (forms.StrSub v text at len) s = actions.StrSub s.block s.number s.used
action_of (forms.DataAppend v bytes) s = actions.DataAppend s.block s.number s.used
action_of (forms.DataReplace v at len bytes) s = actions.DataReplace s.block s.number s.used
action_of (forms.DataDelete v at len) s = actions.DataDelete s.block s.number s.used
action_of (forms.NumAs v kind) s = actions.NumAs s.block s.number s.used
action_of (forms.ArrAppend v element) s = actions.ArrAppend s.block s.number s.used
action_of (forms.ArrInsert v at element) s = actions.ArrInsert s.block s.number s.used
action_of (forms.ArrSet v at element) s = actions.ArrSet s.block s.number s.used
action_of (forms.ArrRemove v at) s = actions.ArrRemove s.block s.number s.used
action_of (forms.ArrTake v array at) s = actions.ArrTake s.block s.number s.used
action_of (forms.DictAdd v key value) s = actions.DictAdd s.block s.number s.used
action_of (forms.DictSet v key value) s = actions.DictSet s.block s.number s.used
action_of (forms.DictReplace v key value) s = actions.DictReplace s.block s.number s.used
action_of (forms.DictRemove v key) s = actions.DictRemove s.block s.number s.used
action_of (forms.DictTake v dictionary key) s = actions.DictTake s.block s.number s.used
action_of (forms.FieldSet v at element) s = actions.FieldSet s.block s.number s.used
action_of (forms.FieldClear v at) s = actions.FieldClear s.block s.number s.used
action_of (forms.FieldTake v instance at) s = actions.FieldTake s.block s.number s.used
action_of (forms.SetAdd v element) s = actions.SetAdd s.block s.number s.used
action_of (forms.SetSet v element) s = actions.SetSet s.block s.number s.used
action_of (forms.SetReplace v element) s = actions.SetReplace s.block s.number s.used
action_of (forms.SetRemove v element) s = actions.SetRemove s.block s.number s.used
action_of (forms.SetCount v element) s = actions.SetCount s.block s.number s.used
action_of (forms.SetTake v set element) s = actions.SetTake s.block s.number s.used
action_of (forms.HeapAdd v element) s = actions.HeapAdd s.block s.number s.used
action_of (forms.HeapTake v heap) s = actions.HeapTake s.block s.number s.used
action_of (forms.HeapRemove v) s = actions.HeapRemove s.block s.number s.used
action_of (forms.Add item thread mode) s = actions.Add s.block s.number s.used
action_of (forms.Drop item thread mode) s = actions.Drop s.block s.number s.used
action_of (forms.Common thread mode) s = actions.Common s.block s.number s.used
action_of (forms.Signal source) s = actions.Signal s.block s.number s.used
action_of (forms.Invalidate item) s = actions.Invalidate s.block s.number s.used
action_of (forms.Wake thread) s = actions.Wake s.block s.number s.used
action_of (forms.Stop thread) s = actions.Stop s.block s.number s.used
action_of (forms.Run mode limit once) s = actions.Run s.block s.number s.used
action_of (forms.Observe observer handler name filter) s = actions.Observe s.block s.number s.used
action_of (forms.Forget observer name filter) s = actions.Forget s.block s.number s.used
action_of (forms.Post name info) s = actions.Post s.block s.number s.used

-- the site of an action, if a statement writes it
abbrev pub site_of : Action → Option Site
site_of (actions.MakeString b n u) = Some (record { block = b; number = n; used = u })
site_of (actions.MakeMstring b n u) = Some (record { block = b; number = n; used = u })
site_of (actions.MakeData b n u) = Some (record { block = b; number = n; used = u })
site_of (actions.MakeMdata b n u) = Some (record { block = b; number = n; used = u })
site_of (actions.MakeNumber b n u) = Some (record { block = b; number = n; used = u })
site_of (actions.New b n u) = Some (record { block = b; number = n; used = u })
site_of (actions.MakeArray b n u) = Some (record { block = b; number = n; used = u })
site_of (actions.MakeDict b n u) = Some (record { block = b; number = n; used = u })
site_of (actions.MakeSet b n u) = Some (record { block = b; number = n; used = u })
site_of (actions.MakeBag b n u) = Some (record { block = b; number = n; used = u })
site_of (actions.MakeHeap b n u) = Some (record { block = b; number = n; used = u })
site_of (actions.MakeSource b n u) = Some (record { block = b; number = n; used = u })
site_of (actions.MakeTimer b n u) = Some (record { block = b; number = n; used = u })
site_of (actions.MakeObserver b n u) = Some (record { block = b; number = n; used = u })
site_of (actions.Retain b n u) = Some (record { block = b; number = n; used = u })
site_of (actions.Release b n u) = Some (record { block = b; number = n; used = u })
site_of (actions.Show b n u) = Some (record { block = b; number = n; used = u })
site_of (actions.StrAppend b n u) = Some (record { block = b; number = n; used = u })
site_of (actions.StrInsert b n u) = Some (record { block = b; number = n; used = u })
site_of (actions.StrDelete b n u) = Some (record { block = b; number = n; used = u })
site_of (actions.StrReplace b n u) = Some (record { block = b; number = n; used = u })
site_of (actions.StrSub b n u) = Some (record { block = b; number = n; used = u })
site_of (actions.DataAppend b n u) = Some (record { block = b; number = n; used = u })
site_of (actions.DataReplace b n u) = Some (record { block = b; number = n; used = u })
site_of (actions.DataDelete b n u) = Some (record { block = b; number = n; used = u })
site_of (actions.NumAs b n u) = Some (record { block = b; number = n; used = u })
site_of (actions.ArrAppend b n u) = Some (record { block = b; number = n; used = u })
site_of (actions.ArrInsert b n u) = Some (record { block = b; number = n; used = u })
site_of (actions.ArrSet b n u) = Some (record { block = b; number = n; used = u })
site_of (actions.ArrRemove b n u) = Some (record { block = b; number = n; used = u })
site_of (actions.ArrTake b n u) = Some (record { block = b; number = n; used = u })
site_of (actions.DictAdd b n u) = Some (record { block = b; number = n; used = u })
site_of (actions.DictSet b n u) = Some (record { block = b; number = n; used = u })
site_of (actions.DictReplace b n u) = Some (record { block = b; number = n; used = u })
site_of (actions.DictRemove b n u) = Some (record { block = b; number = n; used = u })
site_of (actions.DictTake b n u) = Some (record { block = b; number = n; used = u })
site_of (actions.FieldSet b n u) = Some (record { block = b; number = n; used = u })
site_of (actions.FieldClear b n u) = Some (record { block = b; number = n; used = u })
site_of (actions.FieldTake b n u) = Some (record { block = b; number = n; used = u })
site_of (actions.SetAdd b n u) = Some (record { block = b; number = n; used = u })
site_of (actions.SetSet b n u) = Some (record { block = b; number = n; used = u })
site_of (actions.SetReplace b n u) = Some (record { block = b; number = n; used = u })
site_of (actions.SetRemove b n u) = Some (record { block = b; number = n; used = u })
site_of (actions.SetCount b n u) = Some (record { block = b; number = n; used = u })
site_of (actions.SetTake b n u) = Some (record { block = b; number = n; used = u })
site_of (actions.HeapAdd b n u) = Some (record { block = b; number = n; used = u })
site_of (actions.HeapTake b n u) = Some (record { block = b; number = n; used = u })
site_of (actions.HeapRemove b n u) = Some (record { block = b; number = n; used = u })
site_of (actions.Add b n u) = Some (record { block = b; number = n; used = u })
site_of (actions.Drop b n u) = Some (record { block = b; number = n; used = u })
site_of (actions.Common b n u) = Some (record { block = b; number = n; used = u })
site_of (actions.Signal b n u) = Some (record { block = b; number = n; used = u })
site_of (actions.Invalidate b n u) = Some (record { block = b; number = n; used = u })
site_of (actions.Wake b n u) = Some (record { block = b; number = n; used = u })
site_of (actions.Stop b n u) = Some (record { block = b; number = n; used = u })
site_of (actions.Run b n u) = Some (record { block = b; number = n; used = u })
site_of (actions.Observe b n u) = Some (record { block = b; number = n; used = u })
site_of (actions.Forget b n u) = Some (record { block = b; number = n; used = u })
site_of (actions.Post b n u) = Some (record { block = b; number = n; used = u })
site_of (actions.Pack t o) = None
site_of (actions.Claim o) = None
site_of actions.Done = None
site_of (actions.Owed o) = None
site_of (actions.DropSlot b k o) = None
site_of (actions.Note a) = None
site_of actions.Sources = None
site_of actions.Timers = None
site_of (actions.Call h i info) = None
site_of actions.Return = None
site_of (actions.Spend i) = None
site_of actions.Sleep = None
site_of actions.Test = None
site_of (actions.Ran m) = None
site_of (actions.Tick n) = None
site_of actions.Stall = None

-- the object to which an action takes a reference away: a release, or a drop
abbrev pub cut_of : Action → Option ℕ
cut_of (actions.Release b n used) = first_of used
cut_of (actions.Owed o) = Some o
cut_of (actions.DropSlot b k o) = Some o
cut_of _ = None
