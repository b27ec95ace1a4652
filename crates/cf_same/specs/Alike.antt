-- Actions by their parts: which one it is, its site if a statement writes it, and what else it names. This project's own.
use Rattle.std.specs.Prelude.{◌≡◌, ℕ, List, [], ◌∷◌, Option, Some, None, if◌then◌else◌, ◌==◌}
use Rattle.cf_next.specs.Actions.{Site, site_of}
use Rattle.cf_next.specs.declared.action.Action.{Action}
use Rattle.cf_next.specs.declared.action.Action.TheVariants as actions

-- the number of an action among all
abbrev pub number_of : Action → ℕ
number_of (actions.MakeString b n u) = 0
number_of (actions.MakeMstring b n u) = 1
number_of (actions.MakeData b n u) = 2
number_of (actions.MakeMdata b n u) = 3
number_of (actions.MakeNumber b n u) = 4
number_of (actions.New b n u) = 5
number_of (actions.MakeArray b n u) = 6
number_of (actions.MakeDict b n u) = 7
number_of (actions.MakeSet b n u) = 8
number_of (actions.MakeBag b n u) = 9
number_of (actions.MakeHeap b n u) = 10
number_of (actions.MakeSource b n u) = 11
number_of (actions.MakeTimer b n u) = 12
number_of (actions.MakeObserver b n u) = 13
number_of (actions.Retain b n u) = 14
number_of (actions.Release b n u) = 15
number_of (actions.Show b n u) = 16
number_of (actions.StrAppend b n u) = 17
number_of (actions.StrInsert b n u) = 18
number_of (actions.StrDelete b n u) = 19
number_of (actions.StrReplace b n u) = 20
number_of (actions.StrSub b n u) = 21
number_of (actions.DataAppend b n u) = 22
number_of (actions.DataReplace b n u) = 23
number_of (actions.DataDelete b n u) = 24
number_of (actions.NumAs b n u) = 25
number_of (actions.ArrAppend b n u) = 26
number_of (actions.ArrInsert b n u) = 27
number_of (actions.ArrSet b n u) = 28
number_of (actions.ArrRemove b n u) = 29
number_of (actions.ArrTake b n u) = 30
number_of (actions.DictAdd b n u) = 31
number_of (actions.DictSet b n u) = 32
number_of (actions.DictReplace b n u) = 33
number_of (actions.DictRemove b n u) = 34
number_of (actions.DictTake b n u) = 35
number_of (actions.SetAdd b n u) = 36
number_of (actions.SetSet b n u) = 37
number_of (actions.SetReplace b n u) = 38
number_of (actions.SetRemove b n u) = 39
number_of (actions.SetCount b n u) = 40
number_of (actions.SetTake b n u) = 41
number_of (actions.HeapAdd b n u) = 42
number_of (actions.HeapTake b n u) = 43
number_of (actions.HeapRemove b n u) = 44
number_of (actions.FieldSet b n u) = 45
number_of (actions.FieldClear b n u) = 46
number_of (actions.FieldTake b n u) = 47
number_of (actions.Add b n u) = 48
number_of (actions.Drop b n u) = 49
number_of (actions.Common b n u) = 50
number_of (actions.Signal b n u) = 51
number_of (actions.Invalidate b n u) = 52
number_of (actions.Wake b n u) = 53
number_of (actions.Stop b n u) = 54
number_of (actions.Run b n u) = 55
number_of (actions.Observe b n u) = 56
number_of (actions.Forget b n u) = 57
number_of (actions.Post b n u) = 58
number_of (actions.Pack t o) = 59
number_of (actions.Claim o) = 60
number_of actions.Done = 61
number_of (actions.Owed o) = 62
number_of (actions.DropSlot b k o) = 63
number_of (actions.Note a) = 64
number_of actions.Sources = 65
number_of actions.Timers = 66
number_of (actions.Call h i info) = 67
number_of actions.Return = 68
number_of (actions.Spend i) = 69
number_of actions.Sleep = 70
number_of actions.Test = 71
number_of (actions.Ran m) = 72
number_of (actions.Tick n) = 73
number_of actions.Stall = 74

-- what an action names that no statement writes
pub record Rest : Type 0 where
  pub first : ℕ
  pub second : ℕ
  pub third : ℕ
  pub x : Option ℕ
  pub y : Option ℕ

-- these
abbrev pub named : ℕ → ℕ → ℕ → Option ℕ → Option ℕ → Rest
named a b c x y = record { first = a; second = b; third = c; x = x; y = y }

-- what an action names beside its site
abbrev pub rest_of : Action → Rest
rest_of (actions.Pack t o) = named t 0 0 o None
rest_of (actions.Claim o) = named 0 0 0 o None
rest_of (actions.Owed o) = named o 0 0 None None
rest_of (actions.DropSlot b k o) = named b k o None None
rest_of (actions.Note a) = named a 0 0 None None
rest_of (actions.Call h i info) = named h 0 0 i info
rest_of (actions.Spend i) = named i 0 0 None None
rest_of (actions.Ran m) = named m 0 0 None None
rest_of (actions.Tick n) = named n 0 0 None None
rest_of _ = named 0 0 0 None None

-- the first of two that may be none
abbrev pub site_or : Option Site → (ℕ → ℕ → List (Option ℕ) → Action) → Action
site_or None make = actions.Stall
site_or (Some s) make = make s.block s.number s.used

-- the action of a number, a site and what else is named
abbrev pub built : ℕ → Option Site → Rest → Action
built k s r =
    if k == 0 then site_or s actions.MakeString else (
    if k == 1 then site_or s actions.MakeMstring else (
    if k == 2 then site_or s actions.MakeData else (
    if k == 3 then site_or s actions.MakeMdata else (
    if k == 4 then site_or s actions.MakeNumber else (
    if k == 5 then site_or s actions.New else (
    if k == 6 then site_or s actions.MakeArray else (
    if k == 7 then site_or s actions.MakeDict else (
    if k == 8 then site_or s actions.MakeSet else (
    if k == 9 then site_or s actions.MakeBag else (
    if k == 10 then site_or s actions.MakeHeap else (
    if k == 11 then site_or s actions.MakeSource else (
    if k == 12 then site_or s actions.MakeTimer else (
    if k == 13 then site_or s actions.MakeObserver else (
    if k == 14 then site_or s actions.Retain else (
    if k == 15 then site_or s actions.Release else (
    if k == 16 then site_or s actions.Show else (
    if k == 17 then site_or s actions.StrAppend else (
    if k == 18 then site_or s actions.StrInsert else (
    if k == 19 then site_or s actions.StrDelete else (
    if k == 20 then site_or s actions.StrReplace else (
    if k == 21 then site_or s actions.StrSub else (
    if k == 22 then site_or s actions.DataAppend else (
    if k == 23 then site_or s actions.DataReplace else (
    if k == 24 then site_or s actions.DataDelete else (
    if k == 25 then site_or s actions.NumAs else (
    if k == 26 then site_or s actions.ArrAppend else (
    if k == 27 then site_or s actions.ArrInsert else (
    if k == 28 then site_or s actions.ArrSet else (
    if k == 29 then site_or s actions.ArrRemove else (
    if k == 30 then site_or s actions.ArrTake else (
    if k == 31 then site_or s actions.DictAdd else (
    if k == 32 then site_or s actions.DictSet else (
    if k == 33 then site_or s actions.DictReplace else (
    if k == 34 then site_or s actions.DictRemove else (
    if k == 35 then site_or s actions.DictTake else (
    if k == 36 then site_or s actions.SetAdd else (
    if k == 37 then site_or s actions.SetSet else (
    if k == 38 then site_or s actions.SetReplace else (
    if k == 39 then site_or s actions.SetRemove else (
    if k == 40 then site_or s actions.SetCount else (
    if k == 41 then site_or s actions.SetTake else (
    if k == 42 then site_or s actions.HeapAdd else (
    if k == 43 then site_or s actions.HeapTake else (
    if k == 44 then site_or s actions.HeapRemove else (
    if k == 45 then site_or s actions.FieldSet else (
    if k == 46 then site_or s actions.FieldClear else (
    if k == 47 then site_or s actions.FieldTake else (
    if k == 48 then site_or s actions.Add else (
    if k == 49 then site_or s actions.Drop else (
    if k == 50 then site_or s actions.Common else (
    if k == 51 then site_or s actions.Signal else (
    if k == 52 then site_or s actions.Invalidate else (
    if k == 53 then site_or s actions.Wake else (
    if k == 54 then site_or s actions.Stop else (
    if k == 55 then site_or s actions.Run else (
    if k == 56 then site_or s actions.Observe else (
    if k == 57 then site_or s actions.Forget else (
    if k == 58 then site_or s actions.Post else (
    if k == 59 then actions.Pack r.first r.x else (
    if k == 60 then actions.Claim r.x else (
    if k == 61 then actions.Done else (
    if k == 62 then actions.Owed r.first else (
    if k == 63 then actions.DropSlot r.first r.second r.third else (
    if k == 64 then actions.Note r.first else (
    if k == 65 then actions.Sources else (
    if k == 66 then actions.Timers else (
    if k == 67 then actions.Call r.first r.x r.y else (
    if k == 68 then actions.Return else (
    if k == 69 then actions.Spend r.first else (
    if k == 70 then actions.Sleep else (
    if k == 71 then actions.Test else (
    if k == 72 then actions.Ran r.first else (
    if k == 73 then actions.Tick r.first else (
    actions.Stall))))))))))))))))))))))))))))))))))))))))))))))))))))))))))))))))))))))))))
