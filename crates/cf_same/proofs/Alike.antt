-- Actions with the same parts are the same.
use Rattle.std.proofs.Common.{◌≡◌, refl, sym, ap, ◌∙◌}
use Rattle.cf_next.specs.Actions.{site_of}
use Rattle.cf_next.specs.declared.action.Action.{Action}
use Rattle.cf_next.specs.declared.action.Action.TheVariants as actions
use Rattle.cf_same.specs.Alike.{built, number_of, rest_of}

-- an action is the one of its parts
rebuilt : (a : Action) → built (number_of a) (site_of a) (rest_of a) ≡ a
rebuilt (actions.MakeString b n u) = refl
rebuilt (actions.MakeMstring b n u) = refl
rebuilt (actions.MakeData b n u) = refl
rebuilt (actions.MakeMdata b n u) = refl
rebuilt (actions.MakeNumber b n u) = refl
rebuilt (actions.New b n u) = refl
rebuilt (actions.MakeArray b n u) = refl
rebuilt (actions.MakeDict b n u) = refl
rebuilt (actions.MakeSet b n u) = refl
rebuilt (actions.MakeBag b n u) = refl
rebuilt (actions.MakeHeap b n u) = refl
rebuilt (actions.MakeSource b n u) = refl
rebuilt (actions.MakeTimer b n u) = refl
rebuilt (actions.MakeObserver b n u) = refl
rebuilt (actions.Retain b n u) = refl
rebuilt (actions.Release b n u) = refl
rebuilt (actions.Show b n u) = refl
rebuilt (actions.StrAppend b n u) = refl
rebuilt (actions.StrInsert b n u) = refl
rebuilt (actions.StrDelete b n u) = refl
rebuilt (actions.StrReplace b n u) = refl
rebuilt (actions.StrSub b n u) = refl
rebuilt (actions.DataAppend b n u) = refl
rebuilt (actions.DataReplace b n u) = refl
rebuilt (actions.DataDelete b n u) = refl
rebuilt (actions.NumAs b n u) = refl
rebuilt (actions.ArrAppend b n u) = refl
rebuilt (actions.ArrInsert b n u) = refl
rebuilt (actions.ArrSet b n u) = refl
rebuilt (actions.ArrRemove b n u) = refl
rebuilt (actions.ArrTake b n u) = refl
rebuilt (actions.DictAdd b n u) = refl
rebuilt (actions.DictSet b n u) = refl
rebuilt (actions.DictReplace b n u) = refl
rebuilt (actions.DictRemove b n u) = refl
rebuilt (actions.DictTake b n u) = refl
rebuilt (actions.SetAdd b n u) = refl
rebuilt (actions.SetSet b n u) = refl
rebuilt (actions.SetReplace b n u) = refl
rebuilt (actions.SetRemove b n u) = refl
rebuilt (actions.SetCount b n u) = refl
rebuilt (actions.SetTake b n u) = refl
rebuilt (actions.HeapAdd b n u) = refl
rebuilt (actions.HeapTake b n u) = refl
rebuilt (actions.HeapRemove b n u) = refl
rebuilt (actions.FieldSet b n u) = refl
rebuilt (actions.FieldClear b n u) = refl
rebuilt (actions.FieldTake b n u) = refl
rebuilt (actions.Add b n u) = refl
rebuilt (actions.Drop b n u) = refl
rebuilt (actions.Common b n u) = refl
rebuilt (actions.Signal b n u) = refl
rebuilt (actions.Invalidate b n u) = refl
rebuilt (actions.Wake b n u) = refl
rebuilt (actions.Stop b n u) = refl
rebuilt (actions.Run b n u) = refl
rebuilt (actions.Observe b n u) = refl
rebuilt (actions.Forget b n u) = refl
rebuilt (actions.Post b n u) = refl
rebuilt (actions.Pack t o) = refl
rebuilt (actions.Claim o) = refl
rebuilt actions.Done = refl
rebuilt (actions.Owed o) = refl
rebuilt (actions.DropSlot b k o) = refl
rebuilt (actions.Note a) = refl
rebuilt actions.Sources = refl
rebuilt actions.Timers = refl
rebuilt (actions.Call h i info) = refl
rebuilt actions.Return = refl
rebuilt (actions.Spend i) = refl
rebuilt actions.Sleep = refl
rebuilt actions.Test = refl
rebuilt (actions.Ran m) = refl
rebuilt (actions.Tick n) = refl
rebuilt actions.Stall = refl

pub alike : (a b : Action) → number_of a ≡ number_of b → site_of a ≡ site_of b → rest_of a ≡ rest_of b → a ≡ b
alike a b same_number same_site same_rest =
    sym (rebuilt a) ∙ (λ i. built (same_number i) (same_site i) (same_rest i)) ∙ rebuilt b
