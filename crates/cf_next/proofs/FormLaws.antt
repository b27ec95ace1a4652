-- Each form of statement and its action agree on what its entry needs.
use Rattle.std.proofs.Common.{◌≡◌, ℕ, ◌<◌, ◌+◌, Bool, true, false, cond, List, [], ◌∷◌, length, Option, Some, None, refl, sym, ap, ◌∙◌, subst, arith}
use Rattle.std.proofs.lemmas.Option.{slice_get_within}
use Rattle.rl_turn.specs.declared.phases.Phase.{Phase}
use Rattle.rl_turn.specs.declared.phases.Phase.TheVariants as phases
use Rattle.cf_syntax.specs.declared.script.Script.{Script}
use Rattle.cf_syntax.specs.declared.statement.Statement.{Statement}
use Rattle.cf_syntax.specs.declared.statement.Statement.TheVariants as forms
use Rattle.cf_syntax.specs.BlockLines.{BlockLine, says}
use Rattle.cf_syntax.specs.Numbered.{IsNumbered}
use Rattle.cf_syntax.proofs.LengthLaws.{thread_lines_few, handler_lines_few}
use Rattle.cf_next.specs.Demands.{frame_lines}
use Rattle.cf_next.specs.declared.action.Action.{Action}
use Rattle.cf_next.specs.declared.step.Step.{Step}
use Rattle.cf_next.specs.declared.step.Step.TheVariants as steps
use Rattle.cf_next.specs.Actions.{Site, action_of, cut_of}
use Rattle.cf_next.specs.Advance.{is_post}
use Rattle.cf_next.specs.Advancing.{Fits, IsFrameFound}
use Rattle.cf_next.specs.Facts.{Facts}
use Rattle.cf_next.specs.Stands.{Kind, of_block, of_handler, of_run, Frame, Stand}
use Rattle.cf_next.specs.Next.{action_if, action_in, next, phase_action, top_frame}
use Rattle.cf_next.specs.Standing.{is_retain, posts}
use Rattle.cf_next.specs.Steps.{IsCutBy, IsFound, IsLine, IsStep, demand_of, is_retain_step, says_retain, step_posts}

-- whether it is a retain, whether it is a `post`, and that a retain takes no reference away
record Agree (a : Action) (retain post : Bool) : Type 0 where
  pub same_retains : is_retain a ≡ retain
  pub same_posts : posts a ≡ post
  pub cuts : cond retain (cut_of a ≡ None) (Unit {0})

form-agrees : (x : Statement) (s : Site) → Agree (action_of x s) (says_retain x) (is_post (says x))
form-agrees (forms.MakeString v text) s = record { same_retains = refl; same_posts = refl; cuts = tt }
form-agrees (forms.MakeMstring v text) s = record { same_retains = refl; same_posts = refl; cuts = tt }
form-agrees (forms.MakeData v bytes) s = record { same_retains = refl; same_posts = refl; cuts = tt }
form-agrees (forms.MakeMdata v bytes) s = record { same_retains = refl; same_posts = refl; cuts = tt }
form-agrees (forms.MakeNumber v number) s = record { same_retains = refl; same_posts = refl; cuts = tt }
form-agrees (forms.New v class key) s = record { same_retains = refl; same_posts = refl; cuts = tt }
form-agrees (forms.MakeArray v plain) s = record { same_retains = refl; same_posts = refl; cuts = tt }
form-agrees (forms.MakeDict v plain) s = record { same_retains = refl; same_posts = refl; cuts = tt }
form-agrees (forms.MakeSet v plain) s = record { same_retains = refl; same_posts = refl; cuts = tt }
form-agrees (forms.MakeBag v plain) s = record { same_retains = refl; same_posts = refl; cuts = tt }
form-agrees (forms.MakeHeap v plain) s = record { same_retains = refl; same_posts = refl; cuts = tt }
form-agrees (forms.MakeSource v order handler info) s = record { same_retains = refl; same_posts = refl; cuts = tt }
form-agrees (forms.MakeTimer v first interval handler info) s = record { same_retains = refl; same_posts = refl; cuts = tt }
form-agrees (forms.MakeObserver v mask repeats order handler info) s = record { same_retains = refl; same_posts = refl; cuts = tt }
form-agrees (forms.Retain v) s = record { same_retains = refl; same_posts = refl; cuts = refl }
form-agrees (forms.Release v) s = record { same_retains = refl; same_posts = refl; cuts = tt }
form-agrees (forms.Show v) s = record { same_retains = refl; same_posts = refl; cuts = tt }
form-agrees (forms.StrAppend v other) s = record { same_retains = refl; same_posts = refl; cuts = tt }
form-agrees (forms.StrInsert v at text) s = record { same_retains = refl; same_posts = refl; cuts = tt }
form-agrees (forms.StrDelete v at len) s = record { same_retains = refl; same_posts = refl; cuts = tt }
form-agrees (forms.StrReplace v at len text) s = record { same_retains = refl; same_posts = refl; cuts = tt }
form-agrees (forms.StrSub v text at len) s = record { same_retains = refl; same_posts = refl; cuts = tt }
form-agrees (forms.DataAppend v bytes) s = record { same_retains = refl; same_posts = refl; cuts = tt }
form-agrees (forms.DataReplace v at len bytes) s = record { same_retains = refl; same_posts = refl; cuts = tt }
form-agrees (forms.DataDelete v at len) s = record { same_retains = refl; same_posts = refl; cuts = tt }
form-agrees (forms.NumAs v kind) s = record { same_retains = refl; same_posts = refl; cuts = tt }
form-agrees (forms.ArrAppend v element) s = record { same_retains = refl; same_posts = refl; cuts = tt }
form-agrees (forms.ArrInsert v at element) s = record { same_retains = refl; same_posts = refl; cuts = tt }
form-agrees (forms.ArrSet v at element) s = record { same_retains = refl; same_posts = refl; cuts = tt }
form-agrees (forms.ArrRemove v at) s = record { same_retains = refl; same_posts = refl; cuts = tt }
form-agrees (forms.ArrTake v array at) s = record { same_retains = refl; same_posts = refl; cuts = tt }
form-agrees (forms.DictAdd v key value) s = record { same_retains = refl; same_posts = refl; cuts = tt }
form-agrees (forms.DictSet v key value) s = record { same_retains = refl; same_posts = refl; cuts = tt }
form-agrees (forms.DictReplace v key value) s = record { same_retains = refl; same_posts = refl; cuts = tt }
form-agrees (forms.DictRemove v key) s = record { same_retains = refl; same_posts = refl; cuts = tt }
form-agrees (forms.DictTake v dictionary key) s = record { same_retains = refl; same_posts = refl; cuts = tt }
form-agrees (forms.FieldSet v at element) s = record { same_retains = refl; same_posts = refl; cuts = tt }
form-agrees (forms.FieldClear v at) s = record { same_retains = refl; same_posts = refl; cuts = tt }
form-agrees (forms.FieldTake v instance at) s = record { same_retains = refl; same_posts = refl; cuts = tt }
form-agrees (forms.SetAdd v element) s = record { same_retains = refl; same_posts = refl; cuts = tt }
form-agrees (forms.SetSet v element) s = record { same_retains = refl; same_posts = refl; cuts = tt }
form-agrees (forms.SetReplace v element) s = record { same_retains = refl; same_posts = refl; cuts = tt }
form-agrees (forms.SetRemove v element) s = record { same_retains = refl; same_posts = refl; cuts = tt }
form-agrees (forms.SetCount v element) s = record { same_retains = refl; same_posts = refl; cuts = tt }
form-agrees (forms.SetTake v set element) s = record { same_retains = refl; same_posts = refl; cuts = tt }
form-agrees (forms.HeapAdd v element) s = record { same_retains = refl; same_posts = refl; cuts = tt }
form-agrees (forms.HeapTake v heap) s = record { same_retains = refl; same_posts = refl; cuts = tt }
form-agrees (forms.HeapRemove v) s = record { same_retains = refl; same_posts = refl; cuts = tt }
form-agrees (forms.Add item thread mode) s = record { same_retains = refl; same_posts = refl; cuts = tt }
form-agrees (forms.Drop item thread mode) s = record { same_retains = refl; same_posts = refl; cuts = tt }
form-agrees (forms.Common thread mode) s = record { same_retains = refl; same_posts = refl; cuts = tt }
form-agrees (forms.Signal source) s = record { same_retains = refl; same_posts = refl; cuts = tt }
form-agrees (forms.Invalidate item) s = record { same_retains = refl; same_posts = refl; cuts = tt }
form-agrees (forms.Wake thread) s = record { same_retains = refl; same_posts = refl; cuts = tt }
form-agrees (forms.Stop thread) s = record { same_retains = refl; same_posts = refl; cuts = tt }
form-agrees (forms.Run mode limit once) s = record { same_retains = refl; same_posts = refl; cuts = tt }
form-agrees (forms.Observe observer handler name filter) s = record { same_retains = refl; same_posts = refl; cuts = tt }
form-agrees (forms.Forget observer name filter) s = record { same_retains = refl; same_posts = refl; cuts = tt }
form-agrees (forms.Post name info) s = record { same_retains = refl; same_posts = refl; cuts = tt }

phase-agrees : (p : Phase) → Agree (phase_action p) false false
phase-agrees (phases.Note a) = record { same_retains = refl; same_posts = refl; cuts = tt }
phase-agrees phases.Sources = record { same_retains = refl; same_posts = refl; cuts = tt }
phase-agrees phases.Timers = record { same_retains = refl; same_posts = refl; cuts = tt }
phase-agrees phases.Sleep = record { same_retains = refl; same_posts = refl; cuts = tt }
phase-agrees phases.Test = record { same_retains = refl; same_posts = refl; cuts = tt }
phase-agrees phases.Ran = record { same_retains = refl; same_posts = refl; cuts = tt }

step-agrees : (s : Script) (facts : Facts) (t : ℕ) (fs : List Frame) (x : Step)
    → Agree (action_in s facts t fs (demand_of x)) (is_retain_step x) (step_posts x)
step-agrees s facts t fs steps.Begins = record { same_retains = refl; same_posts = refl; cuts = tt }
step-agrees s facts t fs (steps.Claims k v) = record { same_retains = refl; same_posts = refl; cuts = tt }
step-agrees s facts t fs (steps.Says x used n) = form-agrees x.now _
step-agrees s facts t fs (steps.Packs u k v) = record { same_retains = refl; same_posts = refl; cuts = tt }
step-agrees s facts t fs steps.Ends = record { same_retains = refl; same_posts = refl; cuts = tt }
step-agrees s facts t fs steps.Returns = record { same_retains = refl; same_posts = refl; cuts = tt }
step-agrees s facts t fs (steps.Owes o left) = record { same_retains = refl; same_posts = refl; cuts = tt }
step-agrees s facts t fs (steps.Spends i left) = record { same_retains = refl; same_posts = refl; cuts = tt }
step-agrees s facts t fs (steps.Drops b k o left) = record { same_retains = refl; same_posts = refl; cuts = tt }
step-agrees s facts t fs (steps.Calls k h info left) = record { same_retains = refl; same_posts = refl; cuts = tt }
step-agrees s facts t fs (steps.Enters p) = phase-agrees p
step-agrees s facts t fs steps.Closes = record { same_retains = refl; same_posts = refl; cuts = tt }

-- the next action is that of the step
abbrev got : Action → Option Action → Action
got d None = d
got d (Some a) = a

some-is : (a b : Action) → Some a ≡ Some b → a ≡ b
some-is a b h = ap (got a) h

cut-by : (retain : Bool) (cut other : Option ℕ) → cond retain (cut ≡ None) (Unit {0}) → (retain ≡ false → cut ≡ other)
    → cond retain (other ≡ None) (Unit {0}) → cut ≡ other
cut-by true cut other h k g = h ∙ sym g
cut-by false cut other h k g = k refl

module _ (s : Script) (facts : Facts) (t : ℕ) (stand : Stand) (a : Action) (x : Step) (is : IsStep s facts t stand x) (e : next s facts t stand ≡ Some a) where
  action-is : action_in s facts t stand.frames (demand_of x) ≡ a
  action-is = some-is _ a (sym (ap (action_if s facts t stand.frames) is.demand) ∙ e)

  agrees : Agree a (is_retain_step x) (step_posts x)
  agrees = subst (λ (b : Action). Agree b (is_retain_step x) (step_posts x)) action-is (step-agrees s facts t stand.frames x)

  pub retain-same : is_retain a ≡ is_retain_step x
  retain-same = agrees.same_retains

  pub post-same : posts a ≡ step_posts x
  post-same = agrees.same_posts

  pub cut-same : (cut : Option ℕ) → IsCutBy x cut → (is_retain_step x ≡ false → cut ≡ cut_of a) → cut ≡ cut_of a
  cut-same cut h k = cut-by (is_retain_step x) cut (cut_of a) h k agrees.cuts

-- ---- what fits

pub lines-few : (s : Script) → IsNumbered s → (k : Kind) (b : ℕ) → length (frame_lines s k b) < 4294967296
lines-few s n of_block b = thread_lines_few s b n
lines-few s n (of_handler k) b = handler_lines_few s b n
lines-few s n (of_run r) b = omega arith

line-fits : (s : Script) (numbered : IsNumbered s) (x : BlockLine) (fs : List Frame) → IsLine s x fs
    → (top_frame fs).number + 1 < 4294967296
line-fits s numbered x [] h = absurd h
line-fits s numbered x (f ∷ fs) h = omega (arith, slice_get_within _ f.number x h, lines-few s numbered f.kind f.block)

pub step-fits : (s : Script) (facts : Facts) (t : ℕ) (stand : Stand) (x : Step) → IsStep s facts t stand x
    → IsNumbered s → Fits x (top_frame stand.frames).number
step-fits s facts t stand steps.Begins h n = record { line = line-fits s n _ stand.frames h.line; place = tt }
step-fits s facts t stand (steps.Claims k v) h n = record { line = line-fits s n _ stand.frames h.line; place = tt }
step-fits s facts t stand (steps.Says x used k) h n = record { line = line-fits s n _ stand.frames h.line.0; place = tt }
step-fits s facts t stand (steps.Packs u k v) h n = record { line = line-fits s n _ stand.frames h.line; place = tt }
step-fits s facts t stand steps.Ends h n = record { line = tt; place = tt }
step-fits s facts t stand steps.Returns h n = record { line = tt; place = tt }
step-fits s facts t stand (steps.Owes o left) h n = record { line = tt; place = tt }
step-fits s facts t stand (steps.Spends i left) h n = record { line = tt; place = tt }
step-fits s facts t stand (steps.Drops b k o left) h n = record { line = tt; place = h.slot.1 }
step-fits s facts t stand (steps.Calls c k info left) h n = record { line = tt; place = tt }
step-fits s facts t stand (steps.Enters ph) h n = record { line = tt; place = tt }
step-fits s facts t stand steps.Closes h n = record { line = tt; place = tt }

-- ---- what was found

pub frame-found : (facts : Facts) (t : ℕ) (stand : Stand) (x : Step) → IsFound facts t stand x
    → IsFrameFound facts t stand.frames x
frame-found facts t stand steps.Begins h = tt
frame-found facts t stand (steps.Claims k v) h = tt
frame-found facts t stand (steps.Says x used n) h = tt
frame-found facts t stand (steps.Packs u k v) h = tt
frame-found facts t stand steps.Ends h = tt
frame-found facts t stand steps.Returns h = h
frame-found facts t stand (steps.Owes o left) h = tt
frame-found facts t stand (steps.Spends i left) h = tt
frame-found facts t stand (steps.Drops b k o left) h = tt
frame-found facts t stand (steps.Calls c k info left) h = h
frame-found facts t stand (steps.Enters p) h = tt
frame-found facts t stand steps.Closes h = h
