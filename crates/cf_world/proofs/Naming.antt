-- What a thread says names threads and modes of its script.
use Rattle.std.proofs.Common.{◌≡◌, ℕ, List, Some}
use Rattle.std.specs.Prelude.{slice_get}
use Rattle.cf_syntax.specs.declared.script.Script.{Script}
use Rattle.cf_syntax.specs.declared.statement.Statement.{Statement}
use Rattle.cf_syntax.specs.Numbered.{IsNumbered, NamesOwn}
use Rattle.cf_syntax.specs.BlockLines.{begins, claims, says, packs}
use Rattle.cf_syntax.proofs.NamedLines.{handler_names_own, thread_names_own}
use Rattle.cf_next.specs.Facts.{Facts}
use Rattle.cf_next.specs.Stands.{Work, Frame, Kind, of_block, of_handler, of_run}
use Rattle.cf_next.specs.Demands.{Demand, does, frame_lines}
use Rattle.cf_model.specs.State.{State, stand_at}
use Rattle.cf_model.specs.Known.{facts_of}
use Rattle.cf_model.specs.Steps.{demanded}
use Rattle.cf_model.proofs.Views.{FrameView, StandView, WorkView, first_drops, first_owes, first_spends, is_call, is_close, is_end, is_line, is_phase, is_return, of_frame, of_work, stand_view}

line_names : (s : Script) (k : Kind) (b n : ℕ) (x : Statement) → IsNumbered s
    → slice_get (frame_lines s k b) n ≡ Some (says x) → NamesOwn s x
line_names s of_block b n x numbered e = thread_names_own s b n x numbered e
line_names s (of_handler k) h n x numbered e = handler_names_own s h n x numbered e
line_names s (of_run r) b n x numbered e = absurd cc

module _ (s : Script) (st : State) (t : ℕ) (numbered : IsNumbered s) where
  abbrev Names : Demand → Type 0
  Names (does (says x)) = NamesOwn s x
  Names _ = Unit {0}

  by_frame : (f : Frame) (d : Demand) → FrameView s (facts_of st) t f d → Names d
  by_frame f _ (is_line (says x) at) = line_names s f.kind f.block f.number x numbered at
  by_frame f _ (is_line (begins v) at) = tt
  by_frame f _ (is_line (claims k v) at) = tt
  by_frame f _ (is_line (packs u k v) at) = tt
  by_frame f _ (is_call k called found) = tt
  by_frame f _ (is_end k) = tt
  by_frame f _ (is_return k q end) = tt
  by_frame f _ (is_phase r p q) = tt
  by_frame f _ (is_close r q) = tt

  by_work : (facts : Facts) (work : List Work) (d : Demand) → WorkView facts work d → Names d
  by_work facts work _ (first_owes p first) = tt
  by_work facts work _ (first_spends i first) = tt
  by_work facts work _ (first_drops b k p left first) = tt

  by_stand : (d : Demand) → StandView s (facts_of st) t (stand_at t st.stands) d → Names d
  by_stand d (of_work w view) = by_work (facts_of st) (stand_at t st.stands).work d view
  by_stand d (of_frame f fs w q view) = by_frame f d view

  pub said_names : (x : Statement) → demanded s st t ≡ Some (does (says x)) → NamesOwn s x
  said_names x e = by_stand (does (says x)) (stand_view s (facts_of st) t (stand_at t st.stands) (does (says x)) e)
