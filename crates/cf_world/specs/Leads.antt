-- What the entries of the lead ask of the ground of a world, and what they leave. This project's own.
use Rattle.std.specs.Prelude.{◌≡◌, ◌+◌, ◌<◌, Bool, ◌||◌, [], ◌∷◌, ◌++◌, length}
use Rattle.cf_ids.specs.declared.answer.Answer.TheVariants as answers
use Rattle.cf_syntax.specs.Owned.{Owned}
use Rattle.cf_next.specs.declared.action.Action.{Action}
use Rattle.cf_model.specs.declared.entry.Entry.{Entry}
use Rattle.cf_model.specs.Journals.{IsLegal, all_done, has_stalled, lead, lead_next}
use Rattle.cf_world.specs.declared.next.LeadNext.{LeadNext}
use Rattle.cf_world.specs.Worlds.{lead_of}
use Rattle.cf_world.specs.Grounds.{GroundView, state_of}

-- what the lead does next on a ground
abbrev pub lead_on : GroundView → LeadNext
lead_on g = lead_of (lead_next g.script g.journal)

-- all threads are done, or the journal has a stall
abbrev pub is_over_on : GroundView → Bool
is_over_on g = all_done g.script (state_of g) || has_stalled g.journal

-- the entry of an action of the lead
abbrev pub lead_entry : Action → Entry
lead_entry a = record { thread = lead; action = a; answer = answers.Ok }

-- an entry of the lead has room
pub record HasPlaceFor (g : GroundView) : Type 0 where
  pub room : 0 < g.journal_room
  pub short : length g.journal < 4000000

-- a ground after an entry of the lead: no thread stands elsewhere
pub record HasLed (a : Action) (g g' : GroundView) : Type 0 where
  pub script : g'.script ≡ g.script
  pub journal : g'.journal ≡ g.journal ++ lead_entry a ∷ []
  pub room : g'.journal_room + 1 ≡ g.journal_room
  pub stands : (state_of g').stands ≡ (state_of g).stands
  pub legal : IsLegal g'.script g'.journal
  pub owned : Owned g'.script
