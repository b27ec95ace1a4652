-- The scene of a run, as its state has it: the bodies of its objects, the loops of its threads, and their flags. This
-- project's own.
use Rattle.std.specs.Prelude.{◌≡◌, ℕ, nat_lt, ◌&&◌, ◌==◌, List, length, map}
use Rattle.rl_modes.specs.Loops.{Loop}
use Rattle.cf_syntax.specs.declared.script.Script.{Script}
use Rattle.cf_contents.specs.Contents.{times}
use Rattle.cf_contents.specs.Stores.{Held, objects_of, is_live_in, given_up_in}
use Rattle.cf_model.specs.State as states
use Rattle.cf_model.specs.State.{State, Parts, Sleeping, awake, until}
use Rattle.cf_loops.specs.Following.{AreLoops}
use Rattle.cf_scene.specs.declared.flags.Sleep.{Sleep}
use Rattle.cf_scene.specs.declared.flags.Sleep.TheVariants as sleeps
use Rattle.cf_scene.specs.declared.flags.Flags.{Flags}

-- the bodies have the objects, know which are finalised, and how many slots each has given up
pub record Mirrors (p : Parts) (bodies : List Held) : Type 0 where
  pub objects_are : objects_of bodies ≡ p.objects
  pub live : (o : ℕ) → is_live_in bodies o ≡ (nat_lt o (length p.objects) && (times o p.finalised == 0))
  pub given_up : (o : ℕ) → given_up_in bodies o ≡ times o p.dropped

-- the flags of a thread as the definitions have them
abbrev pub sleeping_of : Sleep → Sleeping
sleeping_of sleeps.Awake = awake
sleeping_of (sleeps.Until date) = until date

abbrev pub flags_of : Flags → states.Flags
flags_of f = record { is_started = f.is_started; sleep = sleeping_of f.sleep; is_woken = f.is_woken }

-- the flags of all threads
abbrev pub all_flags : List Flags → List states.Flags
all_flags flags = map flags_of flags

-- what is so of every state that these bodies and loops are those of
abbrev pub InScenes : List Held → List Loop → (Script → State → Type 0) → Type 0
InScenes bodies loops P =
    (s : Script) (st : State) → Mirrors st.parts bodies → AreLoops s st.parts st.edges loops → P s st
