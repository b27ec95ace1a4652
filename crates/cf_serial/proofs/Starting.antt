-- A run at its start.
use Rattle.std.proofs.Common.{◌≡◌, ℕ, ◌≤◌, false, [], length, Some, None, refl, sym, ap, subst, arith}
use Rattle.cf_ids.specs.declared.limits.TheConstants.{MODES, THREADS}
use Rattle.cf_syntax.specs.declared.script.Script.{Script}
use Rattle.cf_syntax.specs.Owned.{Owned}
use Rattle.cf_world.specs.Worlds.{WorldView}
use Rattle.cf_serial.specs.declared.run.Run.{Run}
use Rattle.cf_serial.specs.Numbers.{NumbersView}
use Rattle.cf_serial.specs.Running.{IsRun}

abbrev begun_world : Script → ℕ → WorldView
begun_world s limit = record { script = Some s; limit = limit; journal = []; gained = []; room = None }

abbrev run_of : WorldView → ℕ → NumbersView → Run
run_of w threads n = record { world = w; threads = threads; pointer = 0; numbers = n; stalled = false }

started : (s : Script) (limit threads : ℕ) (n : NumbersView) → Owned s → limit ≤ 4000000
    → threads ≡ s.thread_count → threads ≤ THREADS → length s.modes ≤ MODES → n.items ≡ []
    → IsRun (run_of (begun_world s limit) threads n)
started s limit threads n owned most threads_are few few_modes none = record {
  script = s;
  begun = refl;
  owned = owned;
  most = most;
  within = omega arith;
  serial = record { legal = tt; order = tt };
  threads_are = threads_are;
  few_threads = few;
  stalled_is = refl;
  asleep = λ e. absurd cc;
  pointer_is = refl;
  numbers_are = record { size = ap length none; at = λ o h. absurd (omega (arith, h)) };
  few_modes = few_modes;
}

pub begun_run : (s : Script) (limit threads : ℕ) (n : NumbersView) (w : WorldView) → w ≡ begun_world s limit
    → Owned s → limit ≤ 4000000 → threads ≡ s.thread_count → threads ≤ THREADS → length s.modes ≤ MODES
    → n.items ≡ [] → IsRun (run_of w threads n)
begun_run s limit threads n w is owned most threads_are few few_modes none =
    subst (λ (v : WorldView). IsRun (run_of v threads n)) (sym is) (started s limit threads n owned most threads_are few few_modes none)
