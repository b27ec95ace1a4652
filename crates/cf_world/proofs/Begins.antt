-- A ground at the start of a script.
use Rattle.std.proofs.Common.{◌≡◌, ℕ, ◌<◌, ◌≤◌, Bool, true, false, ◌&&◌, ltb, List, [], length, None, refl, sym, ap, subst, arith}
use Rattle.std.proofs.lemmas.Bool.Decides.{nat_tests}
use Rattle.cf_ids.specs.declared.limits.TheConstants.{MODES}
use Rattle.cf_model.specs.declared.entry.Entry.{Entry}
use Rattle.cf_model.specs.State.{start}
use Rattle.cf_model.specs.Journals.{After, IsLegal}
use Rattle.cf_loops.specs.Following.{AreLoops}
use Rattle.cf_world.specs.declared.ground.Ground.TheInside.{Inside}
use Rattle.cf_world.specs.Grounds.{AreFirst, Mirrors, HasPlaces, Follows, MayRun, IsGround, parcel_at}

none_live : (o : ℕ) → false ≡ (ltb o 0 && true)
none_live o = let below : ltb o 0 ≡ false = grind (arith, nat_tests) in sym (ap (λ (b : Bool). b && true) below)

pub first_ground : (g : Inside) → MayRun g.script → g.journal.items ≡ [] → g.store.bodies ≡ []
    → HasPlaces g.script g.parcels → ((t k : ℕ) → parcel_at g.parcels t k ≡ None) → AreFirst g.script g.flags.items
    → g.time ≡ 0
    → ((0 < length g.script.modes) × (length g.script.modes ≤ MODES)
    → AreLoops g.script (start g.script).parts (start g.script).edges g.loops)
    → IsGround g
first_ground g run empty none places nothing flags time loops =
    let follows : Follows g.script (start g.script) g.store.bodies g.parcels g.flags.items g.time g.loops = record {
      mirrors = subst (Mirrors (start g.script).parts) (sym none) (record { objects_are = refl; live = λ o. none_live o; given_up = λ o. refl });
      parcels_are = record { has = places; at = nothing };
      flags_are = flags;
      time_is = time;
      has_loops = record { loops_are = loops (run.numbered.modes.some, run.numbered.modes.few); unregistered = refl };
    } in
    record {
      script = run;
      legal = subst (IsLegal g.script) (sym empty) tt;
      short = omega (arith, ap length empty);
      follows = subst (λ (es : List Entry). Follows g.script (After g.script es) g.store.bodies g.parcels g.flags.items g.time g.loops) (sym empty) follows;
    }
