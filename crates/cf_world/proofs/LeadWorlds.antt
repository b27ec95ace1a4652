-- A world whose script has begun is one again after an entry of the lead, and callers see the entry.
use Rattle.std.proofs.Common.{false, ◌≡◌, ◌+◌, ◌<◌, ◌∙◌, List, [], ◌∷◌, length, refl, sym, ap, subst, arith, length-append}
use Rattle.std.specs.Global.{Vec}
use Rattle.cf_syntax.specs.declared.script.Script.{Script}
use Rattle.cf_next.specs.declared.action.Action.{Action}
use Rattle.cf_next.specs.Stands.{Stand}
use Rattle.cf_next.specs.Standing.{Standing}
use Rattle.cf_world.specs.declared.begun.Begun.TheInside.{Inside}
use Rattle.cf_world.specs.Worlds.{led, IsLegalWorld}
use Rattle.cf_world.specs.Grounds.{state_of}
use Rattle.cf_world.specs.Begun.{StandSo, IsBegun, view_of}
use Rattle.cf_world.specs.Leads.{HasPlaceFor, HasLed, lead_entry}

pub has_place : (w : Inside) → IsBegun w → length w.ground.journal < w.limit → HasPlaceFor w.ground
has_place w inv below = record { room = omega (arith, inv.room, below); short = omega (arith, inv.most, below) }

module _ (w w' : Inside) (a : Action) (inv : IsBegun w) (h : HasLed a w.ground w'.ground) (frames : w'.frames ≡ w.frames) (limit : w'.limit ≡ w.limit) (gained : w'.gained ≡ w.gained) (list : w'.list ≡ w.list) (none : w'.has_room ≡ false) (below : length w.ground.journal < w.limit) where
  longer : length w'.ground.journal ≡ length w.ground.journal + 1
  longer = ap length h.journal ∙ length-append w.ground.journal (lead_entry a ∷ [])

  pub begun_led : IsBegun w'
  begun_led = record {
    frames =
        subst (λ (x : Script). StandSo x (state_of w'.ground).stands w'.frames.items) (sym h.script)
        (subst (λ (ss : List Stand). StandSo w.ground.script ss w'.frames.items) (sym h.stands)
        (subst (λ (fs : Vec Standing). StandSo w.ground.script (state_of w.ground).stands fs.items) (sym frames) inv.frames));
    within = omega (arith, longer, limit, below);
    most = omega (arith, limit, inv.most);
    room = omega (arith, longer, limit, inv.room, h.room);
    gained_room = rw gained inv.gained_room;
    list_room = rw list inv.list_room;
    reserved = rw none tt;
    lists = rw none tt;
  }

  pub led_is : view_of w' ≡ led a (view_of w)
  led_is = rw (h.script, h.journal, limit, gained, none) refl

  pub led_legal : IsLegalWorld (view_of w')
  led_legal = (h.owned, h.legal)
