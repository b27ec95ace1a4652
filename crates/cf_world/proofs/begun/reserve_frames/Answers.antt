-- Answers to the goals of `begun::reserve_frames`.
use Rattle.std.proofs.Common.{ℕ, set, sym, subst, ap, ◌∙◌}
use Rattle.std.specs.Prelude.{OnOk}
use Rattle.std.proofs.lemmas.List.{get_or-set_same}
use Rattle.cf_next.specs.Standing.{Standing, HasRoomFor, RoomStays}
use Rattle.cf_world.specs.Begun.{StandSo, nobody, standing_at}
use Rattle.cf_world.proofs.Moving.{lent_here}
use Rattle.cf_world.proofs.Rooming.{stand_stays, stays_all}
use Rattle.cf_world.proofs.begun.reserve_frames.Goals as goal

pub returns-clause-stands : goal.returns-clause-stands
returns-clause-stands c = λ s stands h.
    let fs = c.args.frames.now.items in
    let f = c.reserve_for.new.self in
    let lent = lent_here fs c.args.t c.t.inside.0 c.index_mut.result.now _ c.index_mut.ensures.value c.t.view_is c.requires in
    subst (λ (k : ℕ). StandSo s stands (set fs k f)) (sym c.t.view_is)
    (stand_stays s stands fs c.args.t f c.requires (c.reserve_for.ensures.thread ∙ ap (λ (g : Standing). g.thread) lent) (c.reserve_for.ensures.stand ∙ ap (λ (g : Standing). g.stand) lent) h)

pub returns-clause-room : goal.returns-clause-room
returns-clause-room c =
    let fs = c.args.frames.now.items in
    let f = c.reserve_for.new.self in
    let a = c.args.action.now in
    subst (λ (k : ℕ). OnOk c.reserve_for.result (HasRoomFor a c.args.more (standing_at (set fs k f) c.args.t))) (sym c.t.view_is)
    (subst (λ (g : Standing). OnOk c.reserve_for.result (HasRoomFor a c.args.more g)) (sym (get_or-set_same fs c.args.t f nobody c.requires)) c.reserve_for.ensures.room)

pub returns-clause-kept : goal.returns-clause-kept
returns-clause-kept c = λ a n u h.
    let fs = c.args.frames.now.items in
    let f = c.reserve_for.new.self in
    let lent = lent_here fs c.args.t c.t.inside.0 c.index_mut.result.now _ c.index_mut.ensures.value c.t.view_is c.requires in
    subst (λ (k : ℕ). HasRoomFor a n (standing_at (set fs k f) u)) (sym c.t.view_is)
    (stays_all fs c.args.t f a n u c.requires (subst (λ (g : Standing). RoomStays g f) lent c.reserve_for.ensures.kept) h)
