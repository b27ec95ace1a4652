-- Answers to the goals of `applying::say_on`.
use Rattle.std.proofs.Common.{◌≡◌, ◌∙◌, ℕ, ◌+◌, ◌<◌, length, get_or, set, Option, Some, None, sym, subst, ap}
use Rattle.cf_ids.specs.declared.answer.Answer.{Answer}
use Rattle.cf_syntax.specs.BlockLines.{says}
use Rattle.cf_next.specs.Advance.{advanced}
use Rattle.cf_next.specs.Demands.{does}
use Rattle.cf_next.specs.Standing.{Standing}
use Rattle.cf_next.specs.Next.{top_frame}
use Rattle.cf_next.specs.Steps.{SaysRoom}
use Rattle.std.specs.Option.{option_to_list}
use Rattle.cf_model.specs.State.{stand_at}
use Rattle.cf_world.specs.Begun.{HasMoved, nobody}
use Rattle.cf_world.proofs.Going.{last_is}
use Rattle.cf_world.proofs.Moving.{lent_here, moved_by, stand_here}
use Rattle.cf_world.proofs.applying.say_on.Goals as goal

pub say-requires-clause-number : goal.say-requires-clause-number
say-requires-clause-number c =
    subst (λ (f : Standing). (top_frame f.stand.frames).number + 1 < 4294967296)
    (sym (lent_here c.args.frames.now.items c.args.t c.t.inside.0 c.index_mut.result.now _ c.index_mut.ensures.value c.t.view_is c.requires.thread)) c.requires.number

pub say-requires-clause-room : goal.say-requires-clause-room
say-requires-clause-room c =
    subst (SaysRoom c.args.statement.now c.args.finalised (length c.args.list.now))
    (sym (lent_here c.args.frames.now.items c.args.t c.t.inside.0 c.index_mut.result.now _ c.index_mut.ensures.value c.t.view_is c.requires.thread)) c.requires.room

pub returns-in-Some : goal.returns-in-Some
returns-in-Some c = λ s stands facts answer so time last.
    let fs = c.args.frames.now.items in
    let t = c.args.t in
    let f = c.say.new.self in
    let demand = does (says c.args.statement.now) in
    let finals = option_to_list c.args.finalised in
    let list = c.args.list.now in
    let lent = lent_here fs t c.t.inside.0 c.index_mut.result.now _ c.index_mut.ensures.value c.t.view_is c.requires.thread in
    let told : ◌≡◌ {A = Option Answer} (Some c.in-Some.answer.now) (Some answer) = last_is c.args.ground.now.journal (Some c.in-Some.answer.now) (Some answer) c.in-Some.ensures last in
    let same : c.in-Some.answer.now ≡ answer = cc in
    subst (λ (k : ℕ). HasMoved s stands t (advanced facts t demand answer finals list (stand_at t stands)) (set fs k f)) (sym c.t.view_is)
    (moved_by s stands fs t f (advanced facts t demand answer finals list (stand_at t stands)) so c.requires.thread
    (c.say.ensures.thread ∙ ap (λ (g : Standing). g.thread) lent ∙ so.thread t (subst (λ (k : ℕ). t < k) so.count c.requires.thread))
    (c.say.ensures.stand facts (time ∙ sym c.time.ensures)
    ∙ ap (λ (g : Standing). advanced facts g.thread demand c.in-Some.answer.now finals list g.stand) lent
    ∙ ap (λ (k : ℕ). advanced facts k demand c.in-Some.answer.now finals list (get_or fs t nobody).stand) (so.thread t (subst (λ (k : ℕ). t < k) so.count c.requires.thread))
    ∙ ap (λ (a : Answer). advanced facts t demand a finals list (get_or fs t nobody).stand) same
    ∙ ap (advanced facts t demand answer finals list) (stand_here s stands fs t so)))

pub returns-in_default : goal.returns-in_default
returns-in_default c = λ s stands facts answer so time last.
    absurd (no_answer (last_is c.args.ground.now.journal None (Some answer) c.in_default.ensures last))
  where
    no_answer : {a : Answer} → ◌≡◌ {A = Option Answer} None (Some a) → ⊥
    no_answer e = cc
