-- Answers to the goals of `ground::Ground::enter_deal`.
use Rattle.std.proofs.Common.{ℕ, ◌∙◌, ◌++◌, List, length, replicate, vec_capacity, refl, sym, ap, subst, arith}
use Rattle.std.specs.Prelude.{IfSome}
use Rattle.cf_syntax.specs.declared.script.Script.{Script}
use Rattle.cf_syntax.specs.declared.statement.Statement.{Statement}
use Rattle.cf_model.specs.Journals.{After}
use Rattle.cf_scene.specs.Needs.{MovesAtMost}
use Rattle.cf_world.specs.Grounds.{GroundView, state_of, statement_at, view_of}
use Rattle.cf_world.specs.Entering.{IsDealing, used_in}
use Rattle.cf_world.proofs.Apart.{if_there, is_there}
use Rattle.cf_world.proofs.Counting.{entered_ground, entered_view}
use Rattle.cf_world.proofs.Dealing.{came_fits, flags_there, gains_fit, gains_told, is_dealt, lists_told, mode_there, named_there, statement_enters, went_fits}
use Rattle.cf_world.proofs.ground.Ground.enter_deal.Goals as goal

pub gain_common-requires-clause-room : goal.gain_common-requires-clause-room
gain_common-requires-clause-room c =
    let g = c.self.inside in
    let inv = c.self.invariant in
    let s = c.args.said.now in
    let t = s.acting.thread in
    let x = c.in-Some.statement.now in
    let st = After g.script g.journal.items in
    let there = c.in-Some.ensures ∙ ap (λ (script : Script). statement_at script s.block s.number) c.script.ensures.value in
    let acts = rw (← c.self.view_is) at c.requires.acts in
    let dealing = is_there _ x (IsDealing (view_of g) t s.acting.object s.acting.runs) there (rw (← c.self.view_is) at c.requires.deals) in
    let most = if_there _ x (λ (y : Statement). MovesAtMost g.script t st y (used_in (view_of g) t y) (vec_capacity c.args.gained.now)) there
    (subst (λ (v : GroundView). IfSome (statement_at v.script s.block s.number) (λ y. MovesAtMost v.script t (state_of v) y (used_in v t y) (vec_capacity c.args.gained.now))) (sym c.self.view_is) c.requires.most) in
    gains_fit g t inv s.acting.object s.acting.runs x dealing acts.thread (vec_capacity c.args.gained.now) most

pub deal-answer-requires-clause-flags : goal.deal-answer-requires-clause-flags
deal-answer-requires-clause-flags c =
    let g = c.self.inside in
    let inv = c.self.invariant in
    let s = c.args.said.now in
    let t = s.acting.thread in
    let x = c.in-Some.statement.now in
    let st = After g.script g.journal.items in
    let there = c.in-Some.ensures ∙ ap (λ (script : Script). statement_at script s.block s.number) c.script.ensures.value in
    let acts = rw (← c.self.view_is) at c.requires.acts in
    let dealing = is_there _ x (IsDealing (view_of g) t s.acting.object s.acting.runs) there (rw (← c.self.view_is) at c.requires.deals) in
    flags_there g t inv s.acting.object s.acting.runs x dealing acts.thread

pub deal-answer-requires-clause-named : goal.deal-answer-requires-clause-named
deal-answer-requires-clause-named c =
    let g = c.self.inside in
    let inv = c.self.invariant in
    let s = c.args.said.now in
    let t = s.acting.thread in
    let x = c.in-Some.statement.now in
    let st = After g.script g.journal.items in
    let there = c.in-Some.ensures ∙ ap (λ (script : Script). statement_at script s.block s.number) c.script.ensures.value in
    let acts = rw (← c.self.view_is) at c.requires.acts in
    let dealing = is_there _ x (IsDealing (view_of g) t s.acting.object s.acting.runs) there (rw (← c.self.view_is) at c.requires.deals) in
    named_there g t inv s.acting.object s.acting.runs x dealing acts.thread

pub push_gains-requires : goal.push_gains-requires
push_gains-requires c =
    let g = c.self.inside in
    let inv = c.self.invariant in
    let s = c.args.said.now in
    let t = s.acting.thread in
    let x = c.in-Some.statement.now in
    let st = After g.script g.journal.items in
    let there = c.in-Some.ensures ∙ ap (λ (script : Script). statement_at script s.block s.number) c.script.ensures.value in
    let acts = rw (← c.self.view_is) at c.requires.acts in
    let dealing = is_there _ x (IsDealing (view_of g) t s.acting.object s.acting.runs) there (rw (← c.self.view_is) at c.requires.deals) in
    let most = if_there _ x (λ (y : Statement). MovesAtMost g.script t st y (used_in (view_of g) t y) (vec_capacity c.args.gained.now)) there
    (subst (λ (v : GroundView). IfSome (statement_at v.script s.block s.number) (λ y. MovesAtMost v.script t (state_of v) y (used_in v t y) (vec_capacity c.args.gained.now))) (sym c.self.view_is) c.requires.most) in
    let dealt = is_dealt g t inv s.acting.object s.acting.runs x dealing acts.thread c.deal-answer.result c.deal-answer.new.store.bodies c.deal-answer.new.loops c.deal-answer.new.flags.items c.deal-answer.ensures in
    let gains = c.gain_common.ensures.gains g.script st inv.follows.has_loops.loops_are (mode_there g t inv s.acting.object s.acting.runs x dealing acts.thread) in
    record { room = omega (arith, ap length gains, c.gain_common.ensures.room, came_fits g t inv s.acting.object s.acting.runs x dealing acts.thread c.deal-answer.result c.deal-answer.new.store.bodies c.deal-answer.new.loops c.deal-answer.new.flags.items dealt (vec_capacity c.args.gained.now) most) }

pub push_copies-requires-clause-room : goal.push_copies-requires-clause-room
push_copies-requires-clause-room c =
    let g = c.self.inside in
    let inv = c.self.invariant in
    let s = c.args.said.now in
    let t = s.acting.thread in
    let x = c.in-Some.statement.now in
    let st = After g.script g.journal.items in
    let there = c.in-Some.ensures ∙ ap (λ (script : Script). statement_at script s.block s.number) c.script.ensures.value in
    let acts = rw (← c.self.view_is) at c.requires.acts in
    let dealing = is_there _ x (IsDealing (view_of g) t s.acting.object s.acting.runs) there (rw (← c.self.view_is) at c.requires.deals) in
    let most = if_there _ x (λ (y : Statement). MovesAtMost g.script t st y (used_in (view_of g) t y) (vec_capacity c.args.list.now)) there
    (subst (λ (v : GroundView). IfSome (statement_at v.script s.block s.number) (λ y. MovesAtMost v.script t (state_of v) y (used_in v t y) (vec_capacity c.args.list.now))) (sym c.self.view_is) c.requires.most_left) in
    let dealt = is_dealt g t inv s.acting.object s.acting.runs x dealing acts.thread c.deal-answer.result c.deal-answer.new.store.bodies c.deal-answer.new.loops c.deal-answer.new.flags.items c.deal-answer.ensures in
    went_fits g t inv s.acting.object s.acting.runs x dealing acts.thread c.deal-answer.result c.deal-answer.new.store.bodies c.deal-answer.new.loops c.deal-answer.new.flags.items dealt (vec_capacity c.args.list.now) most

pub invariant_of-self : goal.invariant_of-self
invariant_of-self c =
    let g = c.self.inside in
    let inv = c.self.invariant in
    let s = c.args.said.now in
    let t = s.acting.thread in
    let x = c.in-Some.statement.now in
    let st = After g.script g.journal.items in
    let there = c.in-Some.ensures ∙ ap (λ (script : Script). statement_at script s.block s.number) c.script.ensures.value in
    let acts = rw (← c.self.view_is) at c.requires.acts in
    let dealing = is_there _ x (IsDealing (view_of g) t s.acting.object s.acting.runs) there (rw (← c.self.view_is) at c.requires.deals) in
    let dealt = is_dealt g t inv s.acting.object s.acting.runs x dealing acts.thread c.deal-answer.result c.deal-answer.new.store.bodies c.deal-answer.new.loops c.deal-answer.new.flags.items c.deal-answer.ensures in
    entered_ground g t s.action inv acts _ _ _ (statement_enters g t inv s.acting.object s.acting.runs x dealing acts.thread c.deal-answer.result c.deal-answer.new.store.bodies c.deal-answer.new.loops c.deal-answer.new.flags.items dealt) c.deal-answer.result.answer dealt.answer refl c.write.ensures.items

pub returns-clause-entered : goal.returns-clause-entered
returns-clause-entered c =
    let g = c.self.inside in
    let inv = c.self.invariant in
    let s = c.args.said.now in
    let t = s.acting.thread in
    let x = c.in-Some.statement.now in
    let st = After g.script g.journal.items in
    let there = c.in-Some.ensures ∙ ap (λ (script : Script). statement_at script s.block s.number) c.script.ensures.value in
    let acts = rw (← c.self.view_is) at c.requires.acts in
    let dealing = is_there _ x (IsDealing (view_of g) t s.acting.object s.acting.runs) there (rw (← c.self.view_is) at c.requires.deals) in
    let dealt = is_dealt g t inv s.acting.object s.acting.runs x dealing acts.thread c.deal-answer.result c.deal-answer.new.store.bodies c.deal-answer.new.loops c.deal-answer.new.flags.items c.deal-answer.ensures in
    rw (← c.self.view_is) (entered_view g t s.action inv acts _ _
    (record { script = g.script; journal = c.write.new.journal; store = c.deal-answer.new.store; parcels = g.parcels; flags = c.deal-answer.new.flags; time = g.time; loops = c.deal-answer.new.loops })
    (statement_enters g t inv s.acting.object s.acting.runs x dealing acts.thread c.deal-answer.result c.deal-answer.new.store.bodies c.deal-answer.new.loops c.deal-answer.new.flags.items dealt) c.deal-answer.result.answer dealt.answer refl c.write.ensures.items c.write.ensures.room)

pub returns-clause-gained : goal.returns-clause-gained
returns-clause-gained c =
    let g = c.self.inside in
    let inv = c.self.invariant in
    let s = c.args.said.now in
    let t = s.acting.thread in
    let x = c.in-Some.statement.now in
    let st = After g.script g.journal.items in
    let there = c.in-Some.ensures ∙ ap (λ (script : Script). statement_at script s.block s.number) c.script.ensures.value in
    let acts = rw (← c.self.view_is) at c.requires.acts in
    let dealing = is_there _ x (IsDealing (view_of g) t s.acting.object s.acting.runs) there (rw (← c.self.view_is) at c.requires.deals) in
    let dealt = is_dealt g t inv s.acting.object s.acting.runs x dealing acts.thread c.deal-answer.result c.deal-answer.new.store.bodies c.deal-answer.new.loops c.deal-answer.new.flags.items c.deal-answer.ensures in
    let gains = c.gain_common.ensures.gains g.script st inv.follows.has_loops.loops_are (mode_there g t inv s.acting.object s.acting.runs x dealing acts.thread) in
    rw (← c.self.view_is) (c.push_gains.ensures.items ∙ ap (λ (os : List ℕ). os ++ replicate c.deal-answer.result.came c.deal-answer.result.item) gains ∙ gains_told g t inv s.acting.object s.acting.runs x dealing acts.thread c.deal-answer.result c.deal-answer.new.store.bodies c.deal-answer.new.loops c.deal-answer.new.flags.items dealt)

pub returns-clause-list : goal.returns-clause-list
returns-clause-list c =
    let g = c.self.inside in
    let inv = c.self.invariant in
    let s = c.args.said.now in
    let t = s.acting.thread in
    let x = c.in-Some.statement.now in
    let st = After g.script g.journal.items in
    let there = c.in-Some.ensures ∙ ap (λ (script : Script). statement_at script s.block s.number) c.script.ensures.value in
    let acts = rw (← c.self.view_is) at c.requires.acts in
    let dealing = is_there _ x (IsDealing (view_of g) t s.acting.object s.acting.runs) there (rw (← c.self.view_is) at c.requires.deals) in
    let dealt = is_dealt g t inv s.acting.object s.acting.runs x dealing acts.thread c.deal-answer.result c.deal-answer.new.store.bodies c.deal-answer.new.loops c.deal-answer.new.flags.items c.deal-answer.ensures in
    rw (← c.self.view_is) (c.push_copies.ensures.items ∙ lists_told g t inv s.acting.object s.acting.runs x dealing acts.thread c.deal-answer.result c.deal-answer.new.store.bodies c.deal-answer.new.loops c.deal-answer.new.flags.items dealt)
