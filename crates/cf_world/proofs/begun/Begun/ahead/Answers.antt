-- Answers to the goals of `begun::Begun::ahead`.
use Rattle.std.proofs.Common.{◌≡◌, ◌∙◌, ℕ, true, false, sym, subst, ap}
use Rattle.std.specs.Prelude.{slice_get}
use Rattle.cf_syntax.specs.declared.script.Script.{Script}
use Rattle.cf_next.specs.Ahead.{ahead}
use Rattle.cf_next.specs.Standing.{Standing}
use Rattle.cf_model.specs.State.{flags_at}
use Rattle.cf_model.specs.Journals.{is_asleep, sleeps}
use Rattle.cf_world.specs.Begun.{standing_at}
use Rattle.cf_world.specs.Grounds.{known, state_of}
use Rattle.cf_world.specs.Worlds.{IsThread, WorldView, retains_in}
use Rattle.cf_world.proofs.Looks.{ahead_goes}
use Rattle.cf_world.proofs.Moving.{lent_here, stand_here, within_frames}
use Rattle.cf_world.proofs.begun.Begun.ahead.Goals as goal

pub returns : goal.returns
returns c =
    let w = c.self.inside in
    let g = w.ground in
    let t = c.args.t in
    let k = c.args.k in
    let st = state_of g in
    let fs = w.frames.items in
    let so = c.self.invariant.frames in
    let within = subst (λ (v : WorldView). IsThread v t) (sym c.self.view_is) c.requires in
    let started : (flags_at t st.parts.flags).is_started ≡ true = ap (λ f. f.is_started) (sym c.flags-flags.ensures) ∙ c.if-not-flags.false in
    let awake : sleeps st t ≡ false = ap (λ f. is_asleep f.sleep) (sym c.flags-flags.ensures) ∙ sym c.is_asleep.ensures ∙ c.if-is_asleep.false in
    let lent = lent_here fs t c.t.inside.0 c.index.result.now _ c.index.ensures c.t.view_is (within_frames g.script st.stands fs t so within) in
    c.ahead.ensures
    ∙ ap (λ (s : Script). slice_get (ahead s (known g) c.index.result.now.thread c.index.result.now.stand) k) c.script.ensures.script
    ∙ ap (λ (f : Standing). slice_get (ahead g.script (known g) f.thread f.stand) k) lent
    ∙ ap (λ (u : ℕ). slice_get (ahead g.script (known g) u (standing_at fs t).stand) k) (so.thread t within)
    ∙ ap (λ stand. slice_get (ahead g.script (known g) t stand) k) (stand_here g.script st.stands fs t so)
    ∙ ap (λ os. slice_get os k) (ahead_goes g.script st t k started awake)
    ∙ ap (λ (v : WorldView). slice_get (retains_in v t) k) c.self.view_is
