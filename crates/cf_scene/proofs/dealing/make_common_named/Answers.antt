-- Answers to the goals of `dealing::make_common_named`.
use Rattle.std.proofs.Common.{sym}
use Rattle.cf_model.specs.Deals.{Deal, common_deal, thread_in}
use Rattle.cf_loops.specs.Following.{AfterDeal}
use Rattle.cf_scene.proofs.Naming.{a_thread}
use Rattle.cf_scene.proofs.Settling.{thread_there}
use Rattle.cf_scene.proofs.dealing.make_common_named.Goals as goal

pub returns-in-Some-clause-loops : goal.returns-in-Some-clause-loops
returns-in-Some-clause-loops c = λ s st loops by mode.
    let u = thread_in c.args.acting.now.thread c.args.thread.now in
    let w = c.in-Some.thread in
    let is = sym c.in-Some.ensures in
    a_thread (λ (deal : Deal). AfterDeal s st by deal c.make_common.new.loops) st.parts u (λ v. common_deal st v c.args.m) w is
    (c.make_common.ensures s st loops by (thread_there s st.parts st.edges c.args.loops.now u w loops is c.requires.named) mode).loops_are
