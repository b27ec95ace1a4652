-- Answers to the goals of `classes::Classes::push`.
use Rattle.std.proofs.Common.{◌≡◌, List, [], ◌∷◌, ◌++◌, ap, ◌∙◌, arith, length-append}
use Rattle.cf_syntax.specs.declared.script.ClassLine.{ClassLine}
use Rattle.cf_script.specs.Views.{names_of}
use Rattle.cf_script.proofs.ClassLaws.{names_pushed}
use Rattle.cf_script.proofs.classes.Classes.push.Goals as goal

pub invariant_of-self-2 : goal.invariant_of-self-2
invariant_of-self-2 c =
    let lines : c.push_reserved.new.self.items ≡ c.args.self.now ++ c.args.class ∷ [] = c.push_reserved.ensures.items ∙ ap (λ (ls : List ClassLine). ls ++ c.args.class ∷ []) (c.reserve.ensures.items ∙ c.self.view_is) in
    let names = names_pushed c.self.inside.names.keys c.insert.new.self.keys c.args.self.now c.args.class c.in_ok-name.name (c.self.invariant.1 ∙ ap names_of c.self.view_is) c.requires.free (c.in_ok-name.ensures.items ∙ c.as_slice.ensures) c.in_ok-insert.ensures.keys in
    rw lines (omega (arith, length-append c.args.self.now (c.args.class ∷ []), c.requires.room), names)
