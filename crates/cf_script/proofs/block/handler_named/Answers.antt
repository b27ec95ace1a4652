-- Answers to the goals of `block::handler_named`.
use Rattle.std.proofs.Common.{◌≡◌, ℕ, ◌+◌, List, drop, Option, ap, sym, ◌∙◌}
use Rattle.std.specs.Option.{option_map}
use Rattle.std.specs.Prelude.{position}
use Rattle.std.specs.Str.{bytes_eq}
use Rattle.cf_syntax.specs.declared.script.Block.{Block}
use Rattle.cf_syntax.specs.declared.script.Handler.{Handler}
use Rattle.cf_syntax.specs.Text.{handler_named}
use Rattle.cf_script.proofs.NameLaws.{place_named}
use Rattle.cf_script.proofs.block.handler_named.Goals as goal

-- a handler by the place of its block
abbrev handler_at : (threads : ℕ) → List ℕ → Option ℕ → Handler
handler_at threads name place = record { name = name; block = option_map (λ i. threads + i) place }

place_is : (threads : ℕ) (blocks rest : List Block) (name word : List ℕ) (place : Option ℕ)
    → place ≡ position (λ b. bytes_eq word b.name) rest → word ≡ name → rest ≡ drop threads blocks
    → handler_at threads name place ≡ handler_named threads blocks name
place_is threads blocks rest name word place e f g =
    ap (handler_at threads name) (e ∙ rw (f, g) (sym (place_named (λ (b : Block). b.name) name (drop threads blocks))))

pub returns-in-None : goal.returns-in-None
returns-in-None c = place_is c.args.threads c.args.blocks.now c.after.result.now c.args.name c.as_slice.result.now _ c.in-None.ensures.place c.as_slice.ensures c.after.ensures

pub returns-in-Some : goal.returns-in-Some
returns-in-Some c = place_is c.args.threads c.args.blocks.now c.after.result.now c.args.name c.as_slice.result.now _ c.in-Some.ensures.place c.as_slice.ensures c.after.ensures
