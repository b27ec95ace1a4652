-- What setup packs for threads, block by block.
use Rattle.std.proofs.Common.{◌≡◌, ℕ, ◌+◌, ◌-◌, List, ◌∷◌, ◌++◌, length, Option, Some, None, sym, ap, ◌∙◌}
use Rattle.std.specs.Prelude.{slice_get}
use Rattle.cf_syntax.specs.declared.script.Given.{Given}
use Rattle.cf_syntax.specs.declared.script.Block.{Block}
use Rattle.cf_syntax.specs.BlockLines.{BlockLine, packs, packs_from, packs_for}
use Rattle.cf_next.proofs.LineLaws.{pack-first, pack-after}

module _ (t n : ℕ) (rest others : List Block) (b : Block) (us : List Given) (w : Option BlockLine) (e : rest ≡ b ∷ others) (eu : us ≡ b.uses) (h : slice_get (packs_for t rest) n ≡ w) where
  here : slice_get (packs_from t 0 us ++ packs_for (t + 1) others) n ≡ w
  here =
      ap (λ (vs : List Given). slice_get (packs_from t 0 vs ++ packs_for (t + 1) others) n) eu
      ∙ ap (λ (bs : List Block). slice_get (packs_for t bs) n) (sym e)
      ∙ h

  pub pack-next : None ≡ slice_get us n → slice_get (packs_for (t + 1) others) (n - length us) ≡ w
  pack-next none = sym (pack-after t us (packs_for (t + 1) others) n (sym none)) ∙ here

  pub pack-got : (u : Given) → Some u ≡ slice_get us n → Some (packs t n u.setup) ≡ w
  pack-got u some = sym (pack-first t us (packs_for (t + 1) others) n u (sym some)) ∙ here
