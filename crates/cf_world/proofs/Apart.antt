-- Statements over run loops, and those that act on none.
use Rattle.std.proofs.Common.{◌≡◌, ℕ, true, false, Option, Some, refl, sym, subst}
use Rattle.std.specs.Prelude.{IfSome, IsSomeAnd}
use Rattle.cf_syntax.specs.declared.statement.Statement.{Statement}
use Rattle.cf_syntax.specs.declared.statement.Statement.TheVariants as forms
use Rattle.cf_syntax.specs.declared.mention.Ownership.TheVariants.{Keeps, Releases, Retains}
use Rattle.cf_syntax.specs.Mentions.{ownership_of}
use Rattle.cf_loops.specs.Following.{LeavesLoops}
use Rattle.cf_scene.specs.Needs.{acts_on_loops}
use Rattle.cf_world.proofs.Timing.{StopsNone}

-- a statement that acts on no run loop stops no run
pub apart_stops : (x : Statement) → acts_on_loops x ≡ false → StopsNone x
apart_stops (forms.Stop u) apart = absurd cc
apart_stops x apart = tt

-- it leaves the places of loops as they are
pub apart_leaves : (x : Statement) → acts_on_loops x ≡ false → LeavesLoops x
apart_leaves (forms.Add v u m) apart = absurd cc
apart_leaves (forms.Drop v u m) apart = absurd cc
apart_leaves (forms.Common u m) apart = absurd cc
apart_leaves (forms.Invalidate v) apart = absurd cc
apart_leaves x apart = tt

-- a statement over run loops neither binds a variable nor counts its references
pub deals_keep : (x : Statement) → acts_on_loops x ≡ true → ownership_of x ≡ Keeps
deals_keep (forms.Add v u m) acts = refl
deals_keep (forms.Drop v u m) acts = refl
deals_keep (forms.Common u m) acts = refl
deals_keep (forms.Signal v) acts = refl
deals_keep (forms.Invalidate v) acts = refl
deals_keep (forms.Wake u) acts = refl
deals_keep (forms.Stop u) acts = refl
deals_keep (forms.Run m limit once) acts = refl
deals_keep x acts = absurd cc

-- so it releases none
pub deals_cut_none : (x : Statement) (v : ℕ) → acts_on_loops x ≡ true → ownership_of x ≡ Releases v → ⊥
deals_cut_none x v acts releases = both (deals_keep x acts)
  where
    both : ownership_of x ≡ Keeps → ⊥
    both keeps = cc

-- and retains none
pub deals_retain_none : (x : Statement) (v : ℕ) → acts_on_loops x ≡ true → ownership_of x ≡ Retains v → ⊥
deals_retain_none x v acts retains = both (deals_keep x acts)
  where
    both : ownership_of x ≡ Keeps → ⊥
    both keeps = cc

-- ---- what is there

pub is_there : {A : Type 0} (o : Option A) (x : A) (P : A → Type 0) → Some x ≡ o → IsSomeAnd o P → P x
is_there {A = A} o x P e h = subst (λ (q : Option A). IsSomeAnd q P) (sym e) h

pub if_there : {A : Type 0} (o : Option A) (x : A) (P : A → Type 0) → Some x ≡ o → IfSome o P → P x
if_there {A = A} o x P e h = subst (λ (q : Option A). IfSome q P) (sym e) h
