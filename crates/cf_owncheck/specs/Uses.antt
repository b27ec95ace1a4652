-- What the owner check notes of a statement whose words are variables that it uses.
use Rattle.std.specs.Prelude.{◌≡◌, ℕ, List, Option, Some, None}
use Rattle.cf_syntax.specs.declared.statement.Statement.{Statement}
use Rattle.cf_syntax.specs.declared.statement.Statement.TheVariants.{Retain, Release}
use Rattle.cf_syntax.specs.declared.mention.Mention.TheVariants.{Uses}
use Rattle.cf_syntax.specs.declared.mention.Ownership.TheVariants.{Keeps}
use Rattle.cf_syntax.specs.Mentions.{named, mentions_of, ownership_of}
use Rattle.cf_syntax.specs.BlockLines.{BlockLine}
use Rattle.cf_syntax.specs.Owned.{or_else, unbound_fault, unowned_fault}
use Rattle.cf_syntax.specs.declared.refusal.Reason.{Reason}
use Rattle.cf_owncheck.specs.declared.uses.UseOf.{UseOf}
use Rattle.cf_owncheck.specs.declared.uses.UseOf.TheVariants as uses

-- what is noted holds of the statement
abbrev pub IsUseOf : UseOf → Statement → Type 0
IsUseOf (uses.Retains v) s = s ≡ Retain v
IsUseOf (uses.Releases v) s = s ≡ Release v
IsUseOf (uses.One v) s = (mentions_of s ≡ named (Some (Uses v)) None None) × (ownership_of s ≡ Keeps)
IsUseOf (uses.Two v w) s = (mentions_of s ≡ named (Some (Uses v)) (Some (Uses w)) None) × (ownership_of s ≡ Keeps)
IsUseOf (uses.Three v w x) s =
    (mentions_of s ≡ named (Some (Uses v)) (Some (Uses w)) (Some (Uses x))) × (ownership_of s ≡ Keeps)
IsUseOf uses.Other s = Unit {0}

-- the fault of a variable that is used
abbrev pub used_fault : List BlockLine → ℕ → Option Reason
used_fault earlier v = or_else (unbound_fault earlier v) (unowned_fault earlier v)
