-- Holders and flows of the program, as the definitions have them.
use Rattle.cf_graph.specs.Holders as holders
use Rattle.cf_references.specs.declared.holder.Holder.{Holder}
use Rattle.cf_references.specs.declared.holder.Holder.TheVariants.{Variable, Callout, Owed, Parcel, Slot, InMode, InCommon}

-- a holder
abbrev pub holder_of : Holder → holders.Holder
holder_of (Variable t d v) = holders.variable t d v
holder_of (Callout t d) = holders.callout t d
holder_of (Owed t) = holders.owed t
holder_of (Parcel t k) = holders.parcel t k
holder_of (Slot b) = holders.slot b
holder_of (InMode t m) = holders.in_mode t m
holder_of (InCommon t) = holders.in_common t
