-- What a set of a key answers, after the reference of mutable dictionaries.
use Rattle.std.specs.Prelude.{Option, Some, None}
use Rattle.cf_dictionary.specs.declared.dictionary.DictSet.{DictSet}
use Rattle.cf_dictionary.specs.declared.dictionary.DictSet.TheVariants.{Added, Changed}

-- what a set of the key k answers, where a look-up before it found `old`: the key was not used, and the
-- value is replaced (the reference's "set value")
abbrev pub set_answer : {E : Type 0} → E → Option E → DictSet E
set_answer k None = Added
set_answer k (Some old) = Changed k old
