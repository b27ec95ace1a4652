-- What the reader's own types stand for.
use Rattle.std.specs.Prelude.{ℕ, List, map}
use Rattle.std.specs.Global.{Vec}
use Rattle.cf_syntax.specs.declared.script.ClassLine.{ClassLine}
use denote.Ref.{Bor}

-- words that are lent
abbrev pub lent : List (Bor (List ℕ)) → List (List ℕ)
lent ws = map (λ w. w.now) ws

-- names that are owned
abbrev pub texts : List (Vec ℕ) → List (List ℕ)
texts names = map (λ n. n.items) names

-- the names of class lines
abbrev pub names_of : List ClassLine → List (List ℕ)
names_of lines = map (λ c. c.name) lines
