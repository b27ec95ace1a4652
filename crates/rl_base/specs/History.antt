-- What a history says at its end: that something has begun, and that nothing has ended it since. And histories of
-- calls that may be refused, of which the accepted ones alone count. These words are this project's own.
use Rattle.std.specs.Prelude.{⊤, Bool, false, ◌&&◌, ◌||◌, not, List, [], ◌∷◌, IsTrue, if◌then◌else◌}
use Rattle.std.specs.List.{list_any}

-- whether some element of the history passes the first test, and none after it passes the second
abbrev pub holds_since : {X : Type 0} → (begins ends : X → Bool) → List X → Bool
holds_since begins ends [] = false
holds_since begins ends (x ∷ xs) = (begins x && not (list_any ends xs)) || holds_since begins ends xs

-- each of the calls xs is accepted in the state that those before it left, the first in s
abbrev pub AllAccepted : {S X : Type 0} → (accepts : S → X → Bool) → (after : S → X → S) → S → List X → Type 0
AllAccepted accepts after s [] = ⊤
AllAccepted accepts after s (x ∷ xs) = IsTrue (accepts s x) × AllAccepted accepts after (after s x) xs

-- the state after a call that may be refused, which then changes nothing
abbrev pub left_by : {S X : Type 0} → (accepts : S → X → Bool) → (after : S → X → S) → S → X → S
left_by accepts after s x = if accepts s x then after s x else s

-- those of the calls xs that are accepted
abbrev pub accepted_of : {S X : Type 0} → (accepts : S → X → Bool) → (after : S → X → S) → S → List X → List X
accepted_of accepts after s [] = []
accepted_of accepts after s (x ∷ xs) =
    if accepts s x then x ∷ accepted_of accepts after (after s x) xs else accepted_of accepts after s xs
