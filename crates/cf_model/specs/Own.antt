-- Which of a thread's references an entry takes. Callers see of a reference of a thread the thread alone, so if
-- the variable that a statement names holds none to its object, another of the thread's references to it serves as
-- well. That comes in scripts that are not owned; in owned ones each variable has what it gives up. This project's
-- own.
use Rattle.std.specs.Prelude.{ℕ, ◌&&◌, List, [], ◌∷◌, ◌++◌, map, Option, Some, None, option_to_list, nat_lt, ◌==◌, if◌then◌else◌}
use Rattle.cf_graph.specs.Owners.{is_thread}
use Rattle.cf_graph.specs.Holders.{Holder, owner_of}
use Rattle.cf_graph.specs.Edges.{Reference, held_by, weigh, one, has}
use Rattle.cf_graph.specs.Operations.{without}
use Rattle.cf_graph.specs.Flows.{Move}

-- the first of a thread's references to an object
abbrev pub first_from : ℕ → ℕ → List Reference → Option Reference
first_from t o [] = None
first_from t o (r ∷ rs) = if (r.object == o) && is_thread t (owner_of r.holder) then Some r else first_from t o rs

-- the holder's own reference to the object, or else the first that the thread has
abbrev pub own_reference : ℕ → Holder → ℕ → List Reference → Option Reference
own_reference t h o es = if has h o es then Some (held_by h o) else first_from t o es

-- references without one, if there is one
abbrev pub without_if : Option Reference → List Reference → List Reference
without_if None es = es
without_if (Some q) es = without q es

-- the same for several, one after another, each taken from what is left
abbrev pub own_references : ℕ → List Reference → List Reference → List Reference
own_references t [] es = []
own_references t (r ∷ rs) es =
    let q = own_reference t r.holder r.object es in
    option_to_list q ++ own_references t rs (without_if q es)

-- those of some references that are there, one after another, each as often as it is there
abbrev pub present_of : List Reference → List Reference → List Reference
present_of [] es = []
present_of (r ∷ rs) es =
    if nat_lt 0 (weigh (one r) es) then r ∷ present_of rs (without r es) else present_of rs es

-- they go to a holder
abbrev pub moves_to : Holder → List Reference → List Move
moves_to h rs = map (λ r. record { from = r; to = h }) rs
