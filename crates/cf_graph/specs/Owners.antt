-- What owners are, as callers see them. This project's own, after the Memory Management guide.
use Rattle.std.specs.Prelude.{ℕ, Bool, true, false, List, ◌==◌}
use Rattle.std.specs.List.{list_any}
use Rattle.cf_graph.specs.declared.edge.Owner.{Owner}
use Rattle.cf_graph.specs.declared.edge.Owner.TheVariants.{Thread, Parcel, Slot, Mode, Common}

-- threads and parcels own what they hold; all others hold it for an owner
abbrev pub is_owning : Owner → Bool
is_owning (Thread t) = true
is_owning (Parcel t) = true
is_owning (Slot b) = false
is_owning (Mode t m) = false
is_owning (Common t) = false

-- the owner is this thread
abbrev pub is_thread : ℕ → Owner → Bool
is_thread t (Thread u) = t == u
is_thread t (Parcel u) = false
is_thread t (Slot b) = false
is_thread t (Mode u m) = false
is_thread t (Common u) = false

-- the owner is one of these threads
abbrev pub is_among : List ℕ → Owner → Bool
is_among ts owner = list_any (λ t. is_thread t owner) ts

-- the owner is one of these threads, or it is no thread
abbrev pub is_of_no_other : List ℕ → Owner → Bool
is_of_no_other ts (Thread u) = list_any (λ t. t == u) ts
is_of_no_other ts (Parcel u) = true
is_of_no_other ts (Slot b) = true
is_of_no_other ts (Mode u m) = true
is_of_no_other ts (Common u) = true

-- what a thread may use by itself: it has a reference, or its parcel or its loop has one
abbrev pub is_at_hand : ℕ → Owner → Bool
is_at_hand t (Thread u) = t == u
is_at_hand t (Parcel u) = t == u
is_at_hand t (Slot b) = false
is_at_hand t (Mode u m) = t == u
is_at_hand t (Common u) = t == u

-- the owner is this body
abbrev pub is_slot : ℕ → Owner → Bool
is_slot b (Thread u) = false
is_slot b (Parcel u) = false
is_slot b (Slot c) = b == c
is_slot b (Mode u m) = false
is_slot b (Common u) = false
