-- Changes of bodies, with the objects that come in.
use Rattle.std.specs.Prelude.{◌≡◌, ℕ, true, ◌+◌, ◌<◌, ◌≤◌, List, [], ◌∷◌, length, Option, Some, None}
use Rattle.cf_string.specs.Faults.{split_fault}
use Rattle.cf_contents.specs.Contents.{Content, text_content, data_content, instance_content, array_content, dictionary_content, set_content, bag_content, heap_content, member_limit, present}
use Rattle.cf_contents.specs.Deeds as deeds
use Rattle.cf_body.specs.Bodies.{BodyView, most_in}
use Rattle.cf_body.specs.declared.change.BodyChange.{BodyChange}
use Rattle.cf_body.specs.declared.change.BodyChange.TheVariants.{Nothing, Text, Data, Insert, Replace, Remove, Fill, Clear, PutPair, RemovePair, AddMember, PutMember, RemoveMember, RemoveLeast}
use Rattle.cf_body.specs.declared.change.Moved.{Moved}

-- an edit of places
abbrev pub places : ℕ → ℕ → List (Option ℕ) → deeds.Change
places at out enter = deeds.in_places (record { at = at; out = out; enter = enter })

-- a change of contents, with the objects themselves
abbrev pub done_of : BodyChange → deeds.Change
done_of Nothing = deeds.unchanged
done_of (Text at len text) = deeds.in_text (record { at = at; out = len; enter = text.units })
done_of (Data at len bytes) = deeds.in_data (record { at = at; out = len; enter = bytes.items })
done_of (Insert at element) = places at 0 (Some element ∷ [])
done_of (Replace at element) = places at 1 (Some element ∷ [])
done_of (Remove at) = places at 1 []
done_of (Fill at element) = places at 1 (Some element ∷ [])
done_of (Clear at) = places at 1 (None ∷ [])
done_of (PutPair key value) = deeds.put_pair key value
done_of (RemovePair key) = deeds.remove_pair key
done_of (AddMember element) = deeds.add_member element
done_of (PutMember element) = deeds.put_member element
done_of (RemoveMember element) = deeds.remove_member element
done_of RemoveLeast = deeds.remove_least

-- a content can be changed so: it is of the kind, and the places are within it
abbrev pub CanBe : BodyChange → Content → Type 0
CanBe Nothing c = Unit {0}
CanBe (Text at len text) (text_content mutable units) = (mutable ≡ true) × (split_fault units at len ≡ None)
CanBe (Data at len bytes) (data_content mutable old) = (mutable ≡ true) × (at + len ≤ length old)
CanBe (Insert at element) (array_content plain os) = at ≤ length os
CanBe (Replace at element) (array_content plain os) = at ≤ length os
CanBe (Remove at) (array_content plain os) = at < length os
CanBe (Fill at element) (instance_content key fields) = at < length fields
CanBe (Clear at) (instance_content key fields) = at < length fields
CanBe (PutPair key value) (dictionary_content plain pairs) = Unit {0}
CanBe (RemovePair key) (dictionary_content plain pairs) = Unit {0}
CanBe (AddMember element) (set_content plain members) = Unit {0}
CanBe (AddMember element) (bag_content plain rows) = Unit {0}
CanBe (AddMember element) (heap_content plain adds rows) = Unit {0}
CanBe (PutMember element) (set_content plain members) = Unit {0}
CanBe (PutMember element) (bag_content plain rows) = Unit {0}
CanBe (RemoveMember element) (set_content plain members) = Unit {0}
CanBe (RemoveMember element) (bag_content plain rows) = Unit {0}
CanBe RemoveLeast (heap_content plain adds rows) = Unit {0}
CanBe _ _ = ⊥

-- for how many units, bytes, elements, pairs or members a change needs room, and by how much it grows a body at most
abbrev pub room_for : BodyChange → ℕ
room_for Nothing = 0
room_for (Text at len text) = length text.units
room_for (Data at len bytes) = length bytes.items
room_for (Insert at element) = 1
room_for (Replace at element) = 1
room_for (Remove at) = 0
room_for (Fill at element) = 0
room_for (Clear at) = 0
room_for (PutPair key value) = 1
room_for (RemovePair key) = 0
room_for (AddMember element) = 1
room_for (PutMember element) = 1
room_for (RemoveMember element) = 0
room_for RemoveLeast = 0

-- by how many members a change grows a body at most
abbrev pub members_for : BodyChange → ℕ
members_for Nothing = 0
members_for (Text at len text) = 0
members_for (Data at len bytes) = 0
members_for (Insert at element) = 1
members_for (Replace at element) = 1
members_for (Remove at) = 0
members_for (Fill at element) = 0
members_for (Clear at) = 0
members_for (PutPair key value) = 1
members_for (RemovePair key) = 0
members_for (AddMember element) = 1
members_for (PutMember element) = 1
members_for (RemoveMember element) = 0
members_for RemoveLeast = 0

-- there is room for what comes in
pub record HasRoom (change : BodyChange) (b : BodyView) : Type 0 where
  pub memory : room_for change ≤ b.room
  pub members : most_in b.content + members_for change < member_limit

-- a change is done to a content, and what it moves is told
pub record DoneTo (change : BodyChange) (old new : Content) (moved : Moved) : Type 0 where
  pub content : new ≡ deeds.content_after (done_of change) old
  pub took : present moved.took ≡ deeds.coming_in (done_of change) old
  pub gave : present moved.gave ≡ deeds.going_out (done_of change) old
