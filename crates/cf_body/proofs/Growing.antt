-- How much there is after a change of what stays below the limit.
use Rattle.std.proofs.Common.{arith, ◌≡◌, ℕ, suc, ◌+◌, ◌<◌, ◌≤◌, Bool, true, false, cond, List, [], ◌∷◌, ◌++◌, length, take, drop, Option, Some, None, ap, length-append}
use Rattle.std.specs.Prelude.{is_some}
use Rattle.std.specs.List.{splice}
use Rattle.std.specs.Map.{lookup, set_value, remove_entry}
use Rattle.std.proofs.lemmas.List.{length-take, length-drop}
use Rattle.cf_types.specs.declared.cells.Cell.{Cell}
use Rattle.cf_contents.specs.Contents.{Content, text_content, data_content, instance_content, array_content, dictionary_content, set_content, bag_content, heap_content, size_of, member_limit}
use Rattle.cf_contents.specs.Keys.{equal_to}
use Rattle.cf_contents.specs.Deeds as deeds
use Rattle.cf_contents.proofs.Sizes.{length-splice, length-put, length-removed, added_size, member_size, gone_size, least_size}
use Rattle.cf_body.specs.Bodies.{most_in}
use Rattle.cf_body.specs.Changes.{CanBe, done_of, members_for}
use Rattle.cf_body.specs.declared.change.BodyChange.{BodyChange}
use Rattle.cf_body.specs.declared.change.BodyChange.TheVariants.{Nothing, Text, Data, Insert, Replace, Remove, Fill, Clear, PutPair, RemovePair, AddMember, PutMember, RemoveMember, RemoveLeast}

length-same : (fields : List (Option ℕ)) (at : ℕ) (field : Option ℕ) → at < length fields
    → length (splice fields at (at + 1) (field ∷ [])) ≤ length fields + 0
length-same fields at field within =
    omega (arith, length-append (take at fields) (field ∷ drop (at + 1) fields), length-take at fields, length-drop (at + 1) fields)

members_after : (change : BodyChange) (c : Content) → CanBe change c
    → most_in (deeds.content_after (done_of change) c) ≤ most_in c + members_for change
members_after Nothing c can = omega arith
members_after (Text at len text) (text_content true units) can = omega arith
members_after (Text at len text) (text_content false units) can = omega arith
members_after (Data at len bytes) (data_content true old) can = omega arith
members_after (Data at len bytes) (data_content false old) can = omega arith
members_after (Insert at element) (array_content plain os) can = length-splice os at 0 (element ∷ [])
members_after (Replace at element) (array_content plain os) can = length-splice os at 1 (element ∷ [])
members_after (Remove at) (array_content plain os) can = length-splice os at 1 []
members_after (Fill at element) (instance_content key fields) can = length-same fields at (Some element) can
members_after (Clear at) (instance_content key fields) can = length-same fields at None can
members_after (PutPair key value) (dictionary_content plain pairs) can =
    length-put (equal_to plain key) key value pairs (is_some (lookup (equal_to plain key) pairs))
members_after (RemovePair key) (dictionary_content plain pairs) can = omega (arith, length-removed (equal_to plain key) pairs)
members_after (AddMember x) (set_content plain members) can = added_size x (set_content plain members)
members_after (AddMember x) (bag_content plain rows) can = added_size x (bag_content plain rows)
members_after (AddMember x) (heap_content plain adds rows) can = added_size x (heap_content plain adds rows)
members_after (PutMember x) (set_content plain members) can = member_size x (set_content plain members)
members_after (PutMember x) (bag_content plain rows) can = member_size x (bag_content plain rows)
members_after (RemoveMember x) (set_content plain members) can = omega (arith, gone_size x (set_content plain members))
members_after (RemoveMember x) (bag_content plain rows) can = omega (arith, gone_size x (bag_content plain rows))
members_after RemoveLeast (heap_content plain adds rows) can = omega (arith, least_size (heap_content plain adds rows))
members_after _ _ can = absurd can

pub few_after : (change : BodyChange) (old new : Content) → new ≡ deeds.content_after (done_of change) old
    → CanBe change old → most_in old + members_for change < member_limit
    → most_in new < member_limit
few_after change old new is can few =
    let most = members_after change old can in
    let same : most_in new ≡ most_in (deeds.content_after (done_of change) old) = ap most_in is in
    omega (arith, most, same, few)

-- a collection that may grow has few members, and other contents keep theirs
pub fits_members : (change : BodyChange) (c : Content) → CanBe change c → most_in c < member_limit
    → size_of c + members_for change < member_limit
    → most_in c + members_for change < member_limit
fits_members Nothing c can few fits = omega (arith, few)
fits_members (Text at len text) c can few fits = omega (arith, few)
fits_members (Data at len bytes) c can few fits = omega (arith, few)
fits_members (Insert at element) (array_content plain os) can few fits = fits
fits_members (Replace at element) (array_content plain os) can few fits = fits
fits_members (Remove at) c can few fits = omega (arith, few)
fits_members (Fill at element) c can few fits = omega (arith, few)
fits_members (Clear at) c can few fits = omega (arith, few)
fits_members (PutPair key value) (dictionary_content plain pairs) can few fits = fits
fits_members (RemovePair key) c can few fits = omega (arith, few)
fits_members (AddMember x) (set_content plain members) can few fits = fits
fits_members (AddMember x) (bag_content plain rows) can few fits = fits
fits_members (AddMember x) (heap_content plain adds rows) can few fits = fits
fits_members (PutMember x) (set_content plain members) can few fits = fits
fits_members (PutMember x) (bag_content plain rows) can few fits = fits
fits_members (RemoveMember x) c can few fits = omega (arith, few)
fits_members RemoveLeast c can few fits = omega (arith, few)
fits_members _ _ can few fits = absurd can
