-- Contents, objects and changes of the program, as the definitions have them.
use Rattle.std.specs.Prelude.{ℕ, Bool, List, [], ◌∷◌, Option, Some, None, if◌then◌else◌, ◌==◌}
use Rattle.cf_contents.specs.Items as items
use Rattle.cf_contents.specs.Contents as contents
use Rattle.cf_contents.specs.Deeds as deeds
use Rattle.cf_contents.specs.Keys.{Numbered}
use Rattle.cf_plain.specs.declared.item.Item.{Item}
use Rattle.cf_plain.specs.declared.item.Item.TheVariants.{Source, Timer, Observer}
use Rattle.cf_plain.specs.declared.content.Content.{Content}
use Rattle.cf_plain.specs.declared.content.Content.TheVariants as kinds
use Rattle.cf_plain.specs.declared.change.Entered.{Entered}
use Rattle.cf_plain.specs.declared.change.Entered.TheVariants as entered
use Rattle.cf_plain.specs.declared.change.Change.{Change}
use Rattle.cf_plain.specs.declared.change.Change.TheVariants as changes

-- an item
abbrev pub item_of : Item → items.Item
item_of (Source order signalled) = items.source_item order signalled
item_of (Timer first interval date) = items.timer_item first interval date
item_of (Observer mask repeats order) = items.observer_item mask repeats order

-- a content
abbrev pub content_of : Content → contents.Content
content_of (kinds.Text mutable units) = contents.text_content mutable units.items
content_of (kinds.Data mutable bytes) = contents.data_content mutable bytes.items
content_of (kinds.Number n) = contents.number_content n
content_of (kinds.Instance key fields) = contents.instance_content key fields.items
content_of (kinds.Array plain elements) = contents.array_content plain elements.items
content_of (kinds.Dictionary plain pairs) = contents.dictionary_content plain pairs.items
content_of (kinds.Set plain members) = contents.set_content plain members.items
content_of (kinds.Bag plain rows) = contents.bag_content plain rows.items
content_of (kinds.Heap heap) = contents.heap_content heap.plain heap.adds heap.rows
content_of (kinds.Item handler info valid item) = contents.item_content handler info valid (item_of item)

-- an object with its number
abbrev pub numbered_as : ℕ → contents.Object → Numbered
numbered_as number o = record { number = number; object = o }

-- what comes into a field or an array
abbrev pub entered_of : Entered → List (Option ℕ)
entered_of entered.Nothing = []
entered_of entered.Nil = None ∷ []
entered_of (entered.Object o) = Some o ∷ []

-- the member of a row that has it once
abbrev pub last_one : Option (ℕ × ℕ) → Option ℕ
last_one None = None
last_one (Some row) = if row.1 == 1 then Some row.0 else None

-- how many go out
abbrev pub out_of : Bool → ℕ
out_of out = if out then 1 else 0

-- an edit of fields or elements
abbrev pub edit_of : ℕ → Bool → Entered → deeds.Splice (Option ℕ)
edit_of at out enter = record { at = at; out = out_of out; enter = entered_of enter }

-- a change
abbrev pub change_of : Change → deeds.Change
change_of changes.Nothing = deeds.unchanged
change_of (changes.Text at out enter) = deeds.in_text (record { at = at; out = out; enter = enter.items })
change_of (changes.Data at out enter) = deeds.in_data (record { at = at; out = out; enter = enter.items })
change_of (changes.Places at out enter) = deeds.in_places (edit_of at out enter)
change_of (changes.PutPair key value) = deeds.put_pair key value
change_of (changes.RemovePair key) = deeds.remove_pair key
change_of (changes.AddMember element) = deeds.add_member element
change_of (changes.PutMember element) = deeds.put_member element
change_of (changes.RemoveMember element) = deeds.remove_member element
change_of changes.RemoveLeast = deeds.remove_least
change_of (changes.Item valid item) = deeds.in_item valid (item_of item)
