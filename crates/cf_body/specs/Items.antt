-- Items of run loops as bodies.
use Rattle.std.specs.Prelude.{ℕ, Bool, Option, None, Some}
use Rattle.cf_contents.specs.Items.{Item, source_item}
use Rattle.cf_contents.specs.Contents.{Content, item_content}
use Rattle.cf_body.specs.declared.item.ItemState.{ItemState}
use Rattle.cf_body.specs.declared.item.ItemState.TheVariants.{Source}
use Rattle.cf_body.specs.declared.item.LoopItem.{LoopItem}

-- an item as it is seen: its handler, its info, whether it is valid, and what it is
pub record ItemView : Type 0 where
  pub handler : ℕ
  pub info : Option ℕ
  pub valid : Bool
  pub item : Item

-- the item of what the program keeps of one
abbrev pub item_of : ItemState → Item
item_of (Source order signalled) = source_item order signalled

-- an item of the program, as it is seen
abbrev pub seen_of : LoopItem → ItemView
seen_of x = record { handler = x.handler; info = x.info; valid = x.valid; item = item_of x.state }

-- the item in a content, if it is one
abbrev pub item_in : Content → Option ItemView
item_in (item_content handler info valid item) =
    Some (record { handler = handler; info = info; valid = valid; item = item })
item_in _ = None
