-- The items among bodies, and the sources among them, by number. After the Run Loops guide; that the sources stand in
-- a table of their own beside the bodies is this project's own.
use Rattle.std.specs.Prelude.{◌≡◌, ℕ, suc, ℤ, Bool, true, false, ◌&&◌, ◌<◌, List, [], ◌∷◌, Option, None, Some, slice_get}
use Rattle.std.specs.List.{AllByRecursion}
use Rattle.rl_base.specs.declared.sources.SourceState.{SourceState}
use Rattle.cf_contents.specs.Items.{Item, source_item, is_signalled_item}
use Rattle.cf_contents.specs.Deeds.{Change, unchanged, in_item}
use Rattle.cf_contents.specs.Stores.{Held, live}
use Rattle.cf_body.specs.Bodies.{BodyView, object_in, held_of}
use Rattle.cf_body.specs.Items.{ItemView, item_in}

-- ---- items

-- the item that a body is, if there is a body and it is one
abbrev pub item_of_body : Option Held → Option ItemView
item_of_body None = None
item_of_body (Some h) = item_in h.object.content

-- the item of a number, if that was made and is one
abbrev pub item_at : List Held → ℕ → Option ItemView
item_at bodies o = item_of_body (slice_get bodies o)

-- an item is a source
abbrev pub is_source : Item → Bool
is_source (source_item order signalled) = true
is_source _ = false

-- a source that is not invalidated
abbrev pub is_valid_source : Option ItemView → Bool
is_valid_source None = false
is_valid_source (Some x) = x.valid && is_source x.item

-- a source that is signalled
abbrev pub is_signalled_source : Option ItemView → Bool
is_signalled_source None = false
is_signalled_source (Some x) = is_signalled_item x.item

-- a new item is valid, and not signalled
abbrev pub IsNewItem : Option ItemView → Type 0
IsNewItem None = Unit {0}
IsNewItem (Some x) = (x.valid ≡ true) × (is_signalled_item x.item ≡ false)

-- a new body is live and has given up nothing; an item is a new one
pub record IsNewBody (b : BodyView) : Type 0 where
  pub live : held_of b ≡ live (object_in b)
  pub item : IsNewItem (item_in b.content)

-- ---- what becomes of a source

-- a source that is signalled or not from now on; another item stays
abbrev pub with_signal : Bool → Item → Item
with_signal signal (source_item order signalled) = source_item order signal
with_signal signal item = item

-- a source is signalled
abbrev pub signalling : Option ItemView → Change
signalling None = unchanged
signalling (Some x) = in_item x.valid (with_signal true x.item)

-- the callout of a source begins, which takes its signal
abbrev pub calling_out : Option ItemView → Change
calling_out None = unchanged
calling_out (Some x) = in_item x.valid (with_signal false x.item)

-- an item is invalidated, and stays as it is in all else
abbrev pub invalidating : Option ItemView → Change
invalidating None = unchanged
invalidating (Some x) = in_item false x.item

-- ---- sources

-- a source without its number
pub record SourceBits : Type 0 where
  pub order : ℤ
  pub valid : Bool
  pub signalled : Bool

-- an item as a source, if it is one
abbrev pub bits_in : Bool → Item → Option SourceBits
bits_in valid (source_item order signalled) = Some (record { order = order; valid = valid; signalled = signalled })
bits_in valid _ = None

-- what may be an item as a source, if it is one
abbrev pub bits_of : Option ItemView → Option SourceBits
bits_of None = None
bits_of (Some x) = bits_in x.valid x.item

-- the source of a number
abbrev pub numbered_source : ℕ → SourceBits → SourceState
numbered_source n b = record { number = n; order = b.order; valid = b.valid; signalled = b.signalled }

-- a source before others, if there is one
abbrev pub before : ℕ → Option SourceBits → List SourceState → List SourceState
before n None rest = rest
before n (Some b) rest = numbered_source n b ∷ rest

-- the sources among bodies whose numbers begin with this one, by rising number
abbrev pub sources_from : ℕ → List Held → List SourceState
sources_from n [] = []
sources_from n (h ∷ hs) = before n (bits_of (item_in h.object.content)) (sources_from (suc n) hs)

-- the sources among bodies, by rising number
abbrev pub sources_in : List Held → List SourceState
sources_in bodies = sources_from 0 bodies

-- each source has a number below this one
abbrev pub AllBelow : ℕ → List SourceState → Type 0
AllBelow n sources = AllByRecursion (λ (s : SourceState). s.number < n) sources
