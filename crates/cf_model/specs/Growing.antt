-- What a journal has with one entry more at its end. This project's own.
use Rattle.std.specs.Prelude.{◌≡◌, false, ◌||◌, List, [], ◌∷◌, ◌++◌}
use Rattle.cf_syntax.specs.declared.script.Script.{Script}
use Rattle.cf_model.specs.declared.entry.Entry.{Entry}
use Rattle.cf_model.specs.State.{start}
use Rattle.cf_model.specs.Journals.{after_action, After, IsLegalEntry, IsLegal, is_stall, has_stalled}
use Rattle.cf_model.specs.Serial.{picked, picked_or_lead, moved_by, pointer_of, IsSerialFrom}

-- a journal with one entry more: the state after it is that after the entry's action; it is legal if the journal is,
-- has no stall, and the entry is legal after it, and only if the journal is; it has a stall if one of the two has; it
-- is in the serial order if the journal is and the entry is one of the thread that the pointer picks, or of the lead;
-- and the pointer moves on
pub record GrowsBy (s : Script) (es : List Entry) (e : Entry) : Type 0 where
  pub after : After s (es ++ e ∷ []) ≡ after_action s e.thread (After s es) e.action
  pub legal : IsLegal s es → has_stalled es ≡ false → IsLegalEntry s (After s es) e → IsLegal s (es ++ e ∷ [])
  pub begun : IsLegal s (es ++ e ∷ []) → IsLegal s es
  pub stalled : has_stalled (es ++ e ∷ []) ≡ (has_stalled es || is_stall e.action)
  pub order : IsSerialFrom s (start s) 0 es → e.thread ≡ picked_or_lead (picked s (After s es) (pointer_of s es))
      → IsSerialFrom s (start s) 0 (es ++ e ∷ [])
  pub pointer : pointer_of s (es ++ e ∷ [])
      ≡ moved_by (pointer_of s es) (picked s (After s es) (pointer_of s es))
