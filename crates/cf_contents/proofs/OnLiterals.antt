-- What an answer unfolds to compute a description that is written out.
use Rattle.std.specs.Prelude.{⊤}
use Rattle.std.specs.Char.Utf16.{utf16_chars}
use Rattle.std.specs.Fmt.{digits}
use Rattle.hex.specs.Hex.{encode_with}
use lib.Utf8.{encode}

unfoldable pub description_on_literals : ⊤
unfolding utf16_chars digits encode_with encode
description_on_literals = tt
