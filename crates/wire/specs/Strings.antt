-- Strings as the writer of text sets them into a line.
use Rattle.std.specs.Prelude.{List, [], ◌∷◌, ◌++◌}
use Rattle.octets.specs.Octets.{Bytes}
use Rattle.message.specs.Forms.{field}

-- each string in quotes, with a space before it
unfoldable pub quoted_fields : List Bytes → Bytes
quoted_fields [] = []
quoted_fields (s ∷ ss) = field s ++ quoted_fields ss
