-- Names in a plan: visible ASCII characters are themselves, but for `%`, which is followed by two hexadecimal digits of
-- an octet.
--   octet_of_pair    the octet of two digits, of either case
--   name_in          the octets that a text spells, if it does
--   path_octets_in   the same where they are a path of the filestore
--   path_spelled     the path of the filestore that a text spells, if it does
use Rattle.std.specs.Prelude.{ℕ, ◌+◌, ◌*◌, ◌==◌, if◌then◌else◌, List, [], ◌∷◌, Option, Some, None, is_some, option_and_then}
use Rattle.hex.specs.Hex.{hex_digit_value}
use Rattle.cfdp_paths.specs.Paths.{Path, path_of}
use Rattle.cfdp_lines.specs.Words.{number_before}
use Rattle.cfdp_texts.specs.Replies.{is_plain}

abbrev pub octet_of_pair : Option ℕ → Option ℕ → Option ℕ
octet_of_pair (Some high) (Some low) = Some (16 * high + low)
octet_of_pair (Some high) None = None
octet_of_pair None low = None

abbrev pub itself : ℕ → Option ℕ
itself octet = if is_plain octet then Some octet else None

unfoldable pub name_in : List ℕ → Option (List ℕ)
name_in [] = Some []
name_in (octet ∷ []) = number_before (itself octet) (Some [])
name_in (octet ∷ next ∷ []) = number_before (itself octet) (number_before (itself next) (Some []))
name_in (octet ∷ high ∷ low ∷ text) =
    if octet == 37 then number_before (octet_of_pair (hex_digit_value high) (hex_digit_value low)) (name_in text)
    else number_before (itself octet) (name_in (high ∷ low ∷ text))

abbrev pub if_path : Option (List ℕ) → Option (List ℕ)
if_path None = None
if_path (Some octets) = if is_some (path_of octets) then Some octets else None

abbrev pub path_octets_in : List ℕ → Option (List ℕ)
path_octets_in text = if_path (name_in text)

abbrev pub path_spelled : List ℕ → Option Path
path_spelled text = option_and_then path_of (name_in text)
