-- What is true of names in a plan, and of the lines of PDUs.
--   PrintedIsRead    what a listing prints of a path's octets spells them
--   IsReadAs         the words of a line are `pdu` and one of hexadecimal digits, which spells these octets
--   PduLineIsRead    so is the line of a PDU read
use Rattle.std.specs.Prelude.{◌≡◌, ◌<◌, ℕ, List, [], ◌∷◌, ◌++◌, length, codes, flat_map, Some, Ok}
use Rattle.std.specs.List.{AllByRecursion}
use Rattle.hex.specs.Hex.{decode_of, encode_lower}
use Rattle.cfdp_texts.specs.Replies.{shown_octet}
use Rattle.cfdp_plans.specs.Names.{name_in}
use Rattle.cfdp_lines.specs.Words.{words_of}

abbrev pub PrintedIsRead : Type 0
PrintedIsRead =
    (octets : List ℕ) → AllByRecursion (λ octet. octet < 256) octets →
    name_in (flat_map shown_octet octets) ≡ Some octets

pub record IsReadAs (text octets : List ℕ) : Type 0 where
  pub words : words_of text ≡ codes "pdu" ∷ encode_lower octets ∷ []
  pub digits : decode_of (encode_lower octets) ≡ Ok octets

abbrev pub PduLineIsRead : Type 0
PduLineIsRead =
    (octets : List ℕ) → 0 < length octets → AllByRecursion (λ octet. octet < 256) octets →
    IsReadAs (codes "pdu " ++ encode_lower octets) octets
