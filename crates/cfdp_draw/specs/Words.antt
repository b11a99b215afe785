-- Words of a picture.
--     labelled_number            a number in decimal after a label
--     digits_of                  how many digits a number has in decimal, below 2^64
--     digit_of                   a hexadecimal digit
--     is_plain_in_xml            an octet that is written as it is, if XML needs no name for it
--     escaped_octet, escaped     octets that are shown: `&`, `<`, `>` and `"` by their names in XML, and others that
--                                are no plain letter as `%` and two digits
--     IsHarmless, EscapedIsHarmless    no octet of an escaped text begins or ends an element or a value of XML
use Rattle.std.specs.Prelude.{◌≢◌, ℕ, ◌+◌, ◌/◌, ◌%◌, ◌<◌, ◌≤◌, ◌==◌, ◌&&◌, Bool, not, nat_le, nat_lt, if◌then◌else◌, List, [], ◌∷◌, ◌++◌, codes, decimal, flat_map, length, min}
use Rattle.std.specs.List.{AllByRecursion}

unfoldable pub labelled_number : List ℕ → ℕ → List ℕ
labelled_number label number = label ++ decimal number

unfoldable pub digits_of : ℕ → ℕ
digits_of number = min (length (decimal number)) 20

abbrev pub digit_of : ℕ → ℕ
digit_of value = if nat_lt value 10 then 48 + value else 87 + value

abbrev pub is_plain_in_xml : ℕ → Bool
is_plain_in_xml octet = nat_le 32 octet && nat_le octet 126 && not (octet == 37)

abbrev pub escaped_octet : ℕ → List ℕ
escaped_octet octet =
    if octet == 38 then codes "&amp;"
    else if octet == 60 then codes "&lt;"
    else if octet == 62 then codes "&gt;"
    else if octet == 34 then codes "&quot;"
    else if is_plain_in_xml octet then octet ∷ []
    else 37 ∷ digit_of (octet / 16) ∷ digit_of (octet % 16) ∷ []

abbrev pub escaped : List ℕ → List ℕ
escaped text = flat_map escaped_octet text

pub record IsHarmless (octet : ℕ) : Type 0 where
  pub no_less : octet ≢ 60
  pub no_greater : octet ≢ 62
  pub no_quote : octet ≢ 34
  pub printed : 32 ≤ octet
  pub ascii : octet < 127

abbrev pub EscapedIsHarmless : Type 0
EscapedIsHarmless = (text : List ℕ) → AllByRecursion (λ octet. octet < 256) text →
    AllByRecursion IsHarmless (escaped text)
