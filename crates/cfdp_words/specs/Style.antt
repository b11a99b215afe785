-- How a field is written: for people, a line each, or as a member of a JSON object.
--   key_octet         a letter of a field's name in a key: lower case, and `_` for a space
--   octet_text        an octet of a name: as it is, or `%` and two digits; in JSON `"` and `\` have a `\` before them
--   name_text         a name
--   label             what comes before a value
--   plain_field       a field with a word;  quoted in JSON
--   field_end         what comes after a field:  the end of its line
--   quote             what a value that is no number is put in
--   number_field      a field with a number
--   flag_field        a field that is yes or no
--   code_field        a field with a code, and what it means
--   name_field        a field with a name
--   digits_field      a field with octets in hexadecimal
use Rattle.std.specs.Prelude.{ℕ, ◌+◌, ◌==◌, ◌&&◌, ◌||◌, Bool, true, false, nat_le, if◌then◌else◌, List, [], ◌∷◌, ◌++◌, map, codes, decimal}
use Rattle.std.specs.List.{flat_map}
use Rattle.hex.specs.Hex.{encode_lower}
use Rattle.cfdp_texts.specs.Replies.{is_plain}
use Rattle.cfdp_words.specs.Names.{name_words}
use Rattle.cfdp_words.specs.declared.names.Name.{Name}
use Rattle.cfdp_words.specs.declared.style.Style.{Style}
use Rattle.cfdp_words.specs.declared.style.Style.TheVariants.{Text, Json}

abbrev pub key_octet : ℕ → ℕ
key_octet octet = if octet == 32 then 95 else if nat_le 65 octet && nat_le octet 90 then octet + 32 else octet

abbrev pub is_quoted : ℕ → Bool
is_quoted octet = (octet == 34) || (octet == 92)

abbrev pub plain_octet : Style → ℕ → List ℕ
plain_octet Text octet = octet ∷ []
plain_octet Json octet = if is_quoted octet then 92 ∷ octet ∷ [] else octet ∷ []

abbrev pub octet_text : Style → ℕ → List ℕ
octet_text style octet = if is_plain octet then plain_octet style octet else 37 ∷ encode_lower (octet ∷ [])

abbrev pub name_text : Style → List ℕ → List ℕ
name_text style name = flat_map (octet_text style) name

-- a line with two spaces before it;  a member after others
abbrev pub label : Style → Name → List ℕ
label Text name = codes "  " ++ name_words name ++ codes ": "
label Json name = codes ",\"" ++ map key_octet (name_words name) ++ codes "\":"

abbrev pub field_end : Style → List ℕ
field_end Text = codes "\n"
field_end Json = []

abbrev pub quote : Style → List ℕ
quote Text = []
quote Json = codes "\""

unfoldable pub number_field : Style → Name → ℕ → List ℕ
number_field style name number = label style name ++ decimal number ++ field_end style

unfoldable pub plain_field : Style → Name → List ℕ → List ℕ
plain_field style name word = label style name ++ quote style ++ word ++ quote style ++ field_end style

abbrev pub flag_word : Style → Bool → List ℕ
flag_word Text true = codes "yes"
flag_word Text false = codes "no"
flag_word Json true = codes "true"
flag_word Json false = codes "false"

unfoldable pub flag_field : Style → Name → Bool → List ℕ
flag_field style name flag = label style name ++ flag_word style flag ++ field_end style

-- in JSON it is a member of its own, whose key ends in `_means`
abbrev pub meaning_text : Style → Name → List ℕ → List ℕ
meaning_text Text name meaning = codes ", " ++ meaning ++ codes "\n"
meaning_text Json name meaning = codes ",\"" ++ map key_octet (name_words name) ++ codes "_means\":\"" ++ meaning
    ++ codes "\""

unfoldable pub code_field : Style → Name → ℕ → List ℕ → List ℕ
code_field style name code meaning = label style name ++ decimal code ++ meaning_text style name meaning

unfoldable pub name_field : Style → Name → List ℕ → List ℕ
name_field style name value = label style name ++ quote style ++ name_text style value ++ quote style ++ field_end style

unfoldable pub digits_field : Style → Name → List ℕ → List ℕ
digits_field style name octets = label style name ++ quote style ++ encode_lower octets ++ quote style
    ++ field_end style
