-- The words of a line, and what they say.
--
--   words_of       the words of a line: what is between its spaces
--   is_numeral     a word of decimal digits
--   number_of      the number that such a word writes, if it is below 2^64
--   numbers_of     the numbers of some words, if each writes one
--   number_before  a number, or an octet, before others, if all are there
--   id_by          the transaction that two numbers name: its source entity ID, and its sequence number
use Rattle.std.specs.Prelude.{ℕ, ◌^◌, ◌==◌, Bool, not, ◌&&◌, nat_lt, if◌then◌else◌, List, [], ◌∷◌, length, Option, Some, None}
use Rattle.std.specs.List.{slice_split, filter, list_all}
use Rattle.std.specs.Char.{is_ascii_digit}
use Rattle.std.specs.Str.Parse.{digits_value}
use Rattle.cfdp_status.specs.declared.transaction.TransactionId.{TransactionId}
use Rattle.cfdp_lines.specs.Hexadecimal.{is_space}

-- it has an octet
abbrev pub is_word : List ℕ → Bool
is_word part = not (length part == 0)

abbrev pub words_of : List ℕ → List (List ℕ)
words_of line = filter is_word (slice_split is_space line)

-- no sign, and at least one digit
abbrev pub is_numeral : List ℕ → Bool
is_numeral word = is_word word && list_all is_ascii_digit word

abbrev pub number_of : List ℕ → Option ℕ
number_of word = if is_numeral word && nat_lt (digits_value 10 word) (2 ^ 64) then Some (digits_value 10 word) else None

-- a number before others
abbrev pub number_before : Option ℕ → Option (List ℕ) → Option (List ℕ)
number_before (Some number) (Some numbers) = Some (number ∷ numbers)
number_before (Some number) None = None
number_before None others = None

abbrev pub numbers_of : List (List ℕ) → Option (List ℕ)
numbers_of [] = Some []
numbers_of (word ∷ words) = number_before (number_of word) (numbers_of words)

abbrev pub id_by : Option (List ℕ) → Option TransactionId
id_by (Some (source ∷ number ∷ [])) = Some (record { source = source; number = number })
id_by numbers = None
