-- Where octets are cut into lines.
--
--   IsOpenLine      octets of a line that has not ended: none is a newline, and they are not too many
--   ended_line  the line that ends at an index of some octets: those before it, if nothing was gathered
--   EndsLine    octets have a newline at an index, and it ends this line, which began with others
--   IsTooLong   octets make a line longer than the limit before they have a newline
use Rattle.std.specs.Prelude.{◌≡◌, ℕ, ◌+◌, ◌<◌, ◌≤◌, true, List, [], ◌∷◌, ◌++◌, length, take, get_or}
use Rattle.cfdp_lines.specs.Lines.{IsOneLine, is_newline, line_limit}

pub record IsOpenLine (line : List ℕ) : Type 0 where
  pub one_line : IsOneLine line
  pub within : length line ≤ line_limit

abbrev pub ended_line : (line octets : List ℕ) → ℕ → List ℕ
ended_line [] octets end = take end octets
ended_line (octet ∷ line) octets end = octet ∷ line

pub record EndsLine (begun octets : List ℕ) (end : ℕ) (line : List ℕ) : Type 0 where
  pub within : end < length octets
  pub newline : is_newline (get_or octets end 0) ≡ true
  pub one_line : IsOneLine line
  pub whole : line ≡ begun ++ take end octets

pub record IsTooLong (line octets : List ℕ) : Type 0 where
  pub count : ℕ
  pub goes_on : IsOpenLine line
  pub one_line : IsOneLine (take count octets)
  pub long : line_limit < length line + length (take count octets)
