-- Lines of a script.
--
--   is_newline           the octet that ends a line
--   line_limit           how many octets a line may have
--   input_limit          how many octets a script may have
--   is_overlong          a line longer than the limit, which is bad
--   is_comment           a line that is passed over
--   IsOneLine            octets without a newline
--   without_empty_last   parts of a text without the last one, if nothing is in it
--   lines_of             the lines of some octets
--   without_open_last    parts of a text without the last one, unless it is overlong
--   settled_lines        the lines of some octets that octets after them leave as they are
--   limited_lines        the lines of a script that are run: those that are settled within the input limit where it is
--                        longer
use Rattle.std.specs.Prelude.{◌≡◌, ℕ, nat_lt, ◌==◌, Bool, false, if◌then◌else◌, List, [], ◌∷◌, length, take}
use Rattle.std.specs.List.{slice_split, All}

-- the octet that ends a line
abbrev pub is_newline : ℕ → Bool
is_newline octet = octet == 10

-- the line limit, in octets
abbrev pub line_limit : ℕ
line_limit = 200000

-- the input limit, in octets
abbrev pub input_limit : ℕ
input_limit = 268435456

-- more octets than a line may have
abbrev pub is_overlong : List ℕ → Bool
is_overlong line = nat_lt line_limit (length line)

-- a line that begins with `#`
abbrev pub is_comment : List ℕ → Bool
is_comment [] = false
is_comment (octet ∷ octets) = octet == 35

-- no octet of these ends a line
abbrev pub IsOneLine : List ℕ → Type 0
IsOneLine octets = All (λ octet. is_newline octet ≡ false) octets

-- the parts of a text without the last one, if nothing is in it
abbrev pub without_empty_last : List (List ℕ) → List (List ℕ)
without_empty_last [] = []
without_empty_last (part ∷ []) = if length part == 0 then [] else part ∷ []
without_empty_last (part ∷ next ∷ parts) = part ∷ without_empty_last (next ∷ parts)

-- the lines: each ends at a newline, and a last line without one counts
abbrev pub lines_of : List ℕ → List (List ℕ)
lines_of octets = without_empty_last (slice_split is_newline octets)

-- the parts of a text without the last one, whose end is still open, unless it is overlong already
abbrev pub without_open_last : List (List ℕ) → List (List ℕ)
without_open_last [] = []
without_open_last (part ∷ []) = if is_overlong part then part ∷ [] else []
without_open_last (part ∷ next ∷ parts) = part ∷ without_open_last (next ∷ parts)

-- the lines that exist whatever follows these octets: those that have ended, and an overlong one
abbrev pub settled_lines : List ℕ → List (List ℕ)
settled_lines octets = without_open_last (slice_split is_newline octets)

-- the lines that are run: of a longer script than the limit, those that are settled by as many octets as the limit
abbrev pub limited_lines : List ℕ → List (List ℕ)
limited_lines script =
    if nat_lt input_limit (length script) then settled_lines (take input_limit script) else lines_of script
