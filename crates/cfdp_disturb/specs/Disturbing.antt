-- A script whose PDUs come over a bad link.
--     is_pdu_line           a line that hands in a PDU: `pdu HEX ..`, or `at T pdu HEX ..`
--     Drawn                 a line, and what was drawn for it
--     copies_of             a line as often as it comes
--     said                  what results from a line by itself: a line that is no PDU line comes once
--     is_held a             a PDU line for which it was drawn that it is swapped
--     both a b              what results from such a line and the one after it: where that is a PDU line they are
--                           swapped
--     disturbed             the lines that are written
--     lines_text            lines, each with a newline after it
use Rattle.std.specs.Prelude.{ℕ, Bool, false, ◌&&◌, ◌||◌, if◌then◌else◌, List, [], ◌∷◌, ◌++◌, bytes_eq, codes}
use Rattle.std.specs.List.{flat_map}
use Rattle.cfdp_lines.specs.Words.{words_of}
pub use Rattle.cfdp_disturb.specs.declared.draws.Copies.{Copies}
use Rattle.cfdp_disturb.specs.declared.draws.Copies.TheVariants.{Lost, Once, Twice}
pub use Rattle.cfdp_disturb.specs.declared.draws.Draw.{Draw}

unfoldable pub is_pdu : List ℕ → Bool
is_pdu word = bytes_eq word (codes "pdu")

unfoldable pub is_at : List ℕ → Bool
is_at word = bytes_eq word (codes "at")

abbrev pub is_pdu_third : List (List ℕ) → Bool
is_pdu_third (time ∷ word ∷ words) = is_pdu word
is_pdu_third words = false

abbrev pub is_pdu_by : List (List ℕ) → Bool
is_pdu_by [] = false
is_pdu_by (word ∷ words) = is_pdu word || (is_at word && is_pdu_third words)

unfoldable pub is_pdu_line : List ℕ → Bool
is_pdu_line line = is_pdu_by (words_of line)

abbrev pub Drawn : Type 0
Drawn = List ℕ × Draw

abbrev pub copies_of : Copies → List ℕ → List (List ℕ)
copies_of Lost line = []
copies_of Once line = line ∷ []
copies_of Twice line = line ∷ line ∷ []

unfoldable pub said : Drawn → List (List ℕ)
said a = if is_pdu_line a.0 then copies_of a.1.copies a.0 else a.0 ∷ []

unfoldable pub is_held : Drawn → Bool
is_held a = a.1.swapped && is_pdu_line a.0

unfoldable pub both : Drawn → Drawn → List (List ℕ)
both a b = if is_pdu_line b.0 then said b ++ said a else said a ++ said b

unfoldable pub disturbed : List Drawn → List (List ℕ)
disturbed [] = []
disturbed (a ∷ []) = said a
disturbed (a ∷ b ∷ rest) = if is_held a then both a b ++ disturbed rest else said a ++ disturbed (b ∷ rest)

abbrev pub with_newline : List ℕ → List ℕ
with_newline line = line ++ 10 ∷ []

unfoldable pub lines_text : List (List ℕ) → List ℕ
lines_text lines = flat_map with_newline lines
