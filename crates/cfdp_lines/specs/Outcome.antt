-- What a run did, by the octets that its reader gave and those that its writer holds.
--
--   WholeRun   the whole script was run, and its whole text was written
--   BadRun     the script was run up to its first bad line, and the text before that was written
--   LongRun    the script is too long; what of it is run has no bad line, and its text was written
--   PartRun    some of the script was read, and a beginning of its text was written
--   LostRun    the same, of a writer that failed, and may no longer show its octets
use Rattle.std.specs.Prelude.{◌≡◌, ℕ, ◌<◌, ◌≤◌, List, length, Option, Some, None, IfSome}
use Rattle.std.specs.Io.KnownBytes.{Appends}
use Rattle.cfdp_lines.specs.Lines.{input_limit}
use Rattle.cfdp_lines.specs.Report.{script_report, limited_report}
use Rattle.cfdp_streams.specs.Streams.{AppendsOrLost, Begins, ReadsOff, ReadsAtMost}

-- of what the reader still had to give, where it says that
abbrev pub WholeRun : {State : Type 0} → (State → List ℕ → Option (State × List ℕ)) → State → Option (List ℕ) →
    Option (List ℕ)
    → Option (List ℕ) → Type 0
WholeRun answer start input old new = IfSome input (λ octets.
    (length octets ≤ input_limit)
    × ((script_report answer start octets).bad_line ≡ None)
    × Appends old new (script_report answer start octets).text)

-- the bad line is the first of all, and it is one of those that are run: of a longer script than the limit, one that as
-- many octets as the limit show to be bad, whatever follows them
abbrev pub BadRun : {State : Type 0} → (State → List ℕ → Option (State × List ℕ)) → State → ℕ → Option (List ℕ)
    → Option (List ℕ) → Option (List ℕ) → Option (List ℕ) → Type 0
BadRun answer start number input left old new = ReadsAtMost input_limit input left × IfSome input (λ octets.
    ((limited_report answer start octets).bad_line ≡ Some number)
    × ((script_report answer start octets).bad_line ≡ Some number)
    × Appends old new (script_report answer start octets).text)

abbrev pub LongRun : {State : Type 0} → (State → List ℕ → Option (State × List ℕ)) → State → Option (List ℕ) →
    Option (List ℕ)
    → Option (List ℕ) → Type 0
LongRun answer start input old new = IfSome input (λ octets.
    (input_limit < length octets)
    × ((limited_report answer start octets).bad_line ≡ None)
    × Appends old new (limited_report answer start octets).text)

-- what was read, this many octets at most, is reported as if the script ended there
pub record PartRun {State : Type 0} (answer : State → List ℕ → Option (State × List ℕ)) (start : State) (most : ℕ)
    (input left old new : Option (List ℕ)) : Type 0 where
  pub octets : List ℕ
  pub written : List ℕ
  pub read : ReadsOff input left octets
  pub within : length octets ≤ most
  pub begins : Begins (script_report answer start octets).text written
  pub appended : Appends old new written

pub record LostRun {State : Type 0} (answer : State → List ℕ → Option (State × List ℕ)) (start : State) (most : ℕ)
    (input left old new : Option (List ℕ)) : Type 0 where
  pub octets : List ℕ
  pub written : List ℕ
  pub read : ReadsOff input left octets
  pub within : length octets ≤ most
  pub begins : Begins (script_report answer start octets).text written
  pub appended : AppendsOrLost old new written
