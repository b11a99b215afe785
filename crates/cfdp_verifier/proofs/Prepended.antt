-- Names that are parsed one request after another: the items so far, before what the rest of the list gives.
--     prepended items rest        the items before the rest, or the rest's first name that is no path
use Rattle.std.proofs.Common.{List, ◌++◌}
use Rattle.cfdp_actions.specs.Actions.{Item}
use Rattle.cfdp_verifier.specs.Verdict.{Parsed, Bad, Good}

abbrev pub prepended : List Item → Parsed → Parsed
prepended items (Bad place) = Bad place
prepended items (Good rest) = Good (items ++ rest)
