use Rattle.std.proofs.Common.{◌≡◌, map, drop, vec_len}
use Rattle.cfdp_actions.specs.Actions.{Perform}
use Rattle.cfdp_verifier.specs.Verdict.{parsed_from}
use Rattle.cfdp_verifier.proofs.Prepended.{prepended}
use Rattle.cfdp_verifier.proofs.parsing.parse_requests.Given as goal

-- the requests so far are those before the one that is next
abbrev pub invariant-loop-number : goal.invariant-loop-number
invariant-loop-number l =
    (parsed_from 0 l.requests ≡ prepended (map Perform l.parsed.items) (parsed_from l.number (drop l.number l.requests)))
    × (vec_len l.parsed ≡ l.number)
