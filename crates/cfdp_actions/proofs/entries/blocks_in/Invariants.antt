use Rattle.std.proofs.Common.{◌≡◌, ◌+◌, drop, sum_by, length}
use Rattle.cfdp_actions.specs.Filestore.{weights, blocks_of}
use Rattle.cfdp_actions.specs.Listed.{vector_octets}
use Rattle.cfdp_actions.specs.code.Listed.{shown_entries}
use Rattle.cfdp_actions.proofs.entries.blocks_in.Given as goal

abbrev pub invariant-loop-entry : goal.invariant-loop-entry
invariant-loop-entry l = l.blocks + weights (shown_entries (drop l.entry-index l.entries)) ≡ weights (shown_entries l.entries)

abbrev pub invariant-loop-list : goal.invariant-loop-list
invariant-loop-list l =
    l.blocks + sum_by (λ octets. blocks_of (length octets)) (vector_octets (drop l.list-index l.staged)) ≡ weights (shown_entries l.fn.entries)
    + sum_by (λ octets. blocks_of (length octets)) (vector_octets l.staged)
