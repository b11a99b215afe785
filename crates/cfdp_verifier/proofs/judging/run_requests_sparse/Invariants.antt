use Rattle.std.proofs.Common.{◌≡◌, ◌≤◌, ℕ, map, drop}
use Rattle.cfdp_actions.specs.Filestore.{Filestore, blocks}
use Rattle.cfdp_actions.specs.Actions.{Perform}
use Rattle.cfdp_states.specs.Sparse.{IsSparseViewOf}
use Rattle.cfdp_verifier.proofs.Running.{GoesOn}
use Rattle.cfdp_verifier.proofs.judging.run_requests_sparse.Given as goal

-- each request so far was successful, and the list goes on from here
abbrev pub invariant-loop-number : goal.invariant-loop-number
invariant-loop-number l =
    (l.view.view.prefixes ≡ l.initial.view.view.prefixes)
    × ((F : Filestore) (start high taken : ℕ) → IsSparseViewOf l.initial.view.view (map Perform l.requests) F start high taken → blocks F ≤ high →
    GoesOn l.initial.view.view.prefixes F (map Perform l.requests) start high taken (IsSparseViewOf l.view.view (map Perform (drop l.number l.requests)))
    l.number (map Perform (drop l.number l.requests)))
