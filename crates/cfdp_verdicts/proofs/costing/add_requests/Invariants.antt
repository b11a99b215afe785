use Rattle.std.proofs.Common.{◌++◌, ℕ, List, length, map}
use Rattle.std.specs.List.{AllByRecursion}
use Rattle.cfdp_actions.specs.Actions.{Answer, Item, Perform}
use Rattle.cfdp_actions.specs.Filestore.{Filestore}
use Rattle.cfdp_leases.specs.Footprint.{Footprint, IsWithin}
use Rattle.cfdp_states.specs.Views.{HasRun}
use Rattle.cfdp_verdicts.specs.Costs.{costs_from}
use Rattle.cfdp_verdicts.proofs.Running.{Goes}
use Rattle.cfdp_verdicts.proofs.costing.add_requests.Given as goal

abbrev pub invariant-requests : goal.invariant-requests
invariant-requests l =
    (fp : Footprint) (F : Filestore) (x : List ℕ) (done : List Item) (answers : List Answer) → HasRun l.initial.view fp F x done answers →
    AllByRecursion (IsWithin fp) (map Perform l.requests) →
    Goes fp F x l.initial.view.prefixes l.view (map Perform l.rest) l.costs.items (l.initial.costs.items
    ++ costs_from l.initial.view.prefixes F x done (map Perform l.requests))

abbrev pub decreases-requests : goal.decreases-requests
decreases-requests l = length l.rest
