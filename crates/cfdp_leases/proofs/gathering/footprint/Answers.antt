use Rattle.std.proofs.Common.{sym, ◌∙◌, ap, ◌++◌, take}
use Rattle.std.specs.Prelude.{flat_map}
use Rattle.std.specs.FinSet as set
use Rattle.std.specs.Option.{option_copied}
use Rattle.cfdp_paths.specs.Paths.{ancestors}
use Rattle.cfdp_actions.specs.Actions.{Perform}
use Rattle.cfdp_leases.specs.Footprint.{exclusive_in, read_in, shared_in}
use Rattle.cfdp_leases.specs.Items.{items_of}
use Rattle.cfdp_leases.proofs.Conflict.{gathered}
use Rattle.cfdp_leases.proofs.Closed.{none_closed, listed_closed, same_set-swap}
use Rattle.cfdp_leases.proofs.Ordered.{sorted-none, same_set-append, same_set-then, items-more}
use Rattle.cfdp_leases.proofs.gathering.footprint.Goals as goal

pub add_install-requires-clause-exclusive_ordered : goal.add_install-requires-clause-exclusive_ordered
add_install-requires-clause-exclusive_ordered c = rw (c.new-exclusive.ensures.items) sorted-none

pub add_install-requires-clause-shared_ordered : goal.add_install-requires-clause-shared_ordered
add_install-requires-clause-shared_ordered c = rw (c.new-shared.ensures.items) sorted-none

pub add_install-requires-clause-above : goal.add_install-requires-clause-above
add_install-requires-clause-above c = rw (c.new-shared.ensures.items) none_closed

-- what was gathered so far has the ancestors of its paths
pub add_above-requires-clause-above : goal.add_above-requires-clause-above
add_above-requires-clause-above c =
    listed_closed (items_of (option_copied c.args.destination) (take c.loop-request.request-index c.args.requests.now)) c.loop-request.shared.items
    c.loop-request.invariant.shared

pub loop-request-preserved : goal.loop-request-preserved
loop-request-preserved c =
    let destination = option_copied c.args.destination in
    let requests = take c.loop-request.request-index c.args.requests.now in
    let item = Perform c.request-item.result in
    record {
      exclusive_ordered = c.in_ok-add_changed.ensures.ordered;
      shared_ordered = c.in_ok-add_read.ensures.ordered;
      named = c.in_ok-add_changed.ensures.named c.loop-request.invariant.named;
      exclusive =
          c.in_ok-add_changed.ensures.added
          ∙ same_set-append c.loop-request.exclusive.items (flat_map exclusive_in (items_of destination requests))
          (exclusive_in item) c.loop-request.invariant.exclusive
          ∙ ap set.from_list (sym (items-more exclusive_in destination c.args.requests.now c.loop-request.request-index c.request-item.result
          c.loop-request-test.true c.request-item.is));
      shared =
          same_set-then c.loop-request.shared.items c.add_above.new.paths.items c.add_read.new.paths.items
          (flat_map ancestors (exclusive_in item ++ read_in item)) (read_in item)
          c.in_ok-parent.ensures.added c.in_ok-add_read.ensures.added
          ∙ same_set-swap c.loop-request.shared.items (flat_map ancestors (exclusive_in item ++ read_in item)) (read_in item)
          ∙ same_set-append c.loop-request.shared.items (flat_map shared_in (items_of destination requests)) (shared_in item) c.loop-request.invariant.shared
          ∙ ap set.from_list (sym (items-more shared_in destination c.args.requests.now c.loop-request.request-index c.request-item.result
          c.loop-request-test.true c.request-item.is));
    }

pub invariant_of-result : goal.invariant_of-result
invariant_of-result c = record {
  of_exclusive = c.loop-request.invariant.exclusive_ordered;
  of_shared = c.loop-request.invariant.shared_ordered;
  ancestors =
      gathered (items_of (option_copied c.args.destination) (take c.loop-request.request-index c.args.requests.now)) c.loop-request.exclusive.items
      c.loop-request.shared.items
      c.loop-request.invariant.exclusive c.loop-request.invariant.shared c.loop-request.invariant.named;
}
