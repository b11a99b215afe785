use Rattle.std.proofs.Common.{sym, ◌∙◌, subst, ◌++◌, ◌-◌, map, drop, length, List, arith}
use Rattle.cfdp_paths.specs.Paths.{Path}
use Rattle.cfdp_actions.specs.Actions.{Perform}
use Rattle.cfdp_leases.specs.Footprint.{named_in}
use Rattle.cfdp_states.specs.code.Sparse.{AreSame, SeesBy, shown_before}
use Rattle.cfdp_states.proofs.SparseLists.{sees_next, sees_end}
use Rattle.cfdp_states.proofs.SparsePaths.{sees_by_more}
use Rattle.cfdp_states.proofs.origins.before_all.Goals as goal

pub loop-number-init : goal.loop-number-init
loop-number-init c =
    let requests = c.args.requests.now in
    subst (λ (paths : List Path). SeesBy paths (map Perform (drop (length requests) requests))) (sym c.new-paths.ensures.items)
    (sees_end requests (length requests) (omega arith))

pub loop-number-preserved : goal.loop-number-preserved
loop-number-preserved c =
    let request = c.index-requests-number.result in
    let same : AreSame c.add_named.new.paths.items (shown_before request c.loop-number.paths.items) =
    subst (λ (paths : List Path). AreSame c.add_named.new.paths.items (paths ++ named_in (Perform request))) c.in_ok-paths.ensures
    c.in_ok-add_named.ensures.added in
    sees_by_more c.add_named.new.paths.items (shown_before request c.loop-number.paths.items)
    (map Perform (drop (c.loop-number.number - 1) c.args.requests.now)) (λ x h. same x ∙ h)
    (sees_next c.args.requests.now c.loop-number.paths.items (c.loop-number.number - 1) c.loop-number.number request (omega arith) (omega arith)
    c.index-requests-number.is c.in_ok-add_named.ensures.named c.loop-number.invariant)
