use Rattle.std.proofs.Common.{◌++◌, ◌∙◌, subst, List}
use Rattle.std.specs.Bool.{⊤}
use Rattle.std.specs.Option.{option_copied}
use Rattle.cfdp_paths.specs.Paths.{Path}
use Rattle.cfdp_leases.specs.Items.{items_of}
use Rattle.cfdp_leases.proofs.Sets.{exists-append_right}
use Rattle.cfdp_states.specs.code.Sparse.{AreSame, paths_in}
use Rattle.cfdp_states.proofs.SparsePaths.{holds_all, sees_by_more}
use Rattle.cfdp_states.proofs.origins.shown.Goals as goal

pub returns-clause-leased : goal.returns-clause-leased
returns-clause-leased c =
    let one = paths_in c.add_all.new.paths in
    let two = paths_in c.add_all-2.new.paths in
    let named = c.in_ok-named.named.items in
    holds_all one two (paths_in c.add_all-3.new.paths) c.shared-shared.result.now c.exclusive-exclusive.result.now named c.args.footprint.now
    (subst (λ (es : List (Path × ⊤)). AreSame one (paths_in es ++ c.shared-shared.result.now)) c.new-paths.ensures c.in_ok-add_all.ensures)
    c.in_ok-add_all-2.ensures
    (subst (λ (more : List Path). AreSame (paths_in c.add_all-3.new.paths) (two ++ more)) c.deref.ensures.value c.in_ok-add_all-3.ensures)
    c.exclusive-exclusive.ensures.paths c.shared-shared.ensures.paths

pub returns-clause-sees : goal.returns-clause-sees
returns-clause-sees c =
    let two = paths_in c.add_all-2.new.paths in
    let named = c.in_ok-named.named.items in
    let same : AreSame (paths_in c.add_all-3.new.paths) (two ++ named) =
    subst (λ (more : List Path). AreSame (paths_in c.add_all-3.new.paths) (two ++ more)) c.deref.ensures.value c.in_ok-add_all-3.ensures in
    sees_by_more (paths_in c.add_all-3.new.paths) named (items_of (option_copied c.args.destination) c.args.requests.now)
    (λ x h. same x ∙ exists-append_right x two named h) c.in_ok-named.ensures
