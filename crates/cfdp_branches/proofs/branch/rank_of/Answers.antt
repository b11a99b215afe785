use Rattle.std.proofs.Common.{rules, ◌∙◌}
use Rattle.std.specs.Cmp.Lexicographic.{slice_cmp}
use Rattle.std.specs.Ordering.{is_lt, nat_cmp}
use Rattle.std.proofs.lemmas.List.Sorted.{IsPartitionPoint-from_clause}
use Rattle.cfdp_paths.proofs.InOrder.{prefix_len_of_point}
use Rattle.cfdp_branches.proofs.Seeking.{names_parted, rank-under_names}
use Rattle.cfdp_branches.proofs.branch.rank_of.Goals as goal

pub returns-clause-value : goal.returns-clause-value
returns-clause-value g c =
    let n = c.args.name.now in
    prefix_len_of_point _ c.args.twigs.now c.partition_point.result c.partition_point.ensures.bound
    (IsPartitionPoint-from_clause (λ t. is_lt (slice_cmp nat_cmp t.name.items n)) _ _ c.partition_point.ensures.partitioned (names_parted n c.args.twigs.now
    c.requires)
    (λ a r q called. search rules))
    ∙ rank-under_names n c.args.twigs.now
