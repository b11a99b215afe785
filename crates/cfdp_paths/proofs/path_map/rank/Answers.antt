use Rattle.std.proofs.Common.{rules, sym, ap, ◌∙◌}
use Rattle.std.specs.Option.{option_copied}
use Rattle.std.specs.Ordering.{is_lt}
use Rattle.std.proofs.lemmas.List.Sorted.{IsPartitionPoint-from_clause}
use Rattle.cfdp_paths.specs.Paths.{path_cmp}
use Rattle.cfdp_paths.specs.code.Paths.{path_in}
use Rattle.cfdp_paths.proofs.InOrder.{all_before, prefix_len_of_point, ranks_parted}
use Rattle.cfdp_paths.proofs.path_map.rank.Goals as goal

pub returns-in-Some-clause-value : goal.returns-in-Some-clause-value
returns-in-Some-clause-value g c =
    let k = path_in (option_copied c.args.sought) in
    all_before k c.args.entries.now c.in-Some.last.now c.requires (sym c.in-Some.ensures.value) (ap is_lt (sym c.cmp_sought.ensures) ∙ sym c.is_lt.ensures
    ∙ c.if-is_lt.true)

pub returns-in_default-clause-value : goal.returns-in_default-clause-value
returns-in_default-clause-value g c =
    let k = path_in (option_copied c.args.sought) in
    prefix_len_of_point _ c.args.entries.now c.partition_point.result c.partition_point.ensures.bound
    (IsPartitionPoint-from_clause (λ e. is_lt (path_cmp e.0 k)) _ _ c.partition_point.ensures.partitioned (ranks_parted k c.args.entries.now c.requires)
    (λ a r q called. search rules))
