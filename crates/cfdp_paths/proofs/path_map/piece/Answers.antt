use Rattle.std.proofs.Common.{rules}
use Rattle.std.specs.Option.{option_copied}
use Rattle.std.proofs.lemmas.List.Sorted.{IsPartitionPoint-from_clause}
use Rattle.cfdp_paths.specs.Paths.{is_at_or_below}
use Rattle.cfdp_paths.specs.code.Paths.{path_in}
use Rattle.cfdp_paths.proofs.Pieces.{piece_of, piece_from_rank}
use Rattle.cfdp_paths.proofs.path_map.piece.Goals as goal

pub returns : goal.returns
returns g c =
    let p = c.args.path.now in
    let q = path_in (option_copied c.octets.result) in
    let es = c.args.entries.now in
    piece_of p q es c.rank-start.result c.partition_point-count.result c.octets.ensures.path c.rank-start.ensures.value c.rank-start.ensures.within
    c.partition_point-count.ensures.bound
    (IsPartitionPoint-from_clause (λ e. is_at_or_below e.0 p) _ _ c.partition_point-count.ensures.partitioned
    (piece_from_rank p q es c.rank-start.result c.octets.ensures.path c.rank-start.ensures.value c.requires) (λ a r q called. search rules))
