use Rattle.std.proofs.Common.{sym, subst}
use Rattle.cfdp_paths.specs.PathMaps.{IsOrdered}
use Rattle.cfdp_branches.specs.code.Branches.{under_names}
use Rattle.cfdp_branches.specs.code.Twigs.{twigs_of}
use Rattle.cfdp_branches.proofs.branch.Branch.take_value.Goals as goal

pub levels_of-self-inside-requires : goal.levels_of-self-inside-requires
levels_of-self-inside-requires g c = subst (λ ts. IsOrdered (under_names (twigs_of ts))) (sym c.deref.ensures.value) c.self.invariant.0
