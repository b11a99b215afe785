use Rattle.std.proofs.Common.{sym, ◌∙◌}
use Rattle.std.specs.Cmp.Lexicographic.{slice_cmp}
use Rattle.std.specs.Ordering.{nat_cmp}
use Rattle.cfdp_paths.proofs.Separators.{path_cmp-names_of}
use Rattle.cfdp_paths.proofs.paths.PathOrd.cmp.Goals as goal

pub returns : goal.returns
returns c =
    rw (← c.self.view_is, ← c.other.view_is)
    (c.order.ensures ∙ (λ i. slice_cmp nat_cmp (c.deref.ensures.value i) (c.deref-2.ensures.value i))
    ∙ sym (path_cmp-names_of c.self.inside.octets.items c.other.inside.octets.items))
