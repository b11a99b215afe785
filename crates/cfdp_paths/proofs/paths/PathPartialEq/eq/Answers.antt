use Rattle.std.proofs.Common.{sym, ◌∙◌, nat_eq}
use Rattle.std.specs.Cmp.Lexicographic.{pointwise}
use Rattle.cfdp_paths.proofs.Separators.{same_path-names_of}
use Rattle.cfdp_paths.proofs.paths.PathPartialEq.eq.Goals as goal

pub returns : goal.returns
returns c =
    rw (← c.self.view_is, ← c.other.view_is)
    (c.is_same.ensures ∙ (λ i. pointwise nat_eq (c.deref.ensures.value i) (c.deref-2.ensures.value i))
    ∙ sym (same_path-names_of c.self.inside.octets.items c.other.inside.octets.items))
