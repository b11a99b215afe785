use Rattle.std.proofs.Common.{refl}
use Rattle.cfdp_actions.proofs.PresentLaws.{same_present}
use Rattle.cfdp_actions.proofs.protected.ProtectedPartialEq.eq.Goals as goal

pub returns : goal.returns
returns c =
    let xs = c.self.inside.prefixes.items in
    let ys = c.other.inside.prefixes.items in
    let rows = same_present xs ys c.self.invariant c.other.invariant in
    rw (c.eq.ensures, c.as_slice.ensures.value, c.as_slice-2.ensures.value, rows, ← c.self.view_is, ← c.other.view_is) refl
