use Rattle.std.proofs.Common.{◌≡◌, sym, ◌∙◌, ap, arith, nat_le, length}
use Rattle.cfdp_paths.specs.Paths.{Path, joined}
use Rattle.cfdp_paths.proofs.Separators.{length-joined}
use Rattle.cfdp_paths.proofs.paths.Path.is_no_longer_than.Goals as goal

pub returns : goal.returns
returns c =
    let own : c.len.result ≡ length (joined c.args.self.now) = omega (arith, c.len.ensures, c.self.inside.octets.ok.0)
    ∙ sym (length-joined c.self.inside.octets.items) ∙ ap (λ (p : Path). length (joined p)) c.self.view_is in
    let other : c.len-2.result ≡ length (joined c.args.other.now) = omega (arith, c.len-2.ensures, c.other.inside.octets.ok.0)
    ∙ sym (length-joined c.other.inside.octets.items) ∙ ap (λ (p : Path). length (joined p)) c.other.view_is in
    ap (λ n. nat_le n c.len-2.result) own ∙ ap (nat_le (length (joined c.args.self.now))) other
