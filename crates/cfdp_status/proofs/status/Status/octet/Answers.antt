use Rattle.std.proofs.Common.{◌≡◌, ℕ, ◌+◌, ◌*◌, ◌%◌, Some, ap, sym, subst, ◌∙◌, arith}
use Rattle.cfdp_status.specs.Codes.{beside, status_octets, octet_of, code_of}
use Rattle.cfdp_status.proofs.Octets.{beside-octet_of}
use Rattle.cfdp_status.proofs.status.Status.octet.Goals as goal

pub returns-clause-in_table : goal.returns-clause-in_table
returns-clause-in_table c =
    let value : c.code.result * 16 % 256 + c.status_code.result ≡ octet_of c.args.self =
    omega (arith, c.code.ensures.value ∙ ap code_of c.action.ensures, c.status_code.ensures, c.code.ensures.below_nine) in
    subst (λ (octet : ℕ). beside status_octets octet ≡ Some c.args.self) (sym value) (beside-octet_of c.args.self)
