use Rattle.std.proofs.Common.{ℕ, List, get_or, ap, ◌∙◌, arith}
use Rattle.cfdp_lines.proofs.Pairs.{value_of-is}
use Rattle.cfdp_lines.proofs.digits.value_of.Goals as goal

pub returns : goal.returns
returns c =
    let value = value_of-is c.args.octet (omega arith) in
    ap (λ (vs : List ℕ). get_or vs c.from.result 0) c.values.ensures ∙ cc
