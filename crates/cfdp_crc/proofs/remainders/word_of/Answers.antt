use Rattle.std.proofs.Common.{ℕ, List, get_or, ap, ◌∙◌, arith}
use Rattle.cfdp_crc.proofs.Tabulating.{word_of-is}
use Rattle.cfdp_crc.proofs.remainders.word_of.Goals as goal

pub returns : goal.returns
returns c =
    let word = word_of-is c.args.octet (omega arith) in
    ap (λ (ws : List ℕ). get_or ws c.from.result 0) c.words.ensures ∙ cc
