use Rattle.cfdp_lines.proofs.Decoding.{one_word-decoded, one_word-bad, one_word-some}
use Rattle.cfdp_lines.proofs.hexadecimal.try_decode.Goals as goal

pub returns-in-None-clause-octets : goal.returns-in-None-clause-octets
returns-in-None-clause-octets c =
    one_word-decoded c.args.line.now c.in-None.ensures c.decode_word.result c.decode_word.new.octets.items
    (rw c.clear.ensures.items at c.decode_word.ensures.octets) c.decode_word.ensures.good

pub returns-in-None-clause-bad : goal.returns-in-None-clause-bad
returns-in-None-clause-bad c = λ e. one_word-bad c.args.line.now c.in-None.ensures (c.decode_word.ensures.bad e)

pub returns-in-None-clause-some : goal.returns-in-None-clause-some
returns-in-None-clause-some c = λ e. one_word-some c.args.line.now c.in-None.ensures (c.decode_word.ensures.some e)
