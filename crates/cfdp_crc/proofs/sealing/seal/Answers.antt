use Rattle.std.proofs.Common.{◌≡◌, ◌/◌, ◌%◌, ℕ, take, drop, length, List, ◌∷◌, Ok, sym, ap, ◌∙◌}
use Rattle.cfdp_crc.specs.Seal.{plain_len, with_flag}
use Rattle.cfdp_crc.proofs.SealedBuffer.{length-with_flag, sealed-is, rest-stays}
use Rattle.cfdp_crc.proofs.sealing.seal.Goals as goal

pub returns-clause-ok : goal.returns-clause-ok
returns-clause-ok c =
    let front = c.split_at_mut-pdu.ensures.front in
    let plain : plain_len (take c.args.len c.args.buffer.now) ≡ Ok c.in_ok-field.field = sym c.plain_len.ensures.value ∙ c.in_ok-field.was in
    let flag : c.set_flag.new.pdu ≡ with_flag (take c.args.len c.args.buffer.now) c.in_ok-field.field =
    c.set_flag.ensures ∙ ap (λ (xs : List ℕ). with_flag xs c.in_ok-field.field) front in
    let long : length (take c.args.len c.args.buffer.now) ≡ c.args.len = ap length (sym front) ∙ c.split_at_mut-pdu.ensures.front_len in
    sealed-is (take c.args.len c.args.buffer.now) c.set_flag.new.pdu c.put_crc.new.room
    (drop 2 c.split_at_mut-pdu.result.1.now) c.args.len c.in_ok-field.field c.crc16.result plain flag long c.crc16.ensures c.put_crc.ensures

pub returns-clause-rest : goal.returns-clause-rest
returns-clause-rest c =
    let back = c.split_at_mut-pdu.ensures.back in
    let long : length c.set_flag.new.pdu ≡ c.args.len =
    ap length c.set_flag.ensures ∙ length-with_flag c.split_at_mut-pdu.result.0.now c.in_ok-field.field ∙ c.split_at_mut-pdu.ensures.front_len in
    let room : c.put_crc.new.room ≡ c.crc16.result / 256 ∷ c.crc16.result % 256 ∷ drop 2 (drop c.args.len c.args.buffer.now) =
    c.put_crc.ensures ∙ ap (λ (xs : List ℕ). c.crc16.result / 256 ∷ c.crc16.result % 256 ∷ drop 2 xs) back in
    rest-stays c.args.buffer.now c.set_flag.new.pdu c.put_crc.new.room c.args.len (c.crc16.result / 256) (c.crc16.result % 256) long room
