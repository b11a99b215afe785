use Rattle.std.proofs.Common.{◌≡◌, ℕ, ◌*◌, ◌/◌, ◌%◌, ◌^◌, List, get_or, ap, ◌∙◌, arith}
use Rattle.std.specs.Int.Bits.{bit_xor}
use Rattle.cfdp_crc.specs.Crc.{divided}
use Rattle.cfdp_crc.proofs.Tabulating.{by_word}
use Rattle.cfdp_crc.proofs.crc.with_octet.Goals as goal

pub returns : goal.returns
returns c =
    let left = c.args.left in
    let octet = c.args.octet in
    let high-is : get_or c.to_be_bytes.result 0 0 ≡ left / 256 =
    ap (λ (xs : List ℕ). get_or xs 0 0) c.to_be_bytes.ensures ∙ omega arith in
    let low-is : c.from.result ≡ left % 256 = c.from.ensures ∙ ap (λ (xs : List ℕ). get_or xs 1 0) c.to_be_bytes.ensures ∙ omega arith in
    ap (λ (x : ℕ). bit_xor x (c.from.result * 256)) (c.word_of.ensures ∙ ap (λ (h : ℕ). divided 8 (bit_xor h octet * 2 ^ 8)) high-is)
    ∙ ap (λ (l : ℕ). bit_xor (divided 8 (bit_xor (left / 256) octet * 2 ^ 8)) (l * 256)) low-is
    ∙ by_word left octet (omega arith) (omega arith)
