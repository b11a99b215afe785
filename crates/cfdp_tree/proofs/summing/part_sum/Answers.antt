use Rattle.std.proofs.Common.{◌≡◌, ◌+◌, ◌-◌, ◌%◌, take, drop, sym, ap, ◌∙◌, arith}
use Rattle.cfdp_checksum.specs.Checksum.{checksum_at}
use Rattle.cfdp_checksum.proofs.ChecksumSteps.{only-word-offsets-count}
use Rattle.cfdp_tree.proofs.summing.part_sum.Goals as goal

pub returns-then-offset-eq0 : goal.returns-then-offset-eq0
returns-then-offset-eq0 c =
    let at = c.args.at in let len = c.args.len in let octets = drop 8 c.args.block.now in
    let first : at ≡ 0 = omega (arith, c.requires, c.if-len-eq-PAYLOAD_OCTETS.true) in let whole : at + len - at ≡ 120 =
    omega (arith, c.if-len-eq-PAYLOAD_OCTETS.true) in
    let start : 0 % 4 ≡ c.args.offset % 4 = sym c.if-offset-eq0.true in
    c.modular_checksum.ensures ∙ only-word-offsets-count 0 c.args.offset (take 120 octets) start
    ∙ (λ k. checksum_at c.args.offset (take (sym whole k) (drop (sym first k) octets)))

pub returns : goal.returns
returns c = c.modular_checksum_at.ensures ∙ ap (checksum_at c.args.offset) c.part_of.ensures
