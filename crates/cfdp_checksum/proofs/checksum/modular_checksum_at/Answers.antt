use Rattle.std.proofs.Common.{◌≡◌, ◌%◌, ap, ◌∙◌, take, drop, arith}
use Rattle.std.proofs.lemmas.List.{take-append-drop}
use Rattle.cfdp_checksum.specs.Checksum.{weighed_from, checksum_at, checksum}
use Rattle.cfdp_checksum.proofs.ChecksumSteps.{only-word-offsets-count, offsets-add-up, rest-from-start}
use Rattle.cfdp_checksum.proofs.checksum.modular_checksum_at.Goals as goal

pub returns-then-word_offset-eq0 : goal.returns-then-word_offset-eq0
returns-then-word_offset-eq0 c = c.modular_checksum.ensures ∙ only-word-offsets-count 0 c.args.offset c.args.octets.now
    (omega (arith, c.if-word_offset-eq0.true))

pub returns : goal.returns
returns c =
    let at = c.args.offset in let word_offset = at % 4 in let xs = c.args.octets.now in let n = c.min.result in
    let word : c.first_word.result ≡ weighed_from word_offset (take n xs) = c.first_word.ensures ∙ ap (weighed_from word_offset) c.split_at.ensures.front in
    let back : c.modular_checksum-2.result ≡ checksum (drop n xs) = c.modular_checksum-2.ensures ∙ ap checksum c.split_at.ensures.back in
    omega (
      arith,
      word,
      back,
      rest-from-start word_offset n xs (omega arith) c.min.ensures,
      offsets-add-up word_offset (take n xs) (drop n xs),
      ap (checksum_at word_offset) (take-append-drop n xs),
      only-word-offsets-count at word_offset xs (omega arith),
    )
