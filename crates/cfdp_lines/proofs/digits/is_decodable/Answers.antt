use Rattle.std.proofs.Common.{sym, ◌∙◌, refl}
use Rattle.std.proofs.lemmas.List.Sums.{AllPass-from_list_all, list_all-from_AllPass}
use Rattle.hex.specs.Hex.{decode_of, is_hex_digit}
use Rattle.hex.proofs.HexLemmas.{decode_of-digits, decode_of-ok}
use Rattle.cfdp_lines.specs.code.Hexadecimal.{octets_or_none}
use Rattle.cfdp_lines.proofs.Decoding.{ok_octets}
use Rattle.cfdp_lines.proofs.digits.is_decodable.Goals as goal

pub returns-then-word-eq0 : goal.returns-then-word-eq0
returns-then-word-eq0 c =
    let word = c.args.word.now in (
      λ all.
          let decoded = decode_of-digits word c.if-word-eq0.true (AllPass-from_list_all is_hex_digit word (sym c.are_digits.ensures ∙ all)) in
          rw decoded.1 refl,
      λ ok. c.are_digits.ensures
          ∙ list_all-from_AllPass is_hex_digit word (decode_of-ok word (octets_or_none (decode_of word)) (ok_octets (decode_of word) ok)).1,
    )
