use Rattle.std.proofs.Common.{rules, ◌≡◌, sym, length, refl}
use Rattle.std.proofs.lemmas.List.{append-nil}
use Rattle.cfdp_lines.proofs.Decoding.{decode_of-empty}
use Rattle.cfdp_lines.proofs.hexadecimal.decode_word.Goals as goal

pub returns-then-is_empty-clause-octets : goal.returns-then-is_empty-clause-octets
returns-then-is_empty-clause-octets c =
    let empty : length c.args.word.now ≡ 0 = search rules in
    rw (decode_of-empty c.args.word.now empty) (sym (append-nil c.args.octets.now.items))

pub returns-then-is_empty-clause-good : goal.returns-then-is_empty-clause-good
returns-then-is_empty-clause-good c =
    let empty : length c.args.word.now ≡ 0 = search rules in
    rw (decode_of-empty c.args.word.now empty) refl
