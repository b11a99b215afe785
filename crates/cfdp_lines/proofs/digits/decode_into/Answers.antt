use Rattle.std.proofs.Common.{◌≡◌, ◌+◌, ◌-◌, ◌<◌, ◌++◌, [], true, false, length, take, length-append, length-take, refl, arith}
use Rattle.cfdp_lines.proofs.Pairs.{word_decoded, word_good, word_is_digits}
use Rattle.cfdp_lines.proofs.Vectors.{from_piece, pairs_more, piece_bad}
use Rattle.cfdp_lines.proofs.digits.decode_into.Goals as goal

pub returns-then-decode_pairs-ge16-clause-good : goal.returns-then-decode_pairs-ge16-clause-good
returns-then-decode_pairs-ge16-clause-good c = (
  λ e. absurd cc,
  λ ok.
      let word = c.args.word.now in
      let start = c.pieces.start in
      let sub = c.decode_pairs.new.room in
      word_is_digits word c.args.room.now _ (false ≡ true) c.if-word-ne0.false c.requires refl
      (piece_bad word sub start 1024 (c.decode_pairs.result < 16)
      (from_piece word sub start 1024 _ _ _ (omega arith) (omega arith) c.decode_pairs.ensures) c.args.room.now _ (omega arith)
      (λ few. omega (arith, few, c.if-decode_pairs-ge16.true))) ok,
)

pub pieces-preserved : goal.pieces-preserved
pieces-preserved c =
    let word = c.args.word.now in
    let start = c.pieces.start in
    let sub = c.decode_pairs.new.room in
    record {
      pairs = pairs_more word sub start 1024 (c.decode_pairs.result < 16)
          (from_piece word sub start 1024 _ _ _ (omega arith) (omega arith) c.decode_pairs.ensures)
          c.pieces.room _ start (true ≡ true) (true ≡ true) c.pieces.invariant.pairs (omega arith) (omega arith) (omega arith) (omega arith)
          (λ _. (refl, c.if-decode_pairs-ge16.false)) (λ _ _. refl);
      within = omega arith;
    }

pub returns-then-decode_pairs-lt16-clause-octets : goal.returns-then-decode_pairs-lt16-clause-octets
returns-then-decode_pairs-lt16-clause-octets c =
    let word = c.args.word.now in
    let start = c.pieces.start in
    let left = length c.pieces.room - start in
    let sub = c.decode_pairs-2.new.room in
    word_decoded word _ (start + left) (c.decode_pairs-2.result < 16) c.if-word-ne0.false (omega arith) (omega arith)
    (pairs_more word sub start left (c.decode_pairs-2.result < 16)
    (from_piece word sub start left _ _ _ (omega arith) (omega arith) c.decode_pairs-2.ensures)
    c.pieces.room _ start (true ≡ true) _ c.pieces.invariant.pairs (omega arith) (omega arith) (omega arith) (omega arith)
    (λ few. (refl, few)) (λ _ few. few)) c.if-decode_pairs-lt16.true

pub returns-then-decode_pairs-lt16-clause-good : goal.returns-then-decode_pairs-lt16-clause-good
returns-then-decode_pairs-lt16-clause-good c =
    let word = c.args.word.now in
    let start = c.pieces.start in
    let left = length c.pieces.room - start in
    let sub = c.decode_pairs-2.new.room in (
      λ e. word_good word _ (start + left) (c.decode_pairs-2.result < 16) c.if-word-ne0.false (omega arith)
          (omega (arith, length-append (take start c.pieces.room) (sub ++ []), length-append sub [], length-take start c.pieces.room))
          (pairs_more word sub start left (c.decode_pairs-2.result < 16)
          (from_piece word sub start left _ _ _ (omega arith) (omega arith) c.decode_pairs-2.ensures)
          c.pieces.room [] start (true ≡ true) _ c.pieces.invariant.pairs (omega arith) (omega arith) (omega arith) (omega arith)
          (λ few. (refl, few)) (λ _ few. few)) c.if-decode_pairs-lt16.true,
      λ ok. refl,
    )

pub returns-else-decode_pairs-lt16-clause-good : goal.returns-else-decode_pairs-lt16-clause-good
returns-else-decode_pairs-lt16-clause-good c = (
  λ e. absurd cc,
  λ ok.
      let word = c.args.word.now in
      let start = c.pieces.start in
      let left = length c.pieces.room - start in
      let sub = c.decode_pairs-2.new.room in
      word_is_digits word c.args.room.now _ (false ≡ true) c.if-word-ne0.false c.requires refl
      (piece_bad word sub start left (c.decode_pairs-2.result < 16)
      (from_piece word sub start left _ _ _ (omega arith) (omega arith) c.decode_pairs-2.ensures) c.args.room.now _ (omega arith)
      (λ few. omega (arith, few, c.if-decode_pairs-lt16.false))) ok,
)
