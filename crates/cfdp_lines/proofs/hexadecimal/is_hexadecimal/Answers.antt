use Rattle.std.proofs.Common.{rules, tests, ◌∙◌, sym, ap, refl, [], ◌++◌}
use Rattle.std.proofs.lemmas.Bool.{false≢true}
use Rattle.std.proofs.lemmas.Iterator.Splits.{YieldsList-from_slice_split}
use Rattle.std.specs.Slice.Iter.{split_rest, split_done, split_callee}
use Rattle.hex.specs.Hex.{decode_of}
use Rattle.cfdp_lines.specs.Hexadecimal.{is_space}
use Rattle.cfdp_lines.specs.code.Hexadecimal.{octets_or_none}
use Rattle.cfdp_lines.proofs.Decoding.{decode_start, decode_on, decode_bad, decode_end, ok_octets, err_octets}
use Rattle.cfdp_lines.proofs.hexadecimal.is_hexadecimal.Goals as goal

pub loop-word-init : goal.loop-word-init
loop-word-init c =
    let gives = c.into_iter-word-iterator.ensures.into_iter_gives in (
      [],
      decode_start _ c.args.line.now
          (YieldsList-from_slice_split _ is_space c.args.line.now
          (ap (λ s. split_rest s) gives ∙ c.split-word-items.ensures.rest)
          (ap (λ s. split_done s) gives ∙ c.split-word-items.ensures.done)
          (ap (λ s. split_callee s) gives ∙ c.split-word-items.ensures.closure)
          (λ x r q k. search (rules, tests))),
    )

pub loop-word-preserved : goal.loop-word-preserved
loop-word-preserved c =
    let so_far = c.loop-word.invariant in
    let word = c.in-Some.word.now in (
      so_far.0 ++ octets_or_none (decode_of word),
      decode_on _ c.next.new.self c.in-Some.word c.args.line.now so_far.0 (octets_or_none (decode_of word)) so_far.1 c.in-Some.ensures.steps
          (ok_octets (decode_of word) (c.is_decodable.ensures.0 c.if-not-is_decodable.false)),
    )

pub returns-then-not-is_decodable : goal.returns-then-not-is_decodable
returns-then-not-is_decodable c =
    let so_far = c.loop-word.invariant in
    let bad = err_octets (decode_of c.in-Some.word.now)
    (λ ok. false≢true (sym c.if-not-is_decodable.true ∙ c.is_decodable.ensures.1 ok)) in
    let none = decode_bad _ c.next.new.self c.in-Some.word c.args.line.now so_far.0 so_far.1 c.in-Some.ensures.steps bad in (
      λ e. absurd (false≢true e),
      λ some. absurd (false≢true (rw none at some)),
    )

pub returns : goal.returns
returns c =
    let so_far = c.loop-word.invariant in
    let whole = decode_end _ c.next.new.self c.args.line.now so_far.0 so_far.1 c.in-None.ensures.steps in (
      λ e. rw whole refl,
      λ some. refl,
    )
