use Rattle.std.proofs.Common.{rules, tests, arith, ◌≡◌, ◌≤◌, ◌+◌, ◌/◌, ◌∙◌, sym, ap, refl, ℕ, List, ◌++◌, length, length-append, take, length-take}
use Rattle.std.proofs.lemmas.Bool.{false≢true}
use Rattle.std.proofs.lemmas.Option.{none-some}
use Rattle.std.proofs.lemmas.Slice.{take-put_mid}
use Rattle.std.proofs.lemmas.Iterator.Splits.{YieldsList-from_slice_split}
use Rattle.std.specs.Slice.Iter.{split_rest, split_done, split_callee}
use Rattle.hex.specs.Hex.{decode_of}
use Rattle.cfdp_lines.specs.Hexadecimal.{is_space}
use Rattle.cfdp_lines.specs.code.Hexadecimal.{octets_or_none}
use Rattle.cfdp_lines.proofs.Decoding.{decode_start, decode_on, decode_longer, decode_bad, decode_end, err_octets, ok_octets}
use Rattle.cfdp_lines.proofs.hexadecimal.decode_within.Goals as goal

-- as many octets as two lists have that a list begins with
long_enough : (octets front back : List ℕ) (n : ℕ) → take n octets ≡ front ++ back → n ≡ length front + length back → n ≤ length octets
long_enough octets front back n same is = omega (arith, is, length-take n octets, ap length same, length-append front back)

pub loop-word-init : goal.loop-word-init
loop-word-init c =
    let gives = c.into_iter-word-iterator.ensures.into_iter_gives in (
      decode_start _ c.args.line.now
          (YieldsList-from_slice_split _ is_space c.args.line.now
          (ap (λ s. split_rest s) gives ∙ c.split-word-items.ensures.rest)
          (ap (λ s. split_done s) gives ∙ c.split-word-items.ensures.done)
          (ap (λ s. split_callee s) gives ∙ c.split-word-items.ensures.closure)
          (λ x r q k. search (rules, tests))),
      omega arith,
    )

pub returns-then-pairs-room-clause-none : goal.returns-then-pairs-room-clause-none
returns-then-pairs-room-clause-none c = λ octets e same.
    let so_far = take c.loop-word.len c.loop-word.room in
    let long = decode_longer _ c.next.new.self c.in-Some.word c.args.line.now so_far octets c.loop-word.invariant.0 c.in-Some.ensures.steps same in
    omega (arith, long, length-take c.loop-word.len c.loop-word.room, c.if-pairs-room.true, c.loop-word.invariant.1, c.loop-word.auto.room)

pub returns-in_default-clause-none : goal.returns-in_default-clause-none
returns-in_default-clause-none c = λ octets e same.
    let so_far = take c.loop-word.len c.loop-word.room in
    let bad = err_octets (decode_of c.in-Some.word.now) (λ ok. false≢true (c.in_default.ensures.good.1 ok)) in
    absurd
    (none-some octets
    (sym (decode_bad _ c.next.new.self c.in-Some.word c.args.line.now so_far c.loop-word.invariant.0 c.in-Some.ensures.steps bad) ∙ same))

pub loop-word-preserved : goal.loop-word-preserved
loop-word-preserved c =
    let word = c.in-Some.word.now in
    let so_far = take c.loop-word.len c.loop-word.room in
    let good = c.in-Ok.ensures.good.0 refl in
    let len = c.loop-word.len in
    let new = c.decode_into.new.room in
    let sized : length new ≡ length word / 2 = search rules in
    let more = take-put_mid len _ c.loop-word.room new (len + length word / 2) (omega (arith, sized)) c.loop-word.invariant.1 in (
      rw (more, c.in-Ok.ensures.octets)
          (decode_on _ c.next.new.self c.in-Some.word c.args.line.now so_far (octets_or_none (decode_of word)) c.loop-word.invariant.0
          c.in-Some.ensures.steps (ok_octets (decode_of word) good)),
      long_enough _ so_far new (len + length word / 2) more
          (omega (arith, sized, length-take len c.loop-word.room, c.loop-word.invariant.1)),
    )

pub returns-clause-some : goal.returns-clause-some
returns-clause-some c = decode_end _ c.next.new.self c.args.line.now _ c.loop-word.invariant.0 c.in-None.ensures.steps
