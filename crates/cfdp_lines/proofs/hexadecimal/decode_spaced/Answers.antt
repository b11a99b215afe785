use Rattle.std.proofs.Common.{rules, tests, ◌≡◌, ◌∙◌, ap, Err}
use Rattle.std.proofs.lemmas.Result.{err_from_is_err_and}
use Rattle.std.proofs.lemmas.Iterator.Splits.{YieldsList-from_slice_split}
use Rattle.std.specs.Slice.Iter.{split_rest, split_done, split_callee}
use Rattle.cfdp_lines.specs.Hexadecimal.{is_space}
use Rattle.cfdp_lines.specs.declared.faults.LineFault.TheVariants.{Bad, Memory}
use Rattle.cfdp_lines.proofs.Decoding.{decode_start, decode_on, decode_some, decode_bad, decode_end, ok_octets}
use Rattle.cfdp_lines.proofs.hexadecimal.decode_spaced.Goals as goal

pub loop-word-init : goal.loop-word-init
loop-word-init c =
    let gives = c.into_iter-word-iterator.ensures.into_iter_gives in
    rw c.requires (decode_start _ c.args.line.now
    (YieldsList-from_slice_split _ is_space c.args.line.now
    (ap (λ s. split_rest s) gives ∙ c.split-word-items.ensures.rest)
    (ap (λ s. split_done s) gives ∙ c.split-word-items.ensures.done)
    (ap (λ s. split_callee s) gives ∙ c.split-word-items.ensures.closure)
    (λ x r q k. search (rules, tests))))

pub loop-word-preserved : goal.loop-word-preserved
loop-word-preserved c =
    rw c.in_ok-decode_word.ensures.octets
    (decode_on c.loop-word.word-iterator c.next.new.self c.in-Some.word c.args.line.now c.loop-word.octets.items _ c.loop-word.invariant
    c.in-Some.ensures.steps (ok_octets _ c.in_ok-decode_word.ensures.good))

pub returns-in_err-decode_word-clause-bad : goal.returns-in_err-decode_word-clause-bad
returns-in_err-decode_word-clause-bad c = λ e.
    let p = err_from_is_err_and c.from_residual.result c.from_residual.ensures.1 in
    let same : c.decode_word.result ≡ Err Bad = cc (p.1, p.2, c.in_err-decode_word.was) in
    decode_bad c.loop-word.word-iterator c.next.new.self c.in-Some.word c.args.line.now c.loop-word.octets.items c.loop-word.invariant
    c.in-Some.ensures.steps (c.decode_word.ensures.bad same)

pub returns-clause-octets : goal.returns-clause-octets
returns-clause-octets c = decode_end c.loop-word.word-iterator c.next.new.self c.args.line.now c.loop-word.octets.items c.loop-word.invariant
    c.in-None.ensures.steps

pub returns-in_err-decode_word-clause-some : goal.returns-in_err-decode_word-clause-some
returns-in_err-decode_word-clause-some c = λ e.
    let p = err_from_is_err_and c.from_residual.result c.from_residual.ensures.1 in
    let same : c.decode_word.result ≡ Err Memory = cc (p.1, p.2, c.in_err-decode_word.was) in
    decode_some c.loop-word.word-iterator c.next.new.self c.in-Some.word c.args.line.now c.loop-word.octets.items c.loop-word.invariant
    c.in-Some.ensures.steps (c.decode_word.ensures.some same)
