use Rattle.std.proofs.Common.{◌≡◌, ◌<◌, [], Err, length, rules, arith, inr}
use Rattle.std.proofs.lemmas.Result.{err_from_is_err_and, on_ok_weaker}
use Rattle.std.proofs.lemmas.List.{nil_from_length}
use Rattle.cfdp_lines.specs.declared.faults.RunFault.TheVariants.{Write, Memory, BadLine}
use Rattle.std.proofs.KnownBytes.{Keeps-refl}
use Rattle.cfdp_lines.proofs.Running.{Running-more, Running-fails, Running-stops, Running-part, Running-lost, Running-bad, Running-whole, Running-ends_bad, Running-long, Running-ends_lost}
use Rattle.cfdp_lines.proofs.whole_run.run.Goals as goal

pub returns-in_default-clause-begun : goal.returns-in_default-clause-begun
returns-in_default-clause-begun g c = λ _.
    Running-fails _ _ _ _ _ _ _ _ _ _ _ _ c.pieces.invariant.0 c.in_default.ensures.kept_or_lost (Keeps-refl _) (omega arith)

pub returns-then-is_empty-clause-ok : goal.returns-then-is_empty-clause-ok
returns-then-is_empty-clause-ok g c =
    let none : length c.in-Ok.piece.now ≡ 0 = search rules in
    let nothing : c.in-Ok.piece.now ≡ [] = nil_from_length _ none in
    on_ok_weaker c.finish.result
    (λ f. Running-whole _ _ _ _ _ _ _ _ _ _ _ c.pieces.invariant.0 (rw nothing at c.in-Ok.ensures.octets) (c.in-Ok.ensures.end none) f)
    c.finish.ensures.ok

pub returns-then-is_empty-clause-bad : goal.returns-then-is_empty-clause-bad
returns-then-is_empty-clause-bad g c = λ n e.
    let none : length c.in-Ok.piece.now ≡ 0 = search rules in
    let nothing : c.in-Ok.piece.now ≡ [] = nil_from_length _ none in
    Running-ends_bad _ _ _ _ _ _ _ _ _ _ _ _ c.pieces.invariant.0 (rw nothing at c.in-Ok.ensures.octets) (c.in-Ok.ensures.end none)
    (c.finish.ensures.bad n e)

pub returns-then-is_empty-clause-begun_memory : goal.returns-then-is_empty-clause-begun_memory
returns-then-is_empty-clause-begun_memory g c = λ memory.
    let none : length c.in-Ok.piece.now ≡ 0 = search rules in
    Running-stops _ _ _ _ _ _ _ _ _ _ _ _ _ c.pieces.invariant.0 c.in-Ok.ensures.octets (c.finish.ensures.memory memory)
    (omega (arith, none))

pub returns-then-is_empty-clause-begun_lost : goal.returns-then-is_empty-clause-begun_lost
returns-then-is_empty-clause-begun_lost g c = λ fault.
    let none : length c.in-Ok.piece.now ≡ 0 = search rules in
    let nothing : c.in-Ok.piece.now ≡ [] = nil_from_length _ none in
    Running-ends_lost _ _ _ _ _ _ _ _ _ _ _ c.pieces.invariant.0 (rw nothing at c.in-Ok.ensures.octets) (c.finish.ensures.write fault)

pub returns-then-left-eq0-clause-begun : goal.returns-then-left-eq0-clause-begun
returns-then-left-eq0-clause-begun g c = λ _.
    Running-stops _ _ _ _ _ _ _ _ _ _ _ _ _ c.pieces.invariant.0 c.in-Ok.ensures.octets (Keeps-refl _)
    (omega (arith, c.in-Ok.ensures.count))

pub returns-then-left-eq0-clause-read : goal.returns-then-left-eq0-clause-read
returns-then-left-eq0-clause-read g c = λ _.
    let some : 0 < length c.in-Ok.piece.now = search rules in
    let spent : c.pieces.left ≡ 0 = search rules in
    inr (Running-long _ _ _ _ _ _ _ _ _ _ (rw spent at c.pieces.invariant.0) c.in-Ok.ensures.octets some
    c.pieces.session.whole.one_line c.pieces.session.whole.within)

pub returns-in_err-feed-clause-bad : goal.returns-in_err-feed-clause-bad
returns-in_err-feed-clause-bad g c = λ n e.
    let p = err_from_is_err_and c.from_residual.result c.from_residual.ensures.1 in
    let same : c.feed.result ≡ Err (BadLine n) = cc (p.1, p.2, c.in_err-feed.was) in
    Running-bad _ _ _ _ _ _ _ _ _ _ _ _ _ c.pieces.invariant.0 c.in-Ok.ensures.octets (c.feed.ensures.bad n same)
    (omega (arith, c.in-Ok.ensures.count))

pub returns-in_err-feed-clause-begun_memory : goal.returns-in_err-feed-clause-begun_memory
returns-in_err-feed-clause-begun_memory g c = λ e.
    let p = err_from_is_err_and c.from_residual.result c.from_residual.ensures.1 in
    let same : c.feed.result ≡ Err Memory = cc (p.1, p.2, c.in_err-feed.was) in
    Running-part _ _ _ _ _ _ _ _ _ _ _ _ c.pieces.invariant.0 c.in-Ok.ensures.octets (c.feed.ensures.memory same)
    (omega (arith, c.in-Ok.ensures.count))

pub returns-in_err-feed-clause-begun_lost : goal.returns-in_err-feed-clause-begun_lost
returns-in_err-feed-clause-begun_lost g c = λ e.
    let p = err_from_is_err_and c.from_residual.result c.from_residual.ensures.1 in
    let same : c.feed.result ≡ Err Write = cc (p.1, p.2, c.in_err-feed.was) in
    Running-lost _ _ _ _ _ _ _ _ _ _ _ _ c.pieces.invariant.0 c.in-Ok.ensures.octets (c.feed.ensures.write same)
    (omega (arith, c.in-Ok.ensures.count))

pub pieces-preserved : goal.pieces-preserved
pieces-preserved g c = (
  Running-more _ _ _ _ _ _ _ _ _ _ _ _ _ _ c.pieces.invariant.0 c.in-Ok.ensures.octets c.in_ok-feed.ensures.ok
      (omega (arith, c.in-Ok.ensures.count)),
  omega (arith, c.in-Ok.ensures.count, c.in_ok-feed.ensures.number),
  search rules,
  search rules,
  c.in_ok-feed.ensures.empty,
)

pub finish-requires : goal.finish-requires
finish-requires g c = c.pieces.invariant.4

pub feed-requires-clause-empty : goal.feed-requires-clause-empty
feed-requires-clause-empty g c = c.pieces.invariant.4
