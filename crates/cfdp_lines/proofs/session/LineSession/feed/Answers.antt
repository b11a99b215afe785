use Rattle.std.proofs.Common.{◌≡◌, Err, rules, arith, ap, ◌∙◌, length-drop}
use Rattle.std.proofs.lemmas.List.{take-append-drop}
use Rattle.cfdp_lines.specs.code.SessionReading.{session_reading}
use Rattle.cfdp_lines.proofs.Feeding.{Fed-adds, Fed-spills, Fed-stops, Fed-part, Fed-lost}
use Rattle.cfdp_lines.proofs.session.LineSession.feed.Goals as goal

pub returns-in_err-flush-in-Err-clause-write : goal.returns-in_err-flush-in-Err-clause-write
returns-in_err-flush-in-Err-clause-write g c = λ _.
    Fed-lost _ _ _ _ _ _ _ _ _ _ c.lines.invariant.0 (rw c.in-Err.ensures.kept at c.in_err-flush-in-Err.ensures.lost)

pub returns-in-Err-clause-bad : goal.returns-in-Err-clause-bad
returns-in-Err-clause-bad g c = λ n e.
    let bad = (c.fault.ensures.bad n).0 cc in
    let number : n ≡ c.lines.self.number = bad.0 ∙ c.flush.ensures.number ∙ c.in-Err.ensures.same in
    let stops = c.take.ensures.bad (c.in-Err.is ∙ ap Err bad.1) in
    rw number
    (Fed-stops _ _ _ _ _ _ _ _ _ _ _ c.lines.invariant.0 (rw c.in-Err.ensures.kept at c.in_ok-flush-in-Err.ensures.ok) stops)

pub returns-in-Err-clause-memory : goal.returns-in-Err-clause-memory
returns-in-Err-clause-memory g c = λ _.
    Fed-part _ _ _ _ _ _ _ _ _ _ c.lines.invariant.0 (rw c.in-Err.ensures.kept at c.in_ok-flush-in-Err.ensures.ok)

pub returns-in-Err-clause-refused : goal.returns-in-Err-clause-refused
returns-in-Err-clause-refused g c = λ e.
    let fed = c.lines.invariant.0 in
    let was = c.fault.ensures.memory.0 cc in
    record {
      done = fed.done;
      rest = c.lines.rest.now;
      text = fed.text;
      to = session_reading g.S.Script.state c.lines.self;
      cut = fed.cut;
      moves = fed.moves;
      good = c.take.ensures.refused (c.in-Err.is ∙ ap Err was);
    }

pub lines-preserved : goal.lines-preserved
lines-preserved g c = (
  rw (c.flush_if_full.ensures.script, c.flush_if_full.ensures.line, c.flush_if_full.ensures.number, c.split_at.ensures.back)
      (Fed-spills _ _ _ _ _ _ _ _ _ _ _
      (Fed-adds _ _ _ _ _ _ _ _ _ _ _ _ _ c.lines.invariant.0 (take-append-drop c.in-Ok.count _) c.in-Ok.ensures.ok)
      c.in_ok-flush_if_full.ensures.ok),
  rw c.split_at.ensures.back
      (omega (
        arith,
        c.flush_if_full.ensures.number,
        c.in-Ok.ensures.number,
        c.in-Ok.ensures.some,
        c.in-Ok.ensures.count,
        c.lines.invariant.1,
        length-drop c.in-Ok.count c.lines.rest.now,
      )),
  search rules,
)

pub returns-in_err-flush_if_full-clause-write : goal.returns-in_err-flush_if_full-clause-write
returns-in_err-flush_if_full-clause-write g c = λ _.
    Fed-lost _ _ _ _ _ _ _ _ _ _
    (Fed-adds _ _ _ _ _ _ _ _ _ _ _ _ _ c.lines.invariant.0 (take-append-drop c.in-Ok.count _) c.in-Ok.ensures.ok)
    c.in_err-flush_if_full.ensures.lost

pub returns-clause-write : goal.returns-clause-write
returns-clause-write g c = λ e. Fed-lost _ _ _ _ _ _ _ _ _ _ c.lines.invariant.0 (rw e at c.flush-2.ensures.lost)
