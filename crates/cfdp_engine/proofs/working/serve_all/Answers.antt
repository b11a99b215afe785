use Rattle.std.proofs.Common.{◌∙◌, sym}
use Rattle.cfdp_engine.proofs.Serving.{all_begun, all_more, passed_none, passed_one}
use Rattle.cfdp_engine.proofs.working.serve_all.Goals as goal
use Rattle.cfdp_paths.proofs.Results.{on_err}

pub returns-in_err-served-clause-stopped : goal.returns-in_err-served-clause-stopped
returns-in_err-served-clause-stopped g c =
    let taken = c.loop.worked.taken.items in
    let begun = all_begun taken c.in-Ok.message c.args.worked.now.seat c.loop.worked.seat c.serve-served.new.seat c.loop.invariant.brings
    c.in_err-served.ensures.stopped in
    rw (c.push_reserved.ensures.items, c.reserve.ensures.items) (on_err _ _ begun)

pub loop-preserved-then-branch : goal.loop-preserved-then-branch
loop-preserved-then-branch g c =
    let taken = c.loop.worked.taken.items in
    let over = sym c.in_ok-served.ensures.passed_over ∙ c.if-branch.true in
    rw (c.push_reserved.ensures.items, c.reserve.ensures.items) (record {
      brings = all_more taken c.in-Ok.message c.args.worked.now.seat c.loop.worked.seat c.serve-served.new.seat c.loop.invariant.brings
          c.in_ok-served.ensures.brings;
      dropped = passed_one taken c.in-Ok.message c.loop.worked.dropped c.saturating_add-worked.result over c.loop.invariant.dropped
          c.saturating_add-worked.ensures;
      running = c.loop.invariant.running;
    })

pub loop-preserved : goal.loop-preserved
loop-preserved g c =
    let taken = c.loop.worked.taken.items in
    let over = sym c.in_ok-served.ensures.passed_over ∙ c.if-branch.false in
    rw (c.push_reserved.ensures.items, c.reserve.ensures.items) (record {
      brings = all_more taken c.in-Ok.message c.args.worked.now.seat c.loop.worked.seat c.serve-served.new.seat c.loop.invariant.brings
          c.in_ok-served.ensures.brings;
      dropped = passed_none taken c.in-Ok.message c.loop.worked.dropped over c.loop.invariant.dropped;
      running = c.loop.invariant.running;
    })
