use Rattle.std.proofs.Common.{◌≡◌, ◌-◌, sym, ap, ◌∙◌, arith}
use Rattle.std.specs.Prelude.{slice_set}
use Rattle.cfdp_sessions.specs.Closed.{SourceFields, no_names, has_session_of}
use Rattle.cfdp_sessions.proofs.SourceIndexes.{kept_step}
use Rattle.cfdp_sessions.proofs.closed.ClosedTransactions.forget.Goals as goal

pub loop-index-preserved-then-has_session_of : goal.loop-index-preserved-then-has_session_of
loop-index-preserved-then-has_session_of c =
    let old = c.args.self.now.sources in
    let inv = c.loop-index.invariant in
    let i = c.loop-index.index - 1 in
    let items = c.loop-index.self-inside.sources.items in
    let item = c.index.result.now in
    let source : c.behind-self.inside.source ≡ item.source = ap (λ (n : SourceFields). n.source) c.behind-self.view_is in
    record {
      count = inv.count;
      places = inv.places;
      room = inv.room;
      before = omega (arith, inv.before, c.loop-index-test.true);
      items =
          ap (slice_set items i) (c.begin.ensures ∙ ap no_names source)
          ∙ kept_step c.args.sessions.now old items i c.loop-index.index item (omega (arith, c.loop-index-test.true))
          (omega (arith, inv.before, c.loop-index-test.true)) inv.items c.index.ensures
          (ap (has_session_of c.args.sessions.now) (sym source) ∙ sym c.has_session_of.ensures ∙ c.if-has_session_of.true);
    }
