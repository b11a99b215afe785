use Rattle.std.proofs.Common.{◌≡◌, ℕ, suc, ◌+◌, ◌++◌, List, take, flat_map, ap, sym, ◌∙◌, arith}
use Rattle.cfdp_uploads.specs.Uploads.{upload_pdus}
use Rattle.cfdp_plans.specs.Lines.{pdu_line}
use Rattle.cfdp_plans.proofs.NamesAndLines.{line_taken, appends_more}
use Rattle.cfdp_plans.proofs.lines.write_pdus.Goals as goal

pub loop-number-preserved : goal.loop-number-preserved
loop-number-preserved g c =
    let pdus = upload_pdus c.args.upload.now in
    let number : ℕ = c.loop-number.number in
    let next : number + 1 ≡ suc number = omega arith in
    let more =
    line_taken pdu_line pdus number _ c.push_pdu.new.text.items (omega (arith, c.loop-number-test.true, c.pdu_count-number-end.ensures))
    c.clear.ensures.items c.in_ok-push_pdu.ensures.ok in
    record {
      lines = appends_more (g.W.ScriptOut.contents c.args.writer.now) (g.W.ScriptOut.contents c.loop-number.writer)
          (g.W.ScriptOut.contents c.write_all.new.writer) (flat_map pdu_line (take number pdus)) c.deref.result.now (flat_map pdu_line (take (number + 1) pdus))
          c.loop-number.invariant.lines c.in_ok-write_all.ensures.ok
          (ap (λ m. flat_map pdu_line (take m pdus)) next ∙ more ∙ ap (λ (l : List ℕ). flat_map pdu_line (take number pdus) ++ l) (sym c.deref.ensures.value));
      well = c.in_ok-write_all.ensures.well ∙ c.loop-number.invariant.well;
    }
