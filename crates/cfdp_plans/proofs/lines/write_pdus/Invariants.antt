use Rattle.std.proofs.Common.{◌≡◌, take, flat_map}
use Rattle.std.specs.Io.KnownBytes.{Appends}
use Rattle.cfdp_uploads.specs.Uploads.{upload_pdus}
use Rattle.cfdp_plans.specs.Lines.{pdu_line}
use Rattle.cfdp_plans.proofs.lines.write_pdus.Given as goal

abbrev pub invariant-loop-number : goal.invariant-loop-number
invariant-loop-number g l = record {
  lines :
      Appends (g.W.ScriptOut.contents l.initial.writer) (g.W.ScriptOut.contents l.writer) (flat_map pdu_line (take l.number (upload_pdus l.upload)));
  well : g.W.ScriptOut.failed l.writer ≡ g.W.ScriptOut.failed l.initial.writer;
}
