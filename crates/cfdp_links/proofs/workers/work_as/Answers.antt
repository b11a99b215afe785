use Rattle.std.proofs.Common.{rules}
use Rattle.cfdp_links.proofs.Numbering.{passed_over-few}
use Rattle.cfdp_links.proofs.workers.work_as.Goals as goal

pub returns : goal.returns
returns g c = record {
  done = λ finished.
      let few = passed_over-few c.work.result.taken.items in
      record { seat = search rules; brought = search rules; dropped = search rules };
}
