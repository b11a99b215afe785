use Rattle.cfdp_tree.proofs.OfRuns.SpareLaws.{spares_kept}
use Rattle.cfdp_tree.proofs.contents.Contents.release.Goals as goal

pub returns-clause-spares : goal.returns-clause-spares
returns-clause-spares c = spares_kept c.args.arena.now c.release.new.arena c.args.self.run c.release.ensures.others
