use Rattle.cfdp_actions.specs.Filestore.{File}
use Rattle.cfdp_transactions.specs.code.Books.{world_of}
use Rattle.cfdp_transactions.proofs.Beginnings.PutThere.{put_keeps}
use Rattle.cfdp_transactions.proofs.the_core.Core.put_file.Goals as goal

pub invariant_of-self : goal.invariant_of-self
invariant_of-self g c = record {
  sound =
      put_keeps (world_of (g.S.Filestore.state c.self.inside.store) c.self.inside.books)
      (world_of (g.S.Filestore.state c.put_file.new.store) c.put_file.new.books) c.args.path.now (File c.args.octets.now) c.put_file.result
      c.self.invariant.sound c.put_file.ensures.ok c.put_file.ensures.put c.put_file.ensures.unchanged;
  booked = c.put_file.ensures.booked;
}
