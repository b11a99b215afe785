use Rattle.cfdp_actions.specs.Filestore.{Directory}
use Rattle.cfdp_transactions.specs.code.Books.{world_of}
use Rattle.cfdp_transactions.proofs.Beginnings.PutThere.{put_keeps}
use Rattle.cfdp_transactions.proofs.the_core.Core.put_directory.Goals as goal

pub invariant_of-self : goal.invariant_of-self
invariant_of-self g c = record {
  sound =
      put_keeps (world_of (g.S.Filestore.state c.self.inside.store) c.self.inside.books)
      (world_of (g.S.Filestore.state c.put_directory.new.store) c.put_directory.new.books) c.args.path.now Directory c.put_directory.result
      c.self.invariant.sound c.put_directory.ensures.ok c.put_directory.ensures.put c.put_directory.ensures.unchanged;
  booked = c.put_directory.ensures.booked;
}
