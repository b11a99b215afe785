use Rattle.cfdp_transactions.proofs.Received.Writing.{range_is_added}
use Rattle.cfdp_transactions.proofs.ranges.Ranges.insert.Goals as goal

pub invariant_of-self : goal.invariant_of-self
invariant_of-self c =
    let runs = rw c.self.view_is at c.self.invariant.0 in
    rw c.joined-self-inside.ensures ((range_is_added c.args.start c.args.end c.args.self.now c.requires.some runs).0, c.requires.room)
