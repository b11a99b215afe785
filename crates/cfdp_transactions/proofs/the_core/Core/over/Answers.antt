use Rattle.cfdp_transactions.proofs.Beginnings.StartWhole.{start_whole}
use Rattle.cfdp_transactions.proofs.the_core.Core.over.Goals as goal

pub invariant_of-result : goal.invariant_of-result
invariant_of-result g c =
    rw (c.in_ok-new.ensures, c.in_ok-with_capacity.ensures, c.with_free-quota.ensures, c.blocks-2.ensures.value, c.free.ensures.value)
    (start_whole c.args.config (g.S.Filestore.state c.args.store) c.requires.good c.requires.capacity c.blocks-2.ensures.limits)
