use Rattle.cfdp_transactions.proofs.the_core.Core.new.Goals as goal

pub over-requires-clause-good : goal.over-requires-clause-good
over-requires-clause-good g c = rw c.requires (c.empty_is_good.ensures c.args.config)
