use Rattle.std.proofs.Common.{◌≤◌, ap, arith}
use Rattle.std.specs.Vec.{vec_capacity}
use Rattle.cfdp_transactions.specs.Config.{Config}
use Rattle.cfdp_engine.proofs.Beginning.{whole_start}
use Rattle.cfdp_engine.proofs.journaled.Journaled.new.Goals as goal

pub invariant_of-result : goal.invariant_of-result
invariant_of-result g c =
    let made = c.in_ok-entries in
    let room : c.args.core.world.config.journal ≤ vec_capacity made.entries =
    omega (arith, made.ensures.exact, ap (λ (config : Config). config.journal) c.config.ensures) in
    rw (made.ensures.items) (whole_start (vec_capacity made.entries) c.args.core c.requires room)
