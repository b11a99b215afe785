use Rattle.std.proofs.Common.{◌≡◌, refl}
use Rattle.cfdp_links.proofs.SameConfig.{config_same, configs_differ}
use Rattle.cfdp_links.proofs.closed_text.reconcile.Goals as goal

pub returns-in-Ok-clause-config : goal.returns-in-Ok-clause-config
returns-in-Ok-clause-config c =
    let same : c.config.result.now ≡ c.args.config.now = config_same c.config.result.now c.args.config.now c.if-ne.ensures in
    let kept : c.in-Ok.closed.core ≡ c.args.journaled.core = c.in-Ok.ensures.core in
    let lent : c.core.result.now ≡ c.args.journaled.core = c.core.ensures in
    let stated : c.config.result.now ≡ c.core.result.now.world.config = c.config.ensures in
    cc

pub returns-in-Ok-clause-exactly : goal.returns-in-Ok-clause-exactly
returns-in-Ok-clause-exactly c =
    let same : c.config.result.now ≡ c.args.config.now = config_same c.config.result.now c.args.config.now c.if-ne.ensures in
    let lent : c.core.result.now ≡ c.args.journaled.core = c.core.ensures in
    let stated : c.config.result.now ≡ c.core.result.now.world.config = c.config.ensures in
    let kept : c.args.journaled.core.world.config ≡ c.args.config.now = cc in
    (λ good. (kept, c.in-Ok.ensures.exactly.0 refl), λ both. refl)

pub returns-then-ne-clause-exactly : goal.returns-then-ne-clause-exactly
returns-then-ne-clause-exactly c =
    let lent : c.core.result.now ≡ c.args.journaled.core = c.core.ensures in
    let stated : c.config.result.now ≡ c.core.result.now.world.config = c.config.ensures in
    let differ : c.config.result.now ≡ c.args.config.now → ⊥ = configs_differ c.config.result.now c.args.config.now c.if-ne.ensures in
    (λ good. absurd cc, λ both. let same : c.config.result.now ≡ c.args.config.now = cc in absurd (differ same))
