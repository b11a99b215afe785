use Rattle.std.proofs.Common.{sym, ap, ◌∙◌}
use Rattle.cfdp_actions.specs.Store.{kind_in}
use Rattle.cfdp_actions.proofs.ShownLaws.{kind_answers}
use Rattle.cfdp_actions.proofs.StoreLaws.{seen_node}
use Rattle.cfdp_actions.proofs.list_store.ListStoreFilestore.kind.Goals as goal

pub returns : goal.returns
returns c =
    kind_answers c.get.result c.map.result c.args.path.now c.self.inside.entries c.map.ensures.cases c.get.ensures
    ∙ sym (ap kind_in (seen_node _ _ _ _ c.self.invariant _ c.self.view_is c.args.path.now))
