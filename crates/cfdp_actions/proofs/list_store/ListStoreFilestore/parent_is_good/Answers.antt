use Rattle.std.proofs.Common.{◌-◌, take, sym, ◌∙◌, arith}
use Rattle.cfdp_actions.proofs.ShownLaws.{directory_answers}
use Rattle.cfdp_actions.proofs.StoreLaws.{seen_parent, root_is_good}
use Rattle.cfdp_actions.proofs.list_store.ListStoreFilestore.parent_is_good.Goals as goal

pub returns-then-depth-eq0 : goal.returns-then-depth-eq0
returns-then-depth-eq0 c = sym (root_is_good c.args.self.now c.args.path.now
    (omega (arith, c.depth-depth.ensures.depth, c.depth-depth.ensures.within.some, c.if-depth-eq0.true)))

pub returns : goal.returns
returns c =
    let depth = c.depth-depth.result - 1 in
    directory_answers c.get_beginning.result c.is_some_and.result (take depth c.args.path.now) c.self.inside.entries c.is_some_and.ensures
    c.get_beginning.ensures
    ∙ sym (seen_parent _ _ _ _ c.self.invariant _ c.self.view_is c.args.path.now depth
    (omega (arith, c.depth-depth.ensures.depth, c.depth-depth.ensures.within.some)) c.if-depth-eq0.false)
