use Rattle.cfdp_paths.proofs.Moving.{ordered-relocated}
use Rattle.cfdp_paths.proofs.path_map.PathMap.relocate.Goals as goal

pub invariant_of-self : goal.invariant_of-self
invariant_of-self g c = ordered-relocated c.relocate.result c.args.from.now c.args.to.now c.self.inside.entries.items c.relocate.new.entries.items
    c.self.invariant c.relocate.ensures.ok c.relocate.ensures.err
