use Rattle.std.proofs.Common.{rules, ◌≡◌, ◌++◌, ◌∷◌, [], Some, slice_get}
use Rattle.cfdp_commands.proofs.Copying.{taken_over}
use Rattle.cfdp_commands.proofs.setup.copy_prefixes.Goals as goal

pub loop-index-preserved : goal.loop-index-preserved
loop-index-preserved c =
    let at : slice_get c.args.protected.now c.loop-index.index ≡ Some c.in-Some.prefix.now = search rules in
    let grown : c.add.new.self ≡ c.loop-index.copy ++ c.in-Some.prefix.now ∷ [] = search rules in
    record { copied = taken_over _ _ _ _ _ at grown c.loop-index.invariant.copied }
