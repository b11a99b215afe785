use Rattle.cfdp_paths.proofs.Below.{at_or_below-itself, at_or_below-trans, at_or_below-antisym, prefixes_compare}
use Rattle.cfdp_paths.proofs.laws.at_or_below_is_a_tree.Goals as goal

pub returns : goal.returns
returns c = record { reflexive = at_or_below-itself; transitive = at_or_below-trans; antisymmetric = at_or_below-antisym; comparable = prefixes_compare }
