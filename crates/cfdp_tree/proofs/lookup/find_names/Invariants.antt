use Rattle.std.proofs.Common.{ℕ, take}
use Rattle.cfdp_tree.specs.code.Nodes.{nodes_in}
use Rattle.cfdp_tree.specs.code.Directories.{IsAtPath}
use Rattle.cfdp_tree.proofs.OfNodes.NamesLeft.{IsAhead}
use Rattle.cfdp_tree.proofs.lookup.find_names.Given as goal

abbrev pub invariant-loop-name : goal.invariant-loop-name
invariant-loop-name l = (done : ℕ) × IsAhead l.fn.names l.name-iterator done × IsAtPath (nodes_in l.arena) l.reached (take done l.fn.names)
