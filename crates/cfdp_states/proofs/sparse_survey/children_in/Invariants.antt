use Rattle.cfdp_states.proofs.SparsePaths.{Found}
use Rattle.cfdp_states.proofs.sparse_survey.children_in.Given as goal

-- those so far are found
abbrev pub invariant-loop-entry : goal.invariant-loop-entry
invariant-loop-entry l = Found l.path l.entries l.entry-index l.found.items
