use Rattle.std.proofs.Common.{◌≡◌, drop, map}
use Rattle.cfdp_links.specs.Links.{said_of}
use Rattle.cfdp_links.proofs.messages.are_same.Given as goal

abbrev pub invariant-loop-index : goal.invariant-loop-index
invariant-loop-index l = map said_of (drop l.index l.taken) ≡ map said_of (drop l.index l.due) → map said_of l.taken ≡ map said_of l.due
