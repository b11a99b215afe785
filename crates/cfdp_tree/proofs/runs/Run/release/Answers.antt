use Rattle.cfdp_tree.proofs.OfRuns.HeldLaws.{given_live, given_once, given_last, given_count, given_size, given_others, given_nodes}
use Rattle.cfdp_tree.proofs.runs.Run.release.Goals as goal

pub give_chain-requires : goal.give_chain-requires
give_chain-requires c = record {
  live = given_live c.args.arena.now c.args.self c.requires.held;
  once = given_once c.args.arena.now c.args.self c.requires.held;
  last = given_last c.args.arena.now c.args.self c.requires.held;
}

pub returns : goal.returns
returns c = record {
  freed = given_count c.args.arena.now c.args.self c.requires.held c.give_chain.new.self c.give_chain.ensures.freed;
  size = given_size c.args.arena.now c.args.self c.requires.held c.give_chain.new.self c.give_chain.ensures.freed;
  others = given_others c.args.arena.now c.args.self c.requires.held c.give_chain.new.self c.give_chain.ensures.freed;
  nodes = given_nodes c.args.arena.now c.args.self c.requires.held c.give_chain.new.self c.give_chain.ensures.freed;
}
