use Rattle.std.proofs.Common.{◌≡◌, ℕ, ◌+◌, ◌-◌, ◌*◌, ◌<◌, ◌≤◌, ◌++◌, length, replicate, None}
use Rattle.cfdp_arena.specs.Arena.{free_count, octets_at}
use Rattle.cfdp_tree.specs.code.Nodes.{nodes_in}
use Rattle.cfdp_tree.specs.code.Runs.{IsHeld, OtherRunsStay, octets_of_run, nth}
use Rattle.cfdp_tree.specs.code.Ways.{HasWays, StayLive, WaysStay}
use Rattle.cfdp_tree.proofs.runs.Run.grow_to.Given as goal

abbrev pub invariant-loop-block : goal.invariant-loop-block
invariant-loop-block l = record {
  held : IsHeld l.arena l.self;
  count : l.self.count ≡ l._block;
  more : l.fn.self.count ≤ l._block;
  most : l._block ≤ l.count;
  some : 0 < l.count → 0 < l._block;
  octets : octets_of_run l.arena l.self ≡ octets_of_run l.fn.arena l.fn.self ++ replicate (120 * (l._block - l.fn.self.count)) 0;
  taken : free_count l.arena + l._block ≡ free_count l.fn.arena + l.fn.self.count;
  size : length l.arena ≡ length l.fn.arena;
  others : OtherRunsStay l.fn.arena l.arena l.self;
  first : 0 < l.fn.self.count → l.self.first ≡ l.fn.self.first;
  fresh : l.fn.self.count ≡ 0 → 0 < l._block → octets_at l.fn.arena l.self.first ≡ None;
  sequence : (k : ℕ) → k < l.fn.self.count → nth l.arena l.self.first k ≡ nth l.fn.arena l.fn.self.first k;
  nodes : nodes_in l.arena ≡ nodes_in l.fn.arena;
  live : StayLive l.fn.arena l.arena;
  ways : HasWays l.arena l.ways l.self;
  ways_stay : WaysStay l.fn.arena l.fn.ways l.ways;
}
