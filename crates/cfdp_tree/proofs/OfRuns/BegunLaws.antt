-- A run before blocks come to it one by one: with its first block, if it had none, or as it was.
--     IsBegun old new was now run after    what is true of it then
--     begun_first, begun_same              it has its first block, and it is as it was
--     begun_is                             of another name of the same
use Rattle.std.proofs.Common.{◌≡◌, ℕ, ◌+◌, ◌-◌, ◌*◌, ◌<◌, ◌≤◌, List, [], ◌++◌, length, replicate, None, refl, sym, ◌∙◌, subst, arith, append-nil}
use Rattle.cfdp_arena.specs.Arena.{Blocks, octets_at, free_count}
use Rattle.cfdp_arena.specs.Blocks.{blank_block}
use Rattle.cfdp_ways.specs.declared.way.Way.{Way}
use Rattle.cfdp_tree.specs.declared.runs.Run.{Run}
use Rattle.cfdp_tree.specs.code.Block.{payload}
use Rattle.cfdp_tree.specs.code.Runs.{IsHeld, AllStay, OtherRunsStay, octets_of_run, run_octets, nth}
use Rattle.cfdp_tree.specs.code.Nodes.{nodes_in}
use Rattle.cfdp_tree.specs.code.Ways.{HasWays, StayLive, WaysStay}
use Rattle.cfdp_tree.proofs.OfRuns.Filling.{more_zeros}

pub record IsBegun (old new : Blocks) (was now : List Way) (run after : Run) : Type 0 where
  pub held : IsHeld new after
  pub more : run.count ≤ after.count
  pub octets : octets_of_run new after ≡ octets_of_run old run ++ replicate (120 * (after.count - run.count)) 0
  pub taken : free_count new + after.count ≡ free_count old + run.count
  pub size : length new ≡ length old
  pub others : OtherRunsStay old new after
  pub first : 0 < run.count → after.first ≡ run.first
  pub fresh : run.count ≡ 0 → 0 < after.count → octets_at old after.first ≡ None
  pub sequence : (k : ℕ) → k < run.count → nth new after.first k ≡ nth old run.first k
  pub nodes : nodes_in new ≡ nodes_in old
  pub live : StayLive old new
  pub ways : HasWays new now after
  pub ways_stay : WaysStay old was now

pub begun_first : (old new : Blocks) (was now : List Way) (run after : Run) → run.count ≡ 0 → IsHeld new after → after.count ≡ 1 → octets_of_run new after
    ≡ payload blank_block
    → free_count new + 1 ≡ free_count old → length new ≡ length old → AllStay old new → octets_at old after.first ≡ None → nodes_in new ≡ nodes_in old →
    StayLive old new → HasWays new now after
    → WaysStay old was now → IsBegun old new was now run after
begun_first old new was now run after none held one octets taken size stay fresh nodes live ways ways_stay =
    let all : 120 ≡ 120 * (after.count - run.count) = omega (arith, none, one) in
    record {
      held = held;
      more = omega (arith, none);
      octets = octets ∙ more_zeros [] 0 120 refl ∙ (λ k. run_octets old (sym none k) run.first ++ replicate (all k) 0);
      taken = omega (arith, taken, one, none);
      size = size;
      others = (λ block was_live not_of. stay block was_live);
      first = (λ some. absurd (omega (arith, some, none)));
      fresh = (λ empty some. fresh);
      sequence = (λ k less. absurd (omega (arith, less, none)));
      nodes = nodes;
      live = live;
      ways = ways;
      ways_stay = ways_stay;
    }

pub begun_same : (arena : Blocks) (ways : List Way) (run : Run) → IsHeld arena run → HasWays arena ways run → IsBegun arena arena ways ways run run
begun_same arena ways run held has =
    let none : 0 ≡ 120 * (run.count - run.count) = omega arith in
    record {
      held = held;
      more = omega arith;
      octets = sym (append-nil (octets_of_run arena run)) ∙ (λ k. octets_of_run arena run ++ replicate (none k) 0);
      taken = refl;
      size = refl;
      others = (λ block live not_of. refl);
      first = (λ some. refl);
      fresh = (λ empty some. absurd (omega (arith, empty, some)));
      sequence = (λ k less. refl);
      nodes = refl;
      live = (λ block live. live);
      ways = has;
      ways_stay = (λ block live. refl);
    }

pub begun_is : (old new other : Blocks) (was now changed : List Way) (run after same : Run) → other ≡ new → changed ≡ now → same ≡ after →
    IsBegun old new was now run after → IsBegun old other was changed run same
begun_is old new other was now changed run after same arena_is ways_is run_is begun =
    subst (λ a. IsBegun old a was changed run same) (sym arena_is) (subst (λ w. IsBegun old new was w run same) (sym ways_is)
    (subst (IsBegun old new was now run) (sym run_is) begun))
