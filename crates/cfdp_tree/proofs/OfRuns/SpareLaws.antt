-- What becomes of other runs while one changes.
--     spares_grown      the run has more blocks
--     spares_kept       its blocks are the same, or are given back
--     runs_stay, runs_stay_given, runs_stay_taken     a node's block is written, given back or taken
--     spares_then       two changes, one after the other
use Rattle.std.proofs.Common.{◌≡◌, ℕ, suc, ◌-◌, ◌<◌, ◌≤◌, List, Option, Some, None, inl, inr, sym, ap, ◌∙◌, subst, arith}
use Rattle.std.proofs.lemmas.Bool.{cases_eq}
use Rattle.std.proofs.lemmas.List.{get_or-set_other}
use Rattle.std.specs.Prelude.{IsSome, slice_set}
use Rattle.cfdp_arena.specs.Arena.{Blocks, octets_at, IsLive, with_block, without_block}
use Rattle.cfdp_tree.specs.declared.runs.Run.{Run}
use Rattle.cfdp_tree.specs.code.Nodes.{only_node, nodes_in}
use Rattle.cfdp_tree.specs.code.Tree.{IsNode}
use Rattle.cfdp_tree.specs.code.Runs.{IsRunPart, IsRun, nth, IsHeld, OtherRunsStay, Apart, Stays, RunsStay, Spares}
use Rattle.cfdp_arena.proofs.Chains.{no_live}
use Rattle.cfdp_tree.proofs.OfNodes.NodeLaws.{content_only}
use Rattle.cfdp_tree.proofs.OfNodes.TreeLaws.{node_there}
use Rattle.cfdp_tree.proofs.OfRuns.RunLaws.{KeepsFrom, kept_run, kept_octets, kept_nth}
use Rattle.cfdp_tree.proofs.OfRuns.HeldLaws.{held_others, octets_others, nth_others}

others_spared : (old new : Blocks) (run : Run) → OtherRunsStay old new run → (other : Run) → IsHeld old other → Apart run other → Stays old new other
others_spared old new run stay other held apart = record {
  held = held_others old new run other stay apart held;
  octets = octets_others old new run other stay apart held;
  sequence = nth_others old new run other stay apart held;
}

pub spares_kept : (old new : Blocks) (run : Run) → OtherRunsStay old new run → Spares old new run run
spares_kept old new run stay other held apart = (others_spared old new run stay other held apart, apart)

-- the first block of a run is live
first_live : (arena : Blocks) (run : Run) → IsHeld arena run → 0 < run.count → IsLive arena run.first
first_live arena run held some =
    let all : run.count ≡ suc (run.count - 1) = omega arith in
    let parts : IsRun arena run.first 0 (suc (run.count - 1)) run.first = subst (λ n. IsRun arena run.first 0 n run.first) all held.parts in
    parts.0.live

pub spares_grown : (old new : Blocks) (before after : Run) → OtherRunsStay old new after → (0 < before.count → after.first ≡ before.first)
    → (before.count ≡ 0 → 0 < after.count → octets_at old after.first ≡ None) → Spares old new before after
spares_grown old new before after stay first fresh other held apart =
    let differ : Apart after other = (λ here there e. elim (cases_eq before.count 0) [
      | inl none ↦ no_live (octets_at old other.first) (ap (octets_at old) e ∙ fresh none here) (first_live old other held there)
      | inr some ↦ apart (omega arith) there (e ∙ first (omega arith))
    ]) in (others_spared old new after stay other held differ, differ)

pub spares_then : (first second third : Blocks) (a b c : Run) → Spares first second a b → Spares second third b c → Spares first third a c
spares_then first second third a b c one two other held apart =
    let s = one other held apart in
    let t = two other s.0.held s.1 in
    (record { held = t.0.held; octets = t.0.octets ∙ s.0.octets; sequence = (λ k within. t.0.sequence k within ∙ s.0.sequence k within) }, t.1)

keeps_stays : (old new : Blocks) (run : Run) → KeepsFrom run.first 0 old new → IsHeld old run → Stays old new run
keeps_stays old new run keeps held =
    let sequence : (k : ℕ) → k ≤ run.count → nth new run.first k ≡ nth old run.first k =
    (λ k within. kept_nth old new run.first 0 run.count run.first k keeps held.parts within) in
    record {
      held = record {
        parts = kept_run old new run.first 0 run.count run.first keeps held.parts;
        last = (λ some. held.last some ∙ sym (sequence (run.count - 1) (omega arith)));
      };
      octets = kept_octets old new run.first 0 run.count run.first keeps held.parts;
      sequence = sequence;
    }

-- a block that is none of a run's changes
pub runs_stay_other : (arena : Blocks) (b : ℕ) (entry : Option (List ℕ)) → ((owner rank : ℕ) → IsRunPart owner rank (octets_at arena b) → ⊥) →
    RunsStay arena (slice_set arena b entry)
runs_stay_other arena b entry other run held =
    let keeps : KeepsFrom run.first 0 arena (slice_set arena b entry) = (λ block r le part. get_or-set_other arena b block entry None
    (λ e. other run.first r (subst (λ x. IsRunPart run.first r (octets_at arena x)) e part))) in
    keeps_stays arena (slice_set arena b entry) run keeps held

-- a node's block is none of a run's
node_apart : (arena : Blocks) (b : ℕ) → IsNode (nodes_in arena) b → (owner rank : ℕ) → IsRunPart owner rank (octets_at arena b) → ⊥
node_apart arena b node owner rank part =
    no_live (only_node (octets_at arena b)) (content_only owner rank (octets_at arena b) part) (subst IsSome (node_there arena b node) node)

pub runs_stay : (arena : Blocks) (b : ℕ) (new : List ℕ) → IsNode (nodes_in arena) b → RunsStay arena (with_block arena b new)
runs_stay arena b new node = runs_stay_other arena b (Some new) (node_apart arena b node)

pub runs_stay_given : (arena : Blocks) (b : ℕ) → IsNode (nodes_in arena) b → RunsStay arena (without_block arena b)
runs_stay_given arena b node = runs_stay_other arena b None (node_apart arena b node)

pub runs_stay_taken : (arena : Blocks) (b : ℕ) (new : List ℕ) → octets_at arena b ≡ None → RunsStay arena (with_block arena b new)
runs_stay_taken arena b new free = runs_stay_other arena b (Some new) (λ owner rank part. no_live (octets_at arena b) free part.live)
