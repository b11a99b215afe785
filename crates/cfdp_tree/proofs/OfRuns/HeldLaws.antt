-- A run that is held, while the arena changes.
--     others_keep, held_others, octets_others, nth_others     the run of another owner
--     others_then                                 the others stay twice
--     others_grown                                and with one block more
--     octets_are                                  the octets of a live block
--     held_part                                   a block of a run is live, and a part of it
--     given_live, given_once, given_last      its blocks are a chain, which can be given back as one
--     given_count, given_size, given_others, given_nodes      and have been given back
--     put_held, put_nth, put_others, put_octets, put_nodes   one of its payloads is written
use Rattle.std.proofs.Common.{◌≡◌, ◌≢◌, ℕ, suc, zero, ◌+◌, ◌-◌, ◌*◌, ◌<◌, ◌≤◌, List, [], ◌∷◌, length, get_or, Some, None, refl, sym, ap, ◌∙◌, subst, inl, inr, arith}
use Rattle.std.proofs.lemmas.List.{get_or-set_other}
use Rattle.std.proofs.lemmas.Bool.{cases_eq}
use Rattle.std.specs.Prelude.{All, AllPairs, IsSome}
use Rattle.std.proofs.lemmas.List.Elements.{All-tail}
use Rattle.cfdp_arena.specs.Arena.{Blocks, octets_at, IsLive, free_count, with_block}
use Rattle.cfdp_arena.specs.Chain.{chain_in}
use Rattle.cfdp_arena.specs.FreeList.{vacated}
use Rattle.cfdp_arena.proofs.Chains.{length-vacated, get_or-vacated}
use Rattle.cfdp_arena.proofs.GivenChains.{length-chain_in, first_absent, rest_once}
use Rattle.cfdp_arena.proofs.Laws.{octets_at-vacated_other, free_count-vacated}
use Rattle.cfdp_actions.specs.Store.{overwritten}
use Rattle.cfdp_tree.specs.declared.runs.Run.{Run}
use Rattle.cfdp_tree.specs.code.Block.{BlockHeader, block_header, payload}
use Rattle.cfdp_tree.specs.code.Nodes.{only_node, nodes_in}
use Rattle.cfdp_tree.specs.code.Runs.{octets, header_in, next_in, IsRunPart, IsRun, nth, run_octets, IsHeld, octets_of_run, IsOf, OtherRunsStay}
use Rattle.cfdp_tree.proofs.OfNodes.NodeLaws.{content_only, nodes-kept, nodes-written}
use Rattle.cfdp_tree.proofs.OfRuns.RunLaws.{apart, nth_part, KeepsFrom, kept_run, kept_octets, kept_nth, written_run, written_nth, written_octets}

-- twice
pub others_then : (first second third : Blocks) (run : Run) → OtherRunsStay first second run → OtherRunsStay second third run → OtherRunsStay first third run
others_then first second third run stay still b live not_of =
    let was : octets_at second b ≡ octets_at first b = stay b live not_of in
    still b (subst IsSome (sym was) live) (λ of. not_of (subst (IsOf run) was of)) ∙ was

-- the second time by a run with one block more
pub others_grown : (first second third : Blocks) (run after : Run) → OtherRunsStay first second run → OtherRunsStay second third run → 0 < after.count →
    (0 < run.count → after.first ≡ run.first) → OtherRunsStay first third after
others_grown first second third run after stay still some same b live not_of =
    others_then first second third run stay still b live (λ of. not_of (some, of.1 ∙ sym (same of.0)))

-- what `bytes` shows
pub octets_are : (arena : Blocks) (block : ℕ) (shown : List ℕ) → octets_at arena block ≡ Some shown → shown ≡ octets (octets_at arena block)
octets_are arena block shown e = sym (ap octets e)

-- another run, where it has another first block
module _ (old new : Blocks) (run other : Run) (stay : OtherRunsStay old new run) (differ : 0 < run.count → 0 < other.count → other.first ≢ run.first)
    (held : IsHeld old other) where
  others_keep : 0 < other.count → KeepsFrom other.first 0 old new
  others_keep some block r le part = stay block part.live (λ h. differ h.0 some (sym part.owner_is ∙ h.1))

  held_keeps : KeepsFrom other.first 0 old new → IsHeld new other
  held_keeps keeps = record {
    parts = kept_run old new other.first 0 other.count other.first keeps held.parts;
    last = (λ some. held.last some ∙ sym (kept_nth old new other.first 0 other.count other.first (other.count - 1) keeps held.parts (omega arith)));
  }

  pub held_others : IsHeld new other
  held_others = elim (cases_eq other.count 0) [
    | inl none ↦ record { parts = subst (λ n. IsRun new other.first 0 n other.first) (sym none) tt; last = (λ some. absurd (omega arith)) }
    | inr some ↦ held_keeps (others_keep (omega arith))
  ]

  pub octets_others : octets_of_run new other ≡ octets_of_run old other
  octets_others = elim (cases_eq other.count 0) [
    | inl none ↦ ap (λ n. run_octets new n other.first) none ∙ sym (ap (λ n. run_octets old n other.first) none)
    | inr some ↦ kept_octets old new other.first 0 other.count other.first (others_keep (omega arith)) held.parts
  ]

  pub nth_others : (k : ℕ) → k ≤ other.count → nth new other.first k ≡ nth old other.first k
  nth_others k within = elim (cases_eq other.count 0) [
    | inl none ↦ (let start : k ≡ 0 = omega arith in ap (nth new other.first) start ∙ sym (ap (nth old other.first) start))
    | inr some ↦ kept_nth old new other.first 0 other.count other.first k (others_keep (omega arith)) held.parts within
  ]

-- a block of a run
module _ (arena : Blocks) (run : Run) (held : IsHeld arena run) (k : ℕ) (within : k < run.count) (block : ℕ) (block_is : block ≡ nth arena run.first k) where
  pub held_part : IsRunPart run.first k (octets_at arena block)
  held_part = subst (λ b. IsRunPart run.first k (octets_at arena b)) (sym block_is)
      (nth_part arena run.first 0 run.count run.first k k held.parts within (omega arith))

  module _ (new : List ℕ) (whole : length new ≡ 128) (same : block_header new ≡ header_in (octets_at arena block)) where
    same_there : block_header new ≡ header_in (octets_at arena (nth arena run.first k))
    same_there = same ∙ ap (λ b. header_in (octets_at arena b)) block_is

    pub put_nth : (j : ℕ) → j ≤ run.count → nth (with_block arena block new) run.first j ≡ nth arena run.first j
    put_nth j reach = ap (λ b. nth (with_block arena b new) run.first j) block_is
        ∙ written_nth arena run.first new whole 0 run.count run.first k j held.parts within reach same_there

    pub put_held : IsHeld (with_block arena block new) run
    put_held = record {
      parts = subst (λ b. IsRun (with_block arena b new) run.first 0 run.count run.first) (sym block_is)
          (written_run arena run.first new whole 0 run.count run.first k held.parts within same_there);
      last = (λ some. held.last some ∙ sym (put_nth (run.count - 1) (omega arith)));
    }

    pub put_others : OtherRunsStay arena (with_block arena block new) run
    put_others b live not_of =
        get_or-set_other arena block b (Some new) None (λ e. not_of (omega arith, ap (λ x. (header_in (octets_at arena x)).owner) e ∙ held_part.owner_is))

    pub put_nodes : nodes_in (with_block arena block new) ≡ nodes_in arena
    put_nodes = nodes-written arena block run.first k new held_part (ap (λ (h : BlockHeader). h.kind) same)

    pub put_octets : (cursor : ℕ) (part : List ℕ) → cursor + length part ≤ 120 → payload new ≡ overwritten
        (payload (octets (octets_at arena block))) cursor part
        → octets_of_run (with_block arena block new) run ≡ overwritten (octets_of_run arena run) (120 * k + cursor) part
    put_octets cursor part inside written =
        ap (λ b. run_octets (with_block arena b new) run.count run.first) block_is
        ∙ written_octets arena run.first new whole cursor part inside 0 run.count run.first k (120 * k + cursor) held.parts within same_there
        (written ∙ ap (λ b. overwritten (payload (octets (octets_at arena b))) cursor part) block_is) refl

-- its blocks are a chain, and apart
chain_nth : (arena : Blocks) (n block k d : ℕ) → k < n → get_or (chain_in arena n block) k d ≡ nth arena block k
chain_nth arena zero block k d within = absurd (omega (arith, within))
chain_nth arena (suc n) block zero d within = refl
chain_nth arena (suc n) block (suc k) d within = chain_nth arena n (next_in (octets_at arena block)) k d (omega (arith, within))

nodes-vacated : (arena : Blocks) (xs : List ℕ) → All (λ b. only_node (octets_at arena b) ≡ None) xs → AllPairs (λ a b. a ≢ b) xs → nodes_in (vacated xs arena)
    ≡ nodes_in arena
nodes-vacated arena [] none once = refl
nodes-vacated arena (x ∷ xs) none once =
    let stays = get_or-vacated xs arena x (first_absent x xs once) in
    nodes-kept (vacated xs arena) x None refl (ap only_node stays ∙ none 0 0 (omega arith))
    ∙ nodes-vacated arena xs (All-tail (λ b. only_node (octets_at arena b) ≡ None) x xs none) (rest_once x xs once)

-- all its blocks are given back
module _ (arena : Blocks) (run : Run) (held : IsHeld arena run) where
  given_part : (k d : ℕ) → k < length (chain_in arena run.count run.first) →
      IsRunPart run.first k (octets_at arena (get_or (chain_in arena run.count run.first) k d))
  given_part k d less =
      let within : k < run.count = omega (arith, less, length-chain_in arena run.count run.first) in
      held_part arena run held k within (get_or (chain_in arena run.count run.first) k d) (chain_nth arena run.count run.first k d within)

  pub given_live : All (IsLive arena) (chain_in arena run.count run.first)
  given_live k d less = (given_part k d less).live

  pub given_once : AllPairs (λ a b. a ≢ b) (chain_in arena run.count run.first)
  given_once i j d before less =
      let given = chain_in arena run.count run.first in
      let sooner : i < length given = omega arith in let differ : i ≢ j = (λ e. absurd (omega (arith, e, before))) in
      apart arena run.first (get_or given i d) (get_or given j d) i j (given_part i d sooner) (given_part j d less) differ

  pub given_last : 0 < run.count → run.last ≡ get_or (chain_in arena run.count run.first) (run.count - 1) 0
  given_last some = held.last some ∙ sym (chain_nth arena run.count run.first (run.count - 1) 0 (omega (arith, some)))

  module _ (after : Blocks) (freed : after ≡ vacated (chain_in arena run.count run.first) arena) where
    pub given_count : free_count after ≡ free_count arena + run.count
    given_count = ap free_count freed ∙ free_count-vacated arena (chain_in arena run.count run.first) given_live given_once
        ∙ ap (λ n. free_count arena + n) (length-chain_in arena run.count run.first)

    pub given_size : length after ≡ length arena
    given_size = ap length freed ∙ length-vacated (chain_in arena run.count run.first) arena

    pub given_others : OtherRunsStay arena after run
    given_others b live not_of =
        let given = chain_in arena run.count run.first in
        ap (λ a. octets_at a b) freed
        ∙ octets_at-vacated_other arena given b (λ k d less e. not_of (
          omega (arith, less, length-chain_in arena run.count run.first),
          ap (λ x. (header_in (octets_at arena x)).owner) e ∙ (given_part k d less).owner_is,
        ))

    pub given_nodes : nodes_in after ≡ nodes_in arena
    given_nodes =
        let given = chain_in arena run.count run.first in
        ap nodes_in freed
        ∙ nodes-vacated arena given (λ k d less. content_only run.first k (octets_at arena (get_or given k d)) (given_part k d less)) given_once
