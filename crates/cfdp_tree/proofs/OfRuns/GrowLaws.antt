-- A run with one more block.
--     begun_stay, begun_nodes, begun_free    the first block
--     grown_held, grown_octets, grown_others, grown_free, grown_size, grown_sequence, grown_nodes, grown_live   one more after the last
--     taken_octets, taken_written                            the octets of a block that was just taken
use Rattle.std.proofs.Common.{◌≡◌, ◌≢◌, ℕ, suc, ◌+◌, ◌-◌, ◌<◌, List, ◌++◌, length, Some, None, refl, sym, ap, ◌∙◌, subst, inl, inr, arith, length-set}
use Rattle.std.proofs.lemmas.List.{get_or-set_same, get_or-set_other, set-set}
use Rattle.std.proofs.lemmas.Bool.{cases_eq}
use Rattle.std.specs.Prelude.{IsSome}
use Rattle.std.proofs.lemmas.Option.{same_Some}
use Rattle.cfdp_arena.specs.Arena.{Blocks, octets_at, IsLive, with_block, free_count}
use Rattle.cfdp_arena.specs.Blocks.{blank_block}
use Rattle.cfdp_arena.proofs.Chains.{live_within, no_live}
use Rattle.cfdp_arena.proofs.Laws.{free_count-written, free_count-taken}
use Rattle.cfdp_tree.specs.declared.header.BlockKind.TheVariants as kind
use Rattle.cfdp_tree.specs.declared.runs.Run.{Run}
use Rattle.cfdp_tree.specs.code.Block.{BlockHeader, block_header, payload, tagged, linked}
use Rattle.cfdp_tree.specs.code.Runs.{octets, header_in, IsRunPart, IsRun, nth, run_octets, IsHeld, octets_of_run, OtherRunsStay}
use Rattle.cfdp_tree.specs.code.Nodes.{only_node, nodes_in}
use Rattle.cfdp_tree.proofs.OfNodes.NodeLaws.{content_only, nodes-kept, nodes-written}
use Rattle.cfdp_tree.proofs.OfRuns.RunLaws.{KeepsFrom, nth_part, kept_run, kept_octets, kept_nth, linked_run, linked_nth, linked_before, linked_octets}

-- a block that is written is live
live_written : (arena : Blocks) (block : ℕ) (new : List ℕ) (b : ℕ) → IsLive arena b → IsLive (with_block arena block new) b
live_written arena block new b live = elim (cases_eq b block) [
  | inl e ↦ subst IsSome (sym (ap (octets_at (with_block arena block new)) e
      ∙ get_or-set_same arena block (Some new) None (live_within arena block (subst (IsLive arena) e live)))) refl
  | inr other ↦ subst IsSome (sym (get_or-set_other arena block b (Some new) None other)) live
]

-- a free block is taken, and is given an owner, a rank and a kind
module _ (arena begun : Blocks) (block : ℕ) (free : octets_at arena block ≡ None) (inside : block < length arena)
    (owner rank : ℕ) (fresh : List ℕ) (begun_is : begun ≡ with_block arena block fresh) (whole : length fresh ≡ 128)
    (before : BlockHeader) (tag : block_header fresh ≡ tagged before owner rank kind.Content)
    (zeros : payload fresh ≡ payload blank_block) where
  fresh_at : octets_at begun block ≡ Some fresh
  fresh_at = ap (λ a. octets_at a block) begun_is ∙ get_or-set_same arena block (Some fresh) None inside

  other_block : (b : ℕ) → IsLive arena b → b ≢ block
  other_block b live e = no_live (octets_at arena b) (ap (octets_at arena) e ∙ free) live

  fresh_part : IsRunPart owner rank (octets_at begun block)
  fresh_part = subst (IsRunPart owner rank) (sym fresh_at) (record {
    live = refl;
    whole = whole;
    owner_is = ap (λ (h : BlockHeader). h.owner) tag;
    rank_is = ap (λ (h : BlockHeader). h.rank) tag;
    kind_is = ap (λ (h : BlockHeader). h.kind) tag;
  })

  pub begun_nodes : nodes_in begun ≡ nodes_in arena
  begun_nodes =
      ap nodes_in begun_is
      ∙ nodes-kept arena block (Some fresh) (ap only_node (sym fresh_at) ∙ content_only owner rank (octets_at begun block) fresh_part) (ap only_node free)

  pub begun_stay : (b : ℕ) → IsLive arena b → octets_at begun b ≡ octets_at arena b
  begun_stay b live = ap (λ a. octets_at a b) begun_is ∙ get_or-set_other arena block b (Some fresh) None (other_block b live)

  pub begun_free : free_count begun + 1 ≡ free_count arena
  begun_free = ap (λ a. free_count a + 1) begun_is ∙ free_count-taken arena block fresh inside free

  -- it follows the last block of a run
  module _ (run : Run) (held : IsHeld arena run) (some : 0 < run.count) (owner_is : owner ≡ run.first) (rank_is : rank ≡ run.count) where
    keeps : KeepsFrom run.first 0 arena begun
    keeps b r le part = begun_stay b part.live

    n : ℕ
    n = run.count - 1

    all : run.count ≡ suc n
    unfolding n
    all = omega arith

    parts : IsRun begun run.first 0 (suc n) run.first
    parts = subst (λ m. IsRun begun run.first 0 m run.first) all (kept_run arena begun run.first 0 run.count run.first keeps held.parts)

    last_is : run.last ≡ nth begun run.first n
    unfolding n
    last_is = held.last some ∙ sym (kept_nth arena begun run.first 0 run.count run.first (run.count - 1) keeps held.parts (omega arith))

    more : IsRunPart run.first rank (octets_at begun block)
    more = subst (λ o. IsRunPart o rank (octets_at begun block)) owner_is fresh_part

    next_rank : rank ≡ suc 0 + n
    next_rank = omega (arith, all)

    pub grown_last_live : IsLive begun run.last
    grown_last_live = subst (IsLive begun) (sym last_is) (nth_part begun run.first 0 (suc n) run.first n n parts (omega arith) (omega arith)).live

    module _ (new : List ℕ) (new_whole : length new ≡ 128) (link : block_header new ≡ linked (header_in (octets_at begun run.last)) block)
        (same : payload new ≡ payload (octets (octets_at begun run.last))) where
      abbrev grown : Blocks
      grown = with_block begun run.last new

      link_there : block_header new ≡ linked (header_in (octets_at begun (nth begun run.first n))) block
      link_there = link ∙ ap (λ b. linked (header_in (octets_at begun b)) block) last_is

      pub grown_held : (after : Run) → after.first ≡ run.first → after.last ≡ block → after.count ≡ run.count + 1 → IsHeld grown after
      grown_held after first_is after_last count_is =
          let long : suc (suc n) ≡ after.count = omega (arith, all) in
          let to_last : suc n ≡ after.count - 1 = omega (arith, all) in
          record {
            parts = subst (λ m. IsRun grown after.first 0 m after.first) long
                (subst (λ b. IsRun grown b 0 (suc (suc n)) b) (sym first_is)
                (subst (λ b. IsRun (with_block begun b new) run.first 0 (suc (suc n)) run.first) (sym last_is)
                (linked_run begun run.first block new new_whole 0 n run.first rank parts more next_rank link_there)));
            last = (λ here. after_last
                ∙ sym (ap (λ b. nth (with_block begun b new) run.first (suc n)) last_is
                ∙ linked_nth begun run.first block new new_whole 0 n run.first parts link_there)
                ∙ (λ k. nth grown (sym first_is k) (to_last k)));
          }

      pub grown_octets : (after : Run) → after.first ≡ run.first → after.count ≡ run.count + 1 → octets_of_run grown after ≡ octets_of_run arena run
          ++ payload blank_block
      grown_octets after first_is count_is =
          let long : after.count ≡ suc (suc n) = omega (arith, all) in
          (λ k. run_octets grown (long k) (first_is k))
          ∙ ap (λ b. run_octets (with_block begun b new) (suc (suc n)) run.first) last_is
          ∙ linked_octets begun run.first block new new_whole 0 n run.first rank parts more next_rank link_there (same
          ∙ ap (λ b. payload (octets (octets_at begun b))) last_is)
          ∙ (λ k. run_octets begun (sym all k) run.first ++ payload (octets (fresh_at k)))
          ∙ (λ k. kept_octets arena begun run.first 0 run.count run.first keeps held.parts k ++ zeros k)

      pub grown_others : OtherRunsStay arena grown run
      grown_others b live not_of =
          let last_part : IsRunPart run.first n (octets_at begun run.last) = subst (λ x. IsRunPart run.first n (octets_at begun x)) (sym last_is)
          (nth_part begun run.first 0 (suc n) run.first n n parts (omega arith) (omega arith)) in
          let was : octets_at begun b ≡ octets_at arena b = begun_stay b live in
          get_or-set_other begun run.last b (Some new) None
          (λ e. not_of (some, ap (λ entry. (header_in entry).owner) (sym was) ∙ ap (λ x. (header_in (octets_at begun x)).owner) e ∙ last_part.owner_is))
          ∙ was

      pub grown_sequence : (after : Run) → after.first ≡ run.first → (k : ℕ) → k < run.count → nth grown after.first k ≡ nth arena run.first k
      grown_sequence after first_is k within =
          ap (λ b. nth grown b k) first_is
          ∙ ap (λ b. nth (with_block begun b new) run.first k) last_is
          ∙ linked_before begun run.first block new new_whole 0 n run.first k parts (omega (arith, all))
          ∙ kept_nth arena begun run.first 0 run.count run.first k keeps held.parts (omega arith)

      pub grown_nodes : nodes_in grown ≡ nodes_in arena
      grown_nodes =
          let last_part : IsRunPart run.first n (octets_at begun run.last) = subst (λ x. IsRunPart run.first n (octets_at begun x)) (sym last_is)
          (nth_part begun run.first 0 (suc n) run.first n n parts (omega arith) (omega arith)) in
          nodes-written begun run.last run.first n new last_part (ap (λ (h : BlockHeader). h.kind) link) ∙ begun_nodes

      pub grown_free : free_count grown + 1 ≡ free_count arena
      grown_free = omega (arith, free_count-written begun run.last new grown_last_live, begun_free)

      pub grown_live : (b : ℕ) → IsLive arena b → IsLive grown b
      grown_live b live = live_written begun run.last new b (subst IsSome (sym (begun_stay b live)) live)

      pub grown_size : length grown ≡ length arena
      grown_size = length-set begun run.last (Some new) ∙ ap length begun_is ∙ length-set arena block (Some fresh)

-- what a taken block holds
pub taken_octets : (arena : Blocks) (block : ℕ) (o p : List ℕ) → block < length arena → octets_at (with_block arena block o) block ≡ Some p → p ≡ o
taken_octets arena block o p inside e = same_Some _ _ (sym e ∙ get_or-set_same arena block (Some o) None inside)

-- and once it is written
pub taken_written : (arena taken : Blocks) (block : ℕ) (o p : List ℕ) → taken ≡ with_block arena block o → with_block taken block p ≡ with_block arena block p
taken_written arena taken block o p e = ap (λ a. with_block a block p) e ∙ set-set arena block (Some o) (Some p)
