-- Runs of blocks while the arena changes.
--     apart                                  blocks of different ranks are different blocks
--     nth_part, nth_more, length-run         a part of a run;  one step further;  120 octets a block
--     run_slice                              octets of one block
--     KeepsFrom, kept_run, kept_octets, kept_nth     the parts from a rank on hold what they held, so the run is as it was
--     beyond_keeps                           another block for one part keeps the parts after it
--     written_run, written_octets, written_nth       the payload of one part is written
--     linked_run, linked_octets, linked_nth, linked_before    one more part after the last one
use Rattle.std.proofs.Common.{◌≡◌, ◌≢◌, ℕ, suc, zero, ◌+◌, ◌*◌, ◌<◌, ◌≤◌, List, [], ◌++◌, length, take, drop, set, Option, Some, None, refl, sym, ap, ◌∙◌, subst, arith, length-append, length-drop}
use Rattle.std.proofs.lemmas.List.{get_or-set_same, get_or-set_other, append-nil, append_assoc}
use Rattle.cfdp_arena.specs.Arena.{Blocks, octets_at, with_block}
use Rattle.cfdp_arena.proofs.Chains.{live_within}
use Rattle.cfdp_actions.specs.Store.{overwritten}
use Rattle.cfdp_tree.specs.code.Block.{BlockHeader, block_header, payload, linked}
use Rattle.cfdp_tree.specs.code.Runs.{octets, header_in, next_in, IsRunPart, IsRun, nth, run_octets}
use Rattle.cfdp_tree.proofs.OfRuns.OctetsInLists.{overwritten-left, overwritten-right, slice-left, slice-right}

pub apart : (arena : Blocks) (owner a b r s : ℕ) → IsRunPart owner r (octets_at arena a) → IsRunPart owner s (octets_at arena b) → r ≢ s → a ≢ b
apart arena owner a b r s p q ne e = ne (sym p.rank_is ∙ ap (λ x. (header_in (octets_at arena x)).rank) e ∙ q.rank_is)

pub nth_part : (arena : Blocks) (owner rank n block k r : ℕ) → IsRun arena owner rank n block → k < n → r ≡ rank + k →
    IsRunPart owner r (octets_at arena (nth arena block k))
nth_part arena owner rank zero block k r run within e = absurd (omega arith)
nth_part arena owner rank (suc n) block zero r run within e =
    let same : rank ≡ r = omega arith in subst (λ j. IsRunPart owner j (octets_at arena block)) same run.0
nth_part arena owner rank (suc n) block (suc k) r run within e =
    nth_part arena owner (suc rank) n (next_in (octets_at arena block)) k r run.1 (omega arith) (omega arith)

pub nth_more : (arena : Blocks) (block k : ℕ) → nth arena block (suc k) ≡ next_in (octets_at arena (nth arena block k))
nth_more arena block zero = refl
nth_more arena block (suc k) = nth_more arena (next_in (octets_at arena block)) k

pub length-run : (arena : Blocks) (owner rank n block : ℕ) → IsRun arena owner rank n block → length (run_octets arena n block) ≡ 120 * n
length-run arena owner rank zero block run = refl
length-run arena owner rank (suc n) block run =
    let here = payload (octets (octets_at arena block)) in
    let rest = run_octets arena n (next_in (octets_at arena block)) in
    omega (
      arith,
      length-append here rest,
      length-drop 8 (octets (octets_at arena block)),
      run.0.whole,
      length-run arena owner (suc rank) n (next_in (octets_at arena block)) run.1,
    )

-- a slice of one payload
pub run_slice : (arena : Blocks) (owner rank n block k cursor count at : ℕ) → IsRun arena owner rank n block → k < n → cursor + count ≤ 120 → at ≡ 120 * k
    + cursor
    → take count (drop at (run_octets arena n block)) ≡ take count (drop cursor (payload (octets (octets_at arena (nth arena block k)))))
run_slice arena owner rank zero block k cursor count at run within inside at_is = absurd (omega arith)
run_slice arena owner rank (suc n) block zero cursor count at run within inside at_is =
    let old = octets (octets_at arena block) in
    let rest = run_octets arena n (next_in (octets_at arena block)) in
    let first : at ≡ cursor = omega arith in
    ap (λ j. take count (drop j (payload old ++ rest))) first
    ∙ slice-left (payload old) rest cursor count (omega (arith, length-drop 8 old, run.0.whole))
run_slice arena owner rank (suc n) block (suc k) cursor count at run within inside at_is =
    let old = octets (octets_at arena block) in
    let next = next_in (octets_at arena block) in
    slice-right (payload old) (run_octets arena n next) (120 * k + cursor) at count (omega (arith, length-drop 8 old, run.0.whole))
    ∙ run_slice arena owner (suc rank) n next k cursor count (120 * k + cursor) run.1 (omega arith) inside refl

abbrev pub KeepsFrom : ℕ → ℕ → Blocks → Blocks → Type 0
KeepsFrom owner rank old new = (block r : ℕ) → rank ≤ r → IsRunPart owner r (octets_at old block) → octets_at new block ≡ octets_at old block

-- from a later rank on
pub keeps_later : (owner rank : ℕ) (old new : Blocks) → KeepsFrom owner rank old new → KeepsFrom owner (suc rank) old new
keeps_later owner rank old new keeps block r le part = keeps block r (omega arith) part

pub kept_run : (old new : Blocks) (owner rank n block : ℕ) → KeepsFrom owner rank old new → IsRun old owner rank n block → IsRun new owner rank n block
kept_run old new owner rank zero block keeps run = tt
kept_run old new owner rank (suc n) block keeps run =
    let same : octets_at new block ≡ octets_at old block = keeps block rank (omega arith) run.0 in
    let rest = kept_run old new owner (suc rank) n (next_in (octets_at old block)) (keeps_later owner rank old new keeps) run.1 in
    (subst (IsRunPart owner rank) (sym same) run.0, subst (λ entry. IsRun new owner (suc rank) n (next_in entry)) (sym same) rest)

pub kept_octets : (old new : Blocks) (owner rank n block : ℕ) → KeepsFrom owner rank old new → IsRun old owner rank n block → run_octets new n block
    ≡ run_octets old n block
kept_octets old new owner rank zero block keeps run = refl
kept_octets old new owner rank (suc n) block keeps run =
    let same : octets_at new block ≡ octets_at old block = keeps block rank (omega arith) run.0 in
    ap (λ entry. payload (octets entry) ++ run_octets new n (next_in entry)) same
    ∙ ap (λ rest. payload (octets (octets_at old block)) ++ rest) (kept_octets old new owner (suc rank) n (next_in (octets_at old block))
    (keeps_later owner rank old new keeps) run.1)

pub kept_nth : (old new : Blocks) (owner rank n block k : ℕ) → KeepsFrom owner rank old new → IsRun old owner rank n block → k ≤ n → nth new block k
    ≡ nth old block k
kept_nth old new owner rank n block zero keeps run within = refl
kept_nth old new owner rank zero block (suc k) keeps run within = absurd (omega arith)
kept_nth old new owner rank (suc n) block (suc k) keeps run within =
    let same : octets_at new block ≡ octets_at old block = keeps block rank (omega arith) run.0 in
    ap (λ entry. nth new (next_in entry) k) same
    ∙ kept_nth old new owner (suc rank) n (next_in (octets_at old block)) k (keeps_later owner rank old new keeps) run.1 (omega arith)

-- one block is changed: the parts of higher ranks stay
pub beyond_keeps : (arena : Blocks) (owner rank block : ℕ) (entry : Option (List ℕ)) → IsRunPart owner rank (octets_at arena block) →
    KeepsFrom owner (suc rank) arena (set arena block entry)
beyond_keeps arena owner rank block entry part b r le other =
    get_or-set_other arena block b entry None (apart arena owner b block r rank other part (omega arith))

-- the payload of the part at k is written, and its header stays
module _ (arena : Blocks) (owner : ℕ) (new : List ℕ) (whole : length new ≡ 128) where
  written_part : (rank block : ℕ) → IsRunPart owner rank (octets_at arena block) → block_header new ≡ header_in (octets_at arena block) → IsRunPart owner rank
      (Some new)
  written_part rank block part same = record {
    live = refl;
    whole = whole;
    owner_is = ap (λ (h : BlockHeader). h.owner) same ∙ part.owner_is;
    rank_is = ap (λ (h : BlockHeader). h.rank) same ∙ part.rank_is;
    kind_is = ap (λ (h : BlockHeader). h.kind) same ∙ part.kind_is;
  }

  pub written_run : (rank n block k : ℕ) → IsRun arena owner rank n block → k < n → block_header new ≡ header_in (octets_at arena (nth arena block k)) →
      IsRun (with_block arena (nth arena block k) new) owner rank n block
  written_run rank zero block k run within same = absurd (omega arith)
  written_run rank (suc n) block zero run within same =
      let after = with_block arena block new in
      let here : octets_at after block ≡ Some new = get_or-set_same arena block (Some new) None (live_within arena block run.0.live) in
      let rest = kept_run arena after owner (suc rank) n (next_in (octets_at arena block)) (beyond_keeps arena owner rank block (Some new) run.0) run.1 in (
        subst (IsRunPart owner rank) (sym here) (written_part rank block run.0 same),
        subst (λ entry. IsRun after owner (suc rank) n (next_in entry)) (sym here)
            (subst (λ (h : BlockHeader). IsRun after owner (suc rank) n h.next) (sym same) rest),
      )
  written_run rank (suc n) block (suc k) run within same =
      let next = next_in (octets_at arena block) in
      let target = nth arena next k in
      let after = with_block arena target new in
      let there : IsRunPart owner (suc rank + k) (octets_at arena target) = nth_part arena owner (suc rank) n next k (suc rank + k) run.1 (omega arith) refl in
      let kept : octets_at after block ≡ octets_at arena block = get_or-set_other arena target block (Some new) None
      (apart arena owner block target rank (suc rank + k) run.0 there (omega arith)) in
      let rest = written_run (suc rank) n next k run.1 (omega arith) same in
      (subst (IsRunPart owner rank) (sym kept) run.0, subst (λ entry. IsRun after owner (suc rank) n (next_in entry)) (sym kept) rest)

  pub written_nth : (rank n block k j : ℕ) → IsRun arena owner rank n block → k < n → j ≤ n → block_header new ≡ header_in (octets_at arena (nth arena block k))
      →
      nth (with_block arena (nth arena block k) new) block j ≡ nth arena block j
  written_nth rank n block k zero run within reach same = refl
  written_nth rank zero block k (suc j) run within reach same = absurd (omega arith)
  written_nth rank (suc n) block zero (suc j) run within reach same =
      let after = with_block arena block new in
      let here : octets_at after block ≡ Some new = get_or-set_same arena block (Some new) None (live_within arena block run.0.live) in
      ap (λ entry. nth after (next_in entry) j) here
      ∙ ap (λ (h : BlockHeader). nth after h.next j) same
      ∙ kept_nth arena after owner (suc rank) n (next_in (octets_at arena block)) j (beyond_keeps arena owner rank block (Some new) run.0) run.1 (omega arith)
  written_nth rank (suc n) block (suc k) (suc j) run within reach same =
      let next = next_in (octets_at arena block) in
      let target = nth arena next k in
      let after = with_block arena target new in
      let there : IsRunPart owner (suc rank + k) (octets_at arena target) = nth_part arena owner (suc rank) n next k (suc rank + k) run.1 (omega arith) refl in
      let kept : octets_at after block ≡ octets_at arena block = get_or-set_other arena target block (Some new) None
      (apart arena owner block target rank (suc rank + k) run.0 there (omega arith)) in
      ap (λ entry. nth after (next_in entry) j) kept ∙ written_nth (suc rank) n next k j run.1 (omega arith) (omega arith) same

  module _ (cursor : ℕ) (part : List ℕ) (inside : cursor + length part ≤ 120) where
    pub written_octets : (rank n block k at : ℕ) → IsRun arena owner rank n block → k < n → block_header new ≡ header_in (octets_at arena (nth arena block k))
        → payload new ≡ overwritten (payload (octets (octets_at arena (nth arena block k)))) cursor part → at ≡ 120 * k + cursor
        → run_octets (with_block arena (nth arena block k) new) n block ≡ overwritten (run_octets arena n block) at part
    written_octets rank zero block k at run within same written at_is = absurd (omega arith)
    written_octets rank (suc n) block zero at run within same written at_is =
        let after = with_block arena block new in
        let old = octets (octets_at arena block) in
        let next = next_in (octets_at arena block) in
        let rest = run_octets arena n next in
        let here : octets_at after block ≡ Some new = get_or-set_same arena block (Some new) None (live_within arena block run.0.live) in
        let first : at ≡ cursor = omega arith in
        ap (λ entry. payload (octets entry) ++ run_octets after n (next_in entry)) here
        ∙ ap (λ (h : BlockHeader). payload new ++ run_octets after n h.next) same
        ∙ ap (λ xs. payload new ++ xs) (kept_octets arena after owner (suc rank) n next (beyond_keeps arena owner rank block (Some new) run.0) run.1)
        ∙ ap (λ xs. xs ++ rest) written
        ∙ sym (overwritten-left (payload old) rest cursor part (omega (arith, length-drop 8 old, run.0.whole)))
        ∙ ap (λ j. overwritten (payload old ++ rest) j part) (sym first)
    written_octets rank (suc n) block (suc k) at run within same written at_is =
        let next = next_in (octets_at arena block) in
        let old = octets (octets_at arena block) in
        let target = nth arena next k in
        let after = with_block arena target new in
        let there : IsRunPart owner (suc rank + k) (octets_at arena target) = nth_part arena owner (suc rank) n next k (suc rank + k) run.1
        (omega arith) refl in
        let kept : octets_at after block ≡ octets_at arena block = get_or-set_other arena target block (Some new) None
        (apart arena owner block target rank (suc rank + k) run.0 there (omega arith)) in
        ap (λ entry. payload (octets entry) ++ run_octets after n (next_in entry)) kept
        ∙ ap (λ xs. payload old ++ xs) (written_octets (suc rank) n next k (120 * k + cursor) run.1 (omega arith) same written refl)
        ∙ sym (overwritten-right (payload old) (run_octets arena n next) (120 * k + cursor) at part (omega (arith, length-drop 8 old, run.0.whole)))

-- the last part is linked to a part of the rank after its own
module _ (arena : Blocks) (owner fresh : ℕ) (new : List ℕ) (whole : length new ≡ 128) where
  linked_part : (rank block : ℕ) → IsRunPart owner rank (octets_at arena block) → block_header new ≡ linked (header_in (octets_at arena block)) fresh →
      IsRunPart owner rank (Some new)
  linked_part rank block part same = record {
    live = refl;
    whole = whole;
    owner_is = ap (λ (h : BlockHeader). h.owner) same ∙ part.owner_is;
    rank_is = ap (λ (h : BlockHeader). h.rank) same ∙ part.rank_is;
    kind_is = ap (λ (h : BlockHeader). h.kind) same ∙ part.kind_is;
  }

  pub linked_run : (rank n block j : ℕ) → IsRun arena owner rank (suc n) block → IsRunPart owner j (octets_at arena fresh) → j ≡ suc rank + n
      → block_header new ≡ linked (header_in (octets_at arena (nth arena block n))) fresh →
      IsRun (with_block arena (nth arena block n) new) owner rank (suc (suc n)) block
  linked_run rank zero block j run more j_is same =
      let after = with_block arena block new in
      let here : octets_at after block ≡ Some new = get_or-set_same arena block (Some new) None (live_within arena block run.0.live) in
      let there : octets_at after fresh ≡ octets_at arena fresh = beyond_keeps arena owner rank block (Some new) run.0 fresh j (omega arith) more in
      let next_rank : j ≡ suc rank = omega arith in
      let to_fresh : next_in (octets_at after block) ≡ fresh = ap next_in here ∙ ap (λ (h : BlockHeader). h.next) same in
      let last : IsRunPart owner (suc rank) (octets_at after fresh) = subst (λ r. IsRunPart owner r (octets_at after fresh)) next_rank
      (subst (IsRunPart owner j) (sym there) more) in (
        subst (IsRunPart owner rank) (sym here) (linked_part rank block run.0 same),
        (subst (λ b. IsRunPart owner (suc rank) (octets_at after b)) (sym to_fresh) last, tt),
      )
  linked_run rank (suc n) block j run more j_is same =
      let next = next_in (octets_at arena block) in
      let target = nth arena next n in
      let after = with_block arena target new in
      let there : IsRunPart owner (suc rank + n) (octets_at arena target) = nth_part arena owner (suc rank) (suc n) next n (suc rank + n) run.1
      (omega arith) refl in
      let kept : octets_at after block ≡ octets_at arena block = get_or-set_other arena target block (Some new) None
      (apart arena owner block target rank (suc rank + n) run.0 there (omega arith)) in
      let rest = linked_run (suc rank) n next j run.1 more (omega arith) same in
      (subst (IsRunPart owner rank) (sym kept) run.0, subst (λ entry. IsRun after owner (suc rank) (suc (suc n)) (next_in entry)) (sym kept) rest)

  pub linked_nth : (rank n block : ℕ) → IsRun arena owner rank (suc n) block
      → block_header new ≡ linked (header_in (octets_at arena (nth arena block n))) fresh → nth (with_block arena (nth arena block n) new) block (suc n) ≡ fresh
  linked_nth rank zero block run same =
      ap next_in (get_or-set_same arena block (Some new) None (live_within arena block run.0.live)) ∙ ap (λ (h : BlockHeader). h.next) same
  linked_nth rank (suc n) block run same =
      let next = next_in (octets_at arena block) in
      let target = nth arena next n in
      let after = with_block arena target new in
      let there : IsRunPart owner (suc rank + n) (octets_at arena target) = nth_part arena owner (suc rank) (suc n) next n (suc rank + n) run.1
      (omega arith) refl in
      let kept : octets_at after block ≡ octets_at arena block = get_or-set_other arena target block (Some new) None
      (apart arena owner block target rank (suc rank + n) run.0 there (omega arith)) in
      ap (λ entry. nth after (next_in entry) (suc n)) kept ∙ linked_nth (suc rank) n next run.1 same

  pub linked_before : (rank n block k : ℕ) → IsRun arena owner rank (suc n) block → k ≤ n → nth (with_block arena (nth arena block n) new) block k
      ≡ nth arena block k
  linked_before rank n block zero run within = refl
  linked_before rank zero block (suc k) run within = absurd (omega arith)
  linked_before rank (suc n) block (suc k) run within =
      let next = next_in (octets_at arena block) in
      let target = nth arena next n in
      let after = with_block arena target new in
      let there : IsRunPart owner (suc rank + n) (octets_at arena target) = nth_part arena owner (suc rank) (suc n) next n (suc rank + n) run.1
      (omega arith) refl in
      let kept : octets_at after block ≡ octets_at arena block = get_or-set_other arena target block (Some new) None
      (apart arena owner block target rank (suc rank + n) run.0 there (omega arith)) in
      ap (λ entry. nth after (next_in entry) k) kept ∙ linked_before (suc rank) n next k run.1 (omega arith)

  pub linked_octets : (rank n block j : ℕ) → IsRun arena owner rank (suc n) block → IsRunPart owner j (octets_at arena fresh) → j ≡ suc rank + n
      → block_header new ≡ linked (header_in (octets_at arena (nth arena block n))) fresh → payload new ≡ payload (octets (octets_at arena (nth arena block n)))
      → run_octets (with_block arena (nth arena block n) new) (suc (suc n)) block ≡ run_octets arena (suc n) block ++ payload (octets (octets_at arena fresh))
  linked_octets rank zero block j run more j_is same written =
      let after = with_block arena block new in
      let old = payload (octets (octets_at arena block)) in
      let added = payload (octets (octets_at arena fresh)) in
      let here : octets_at after block ≡ Some new = get_or-set_same arena block (Some new) None (live_within arena block run.0.live) in
      let there : octets_at after fresh ≡ octets_at arena fresh = beyond_keeps arena owner rank block (Some new) run.0 fresh j (omega arith) more in
      ap (λ entry. payload (octets entry) ++ run_octets after 1 (next_in entry)) here
      ∙ ap (λ (h : BlockHeader). payload new ++ run_octets after 1 h.next) same
      ∙ ap (λ entry. payload new ++ (payload (octets entry) ++ [])) there
      ∙ (λ k. written k ++ append-nil added k)
      ∙ ap (λ xs. xs ++ added) (sym (append-nil old))
  linked_octets rank (suc n) block j run more j_is same written =
      let next = next_in (octets_at arena block) in
      let target = nth arena next n in
      let after = with_block arena target new in
      let old = payload (octets (octets_at arena block)) in
      let there : IsRunPart owner (suc rank + n) (octets_at arena target) = nth_part arena owner (suc rank) (suc n) next n (suc rank + n) run.1
      (omega arith) refl in
      let kept : octets_at after block ≡ octets_at arena block = get_or-set_other arena target block (Some new) None
      (apart arena owner block target rank (suc rank + n) run.0 there (omega arith)) in
      ap (λ entry. payload (octets entry) ++ run_octets after (suc (suc n)) (next_in entry)) kept
      ∙ ap (λ xs. old ++ xs) (linked_octets (suc rank) n next j run.1 more (omega arith) same written)
      ∙ sym (append_assoc old (run_octets arena (suc n) next) (payload (octets (octets_at arena fresh))))
