-- The arena, of whose blocks some were made and those after them were not.
--     ..-unmade                       entries, with those of blocks that are not made after them
--     length-value, free-value, ..    how many blocks an arena has, and how many of them are free
--     within, vacant, octets          a live block was made
--     wrote, gave, took, gave_all     the arena after a block that was made was written, given back or taken, or a chain given back
--     made_..                         the arena after its next block was made
--     new_..                          an arena none of whose blocks is made
use Rattle.std.proofs.Common.{◌≡◌, ◌≢◌, ℕ, suc, zero, ◌+◌, ◌-◌, ◌<◌, ◌≤◌, List, [], ◌∷◌, ◌++◌, length, map, replicate, get_or, set, Option, Some, None, refl, sym, ap, ◌∙◌, subst, arith, length-set, length-append}
use Rattle.std.proofs.lemmas.List.{set-append_left, set_at, get_or_past, append_assoc, map-append, length-map, length-replicate}
use Rattle.std.specs.Prelude.{All, AllPairs, IsSome, unwrap_or}
use Rattle.cfdp_arena.specs.Arena.{Blocks, live_count, octets_at, octets_of, IsLive, free_count, all_free, with_block, without_block}
use Rattle.cfdp_arena.specs.Chain.{chain_in}
use Rattle.cfdp_arena.specs.FreeList.{link, vacated}
use Rattle.cfdp_arena.specs.code.FreeList.{free_chain, arena_view, whole_view, AreDistinctBlocks, IsSoundList, IsArena}
use Rattle.cfdp_arena.proofs.Chains as list
use Rattle.cfdp_arena.proofs.GivenChains as given

-- n blocks that are not made
abbrev unmade : ℕ → Blocks
unmade n = replicate n None

octets_at-none : (n block : ℕ) → octets_at (unmade n) block ≡ None
octets_at-none zero block = refl
octets_at-none (suc n) zero = refl
octets_at-none (suc n) (suc block) = octets_at-none n block

octets_at-unmade : (front : Blocks) (n block : ℕ) → octets_at (front ++ unmade n) block ≡ octets_at front block
octets_at-unmade [] n block = octets_at-none n block
octets_at-unmade (x ∷ xs) n zero = refl
octets_at-unmade (x ∷ xs) n (suc block) = octets_at-unmade xs n block

without_block-none : (n block : ℕ) → without_block (unmade n) block ≡ unmade n
without_block-none zero block = refl
without_block-none (suc n) zero = refl
without_block-none (suc n) (suc block) = ap (λ xs. None ∷ xs) (without_block-none n block)

without_block-unmade : (front : Blocks) (n block : ℕ) → without_block (front ++ unmade n) block ≡ without_block front block ++ unmade n
without_block-unmade [] n block = without_block-none n block
without_block-unmade (x ∷ xs) n zero = refl
without_block-unmade (x ∷ xs) n (suc block) = ap (λ rest. x ∷ rest) (without_block-unmade xs n block)

vacated-unmade : (blocks : List ℕ) (front : Blocks) (n : ℕ) → vacated blocks (front ++ unmade n) ≡ vacated blocks front ++ unmade n
vacated-unmade [] front n = refl
vacated-unmade (b ∷ bs) front n = ap (λ arena. without_block arena b) (vacated-unmade bs front n) ∙ without_block-unmade (vacated bs front) n b

chain_in-unmade : (front : Blocks) (n count first : ℕ) → chain_in (front ++ unmade n) count first ≡ chain_in front count first
chain_in-unmade front n zero first = refl
chain_in-unmade front n (suc count) first =
    ap (λ o. first ∷ chain_in (front ++ unmade n) count (link (unwrap_or o []))) (octets_at-unmade front n first)
    ∙ ap (λ rest. first ∷ rest) (chain_in-unmade front n count (link (octets_of front first)))

live_count-none : (n : ℕ) → live_count (unmade n) ≡ 0
live_count-none zero = refl
live_count-none (suc n) = live_count-none n

live_count-unmade : (front : Blocks) (n : ℕ) → live_count (front ++ unmade n) ≡ live_count front
live_count-unmade [] n = live_count-none n
live_count-unmade (Some x ∷ xs) n = ap (λ k. k + 1) (live_count-unmade xs n)
live_count-unmade (None ∷ xs) n = live_count-unmade xs n

-- the fields of an arena, and the value that callers see
module _ {blocks : List (List ℕ)} {listed head made capacity room : ℕ} {value : Blocks}
    (is : IsArena blocks listed head made capacity room) (view_is : whole_view blocks listed head capacity ≡ value) where
  -- the entries of the blocks that were made
  abbrev front : Blocks
  front = arena_view blocks listed head

  abbrev more : ℕ
  more = capacity - length blocks

  value_is : value ≡ front ++ unmade more
  unfolding whole_view
  value_is = sym view_is

  length-front : length front ≡ length blocks
  length-front = list.length-value is.list refl

  pub length-value : length value ≡ capacity
  length-value =
      omega (arith, ap length value_is, length-append front (unmade more), length-replicate {A = Option (List ℕ)} more None, length-front, is.count, is.within)

  pub live_count-value : live_count value + listed ≡ made
  live_count-value = omega (arith, ap live_count value_is, live_count-unmade front more, list.live_count-value is.list refl, is.count)

  pub free-value : listed + (capacity - made) ≡ free_count value
  free-value = omega (arith, live_count-value, length-value, is.within)

  -- a block is live where it is one of those that were made, and live there
  octets_at-value : (block : ℕ) → octets_at value block ≡ octets_at front block
  octets_at-value block = ap (λ v. octets_at v block) value_is ∙ octets_at-unmade front more block

  live_front : (block : ℕ) → IsLive value block → IsLive front block
  live_front block live = subst IsSome (octets_at-value block) live

  -- the fields after a change of the blocks that were made
  kept : (after : List (List ℕ)) {count first : ℕ} → length after ≡ length blocks → IsSoundList after count first → IsArena after count first made capacity room
  kept after long sound = record { list = sound; count = omega (arith, long, is.count); within = is.within; all = is.all; some = is.some; most = is.most }

  viewed : (after : List (List ℕ)) (count first : ℕ) (new : Blocks) → length after ≡ length blocks
      → arena_view after count first ≡ new → whole_view after count first capacity ≡ new ++ unmade more
  unfolding whole_view
  viewed after count first new long e = λ k. e k ++ unmade (capacity - long k)

  -- a block that is live
  module _ {number block : ℕ} (number_is : number ≡ block) (live : IsLive value block) where
    here : IsLive front block
    here = live_front block live

    pub within : number < length blocks
    within = list.within is.list refl number_is here

    -- leaves room in the count of blocks on the list
    pub vacant : listed < length blocks
    vacant = list.room is.list refl number_is here

    pub octets : octets_at value block ≡ Some (get_or blocks number [])
    octets = octets_at-value block ∙ list.octets is.list refl number_is here

    -- written, it holds what was written
    module _ (octets : List ℕ) where
      pub wrote_arena : IsArena (set blocks number octets) listed head made capacity room
      wrote_arena = kept _ (length-set blocks number octets) (list.written_sound is.list refl number_is here octets)

      pub wrote : whole_view (set blocks number octets) listed head capacity ≡ with_block value block octets
      wrote =
          let reach : block < length front = omega (arith, within, length-front, number_is) in
          viewed _ _ _ _ (length-set blocks number octets) (list.written is.list refl number_is here octets)
          ∙ sym (set-append_left front (unmade more) block (Some octets) reach)
          ∙ ap (λ v. with_block v block octets) (sym value_is)

    -- given back, it is the first of the list
    module _ (octets : List ℕ) (linked : link octets ≡ head) {count : ℕ} (counted : count ≡ suc listed) where
      pub gave_arena : IsArena (set blocks number octets) count number made capacity room
      gave_arena = kept _ (length-set blocks number octets) (list.given_sound is.list refl number_is here octets linked counted)

      pub gave : whole_view (set blocks number octets) count number capacity ≡ without_block value block
      gave =
          viewed _ _ _ _ (length-set blocks number octets) (list.given is.list refl number_is here octets linked counted)
          ∙ sym (without_block-unmade front more block)
          ∙ ap (λ v. without_block v block) (sym value_is)

  -- the first block of the list, which leads to the next
  module _ {count next : ℕ} (counted : listed ≡ suc count) (next_is : next ≡ link (get_or blocks head [])) where
    pub first_within : head < length blocks
    first_within = list.first_within is.list refl counted next_is

    pub first_free : octets_at value head ≡ None
    first_free = octets_at-value head ∙ list.first_free is.list refl counted next_is

    -- taken, it is live with the octets that it is given
    module _ (octets : List ℕ) where
      pub took_arena : next < 65536 → IsArena (set blocks head octets) count next made capacity room
      took_arena fits = kept _ (length-set blocks head octets) (list.taken_sound is.list refl counted next_is octets fits)

      pub took : whole_view (set blocks head octets) count next capacity ≡ with_block value head octets
      took =
          let reach : head < length front = omega (arith, first_within, length-front) in
          viewed _ _ _ _ (length-set blocks head octets) (list.taken is.list refl counted next_is octets)
          ∙ sym (set-append_left front (unmade more) head (Some octets) reach)
          ∙ ap (λ v. with_block v head octets) (sym value_is)

  -- the next block, where the list is empty
  module _ (empty : listed ≡ 0) (rest : made < capacity) (block : List ℕ) where
    pub next_free : octets_at value made ≡ None
    next_free =
        let past : length front ≤ made = omega (arith, length-front, is.count) in
        octets_at-value made ∙ get_or_past front made None past

    pub made_arena : {after : ℕ} → after ≡ made + 1 → IsArena (blocks ++ block ∷ []) listed head after capacity room
    made_arena {after} next =
        let long : length (blocks ++ block ∷ []) ≡ length blocks + 1 = length-append blocks (block ∷ []) in
        record {
          list = record {
            apart = subst (λ n. AreDistinctBlocks (length (blocks ++ block ∷ [])) (free_chain (blocks ++ block ∷ []) n head)) (sym empty) tt;
            small = omega (arith, long, is.count, is.most);
            fits = is.list.fits;
          };
          count = omega (arith, long, next, is.count);
          within = omega (arith, next);
          all = is.all;
          some = is.some;
          most = is.most;
        }

    pub made_view : whole_view (blocks ++ block ∷ []) listed head capacity ≡ with_block value made block
    unfolding whole_view arena_view
    made_view =
        let after = blocks ++ block ∷ [] in
        let entries = map Some blocks in
        let left = capacity - length after in
        let long : length after ≡ length blocks + 1 = length-append blocks (block ∷ []) in
        let whole : length entries ≡ made = omega (arith, length-map {B = Option (List ℕ)} blocks Some, is.count) in
        let one : suc left ≡ more = omega (arith, long, is.count) in
        ap (λ n. arena_view after n head ++ unmade left) empty
        ∙ ap (λ xs. xs ++ unmade left) (map-append Some blocks (block ∷ []))
        ∙ append_assoc entries (Some block ∷ []) (unmade left)
        ∙ sym (set_at entries None (unmade left) (Some block) made whole)
        ∙ (λ k. with_block (arena_view blocks (sym empty k) head ++ unmade (one k)) made block)
        ∙ ap (λ v. with_block v made block) (sym value_is)

  -- a chain of live blocks, given back as one
  module _ (count first last : ℕ) (some : 0 < count) (live : All (IsLive value) (chain_in value count first))
      (once : AllPairs (λ a b. a ≢ b) (chain_in value count first)) (last_is : last ≡ get_or (chain_in value count first) (count - 1) 0) where
    chain_is : chain_in value count first ≡ chain_in front count first
    chain_is = ap (λ v. chain_in v count first) value_is ∙ chain_in-unmade front more count first

    front_live : All (IsLive front) (chain_in front count first)
    front_live = subst (All (IsLive front)) chain_is (λ k d less. live_front _ (live k d less))

    front_once : AllPairs (λ a b. a ≢ b) (chain_in front count first)
    front_once = subst (AllPairs (λ a b. a ≢ b)) chain_is once

    front_last : last ≡ get_or (chain_in front count first) (count - 1) 0
    front_last = last_is ∙ ap (λ xs. get_or xs (count - 1) 0) chain_is

    pub last_live : IsLive value last
    last_live = subst IsSome (sym (octets_at-value last)) (given.last_live is.list refl count first last some front_live front_once front_last)

    pub all_room : listed + count ≤ length blocks
    all_room = given.all_room is.list refl count first last some front_live front_once front_last

    module _ {number : ℕ} (number_is : number ≡ last) (written : List ℕ) (linked : link written ≡ head) where
      pub gave_all_arena : IsArena (set blocks number written) (listed + count) first made capacity room
      gave_all_arena = kept _ (length-set blocks number written)
          (given.all_given_sound is.list refl count first last some front_live front_once front_last number_is written linked)

      pub gave_all : whole_view (set blocks number written) (listed + count) first capacity ≡ vacated (chain_in value count first) value
      gave_all =
          viewed _ _ _ _ (length-set blocks number written)
          (given.all_given is.list refl count first last some front_live front_once front_last number_is written linked)
          ∙ sym (vacated-unmade (chain_in front count first) front more)
          ∙ (λ k. vacated (sym chain_is k) (sym value_is k))

-- an arena none of whose blocks is made
module _ {blocks : List (List ℕ)} (none : blocks ≡ []) where
  pub new_arena : (n room : ℕ) → room ≡ n → 0 < n → n ≤ 65536 → IsArena blocks 0 0 0 n room
  new_arena n room all some most =
      let long : length blocks ≡ 0 = ap length none in
      let sound : IsSoundList blocks 0 0 = record { apart = tt; small = omega arith; fits = omega arith } in
      record { list = sound; count = sym long; within = omega arith; all = sym all; some = some; most = most }

  pub new_view : (n : ℕ) → whole_view blocks 0 0 n ≡ all_free n
  unfolding whole_view arena_view
  new_view n = let all : n - 0 ≡ n = omega arith in (λ k. map Some (none k) ++ unmade (n - length (none k))) ∙ ap unmade all
