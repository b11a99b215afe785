-- The free list under the changes that an arena makes.
--     chain-set, vacated-set      a write off the chain
--     no_live                     what is nothing is no value
--     live_is_absent              a live block is not on the chain
--     live_count-value            the count of live blocks
--     taken, given, written       the arena after a block was taken, given back or written
use Rattle.std.proofs.Common.{◌≡◌, ◌≢◌, ℕ, suc, zero, ◌+◌, ◌<◌, List, [], ◌∷◌, length, map, get_or, set, Option, Some, None, refl, sym, ap, ◌∙◌, subst, inl, inr, arith, length-set}
use Rattle.std.proofs.lemmas.List.{get_or-set_same, get_or-set_other, set-set, set_comm, map-set, length-map}
use Rattle.std.proofs.lemmas.Bool.{cases_eq}
use Rattle.std.specs.Prelude.{IsSome}
use Rattle.cfdp_arena.specs.Arena.{Blocks, live_count, octets_at, IsLive, free_count, with_block, without_block}
use Rattle.cfdp_arena.specs.FreeList.{link, vacated}
use Rattle.cfdp_arena.specs.code.FreeList.{free_chain, arena_view, IsAbsent, AreDistinctBlocks, IsSoundList}

pub chain-set : (blocks : List (List ℕ)) (n first i : ℕ) (block : List ℕ) → IsAbsent i (free_chain blocks n first) → free_chain (set blocks i block) n first
    ≡ free_chain blocks n first
chain-set blocks zero first i block h = refl
chain-set blocks (suc n) first i block h =
    let apart : first ≢ i = λ e. h.0 (sym e) in
    let same : get_or (set blocks i block) first [] ≡ get_or blocks first [] = get_or-set_other blocks i first block [] apart in
    ap (λ next. first ∷ free_chain (set blocks i block) n (link next)) same ∙ ap (λ rest. first ∷ rest)
    (chain-set blocks n (link (get_or blocks first [])) i block h.1)

pub length-chain : (blocks : List (List ℕ)) (n first : ℕ) → length (free_chain blocks n first) ≡ n
length-chain blocks zero first = refl
length-chain blocks (suc n) first = ap suc (length-chain blocks n (link (get_or blocks first [])))

pub length-vacated : (xs : List ℕ) (arena : Blocks) → length (vacated xs arena) ≡ length arena
length-vacated [] arena = refl
length-vacated (x ∷ xs) arena = length-set (vacated xs arena) x None ∙ length-vacated xs arena

pub vacated-set : (xs : List ℕ) (arena : Blocks) (i : ℕ) (entry : Option (List ℕ)) → IsAbsent i xs → vacated xs (set arena i entry)
    ≡ set (vacated xs arena) i entry
vacated-set [] arena i entry h = refl
vacated-set (x ∷ xs) arena i entry h = ap (λ l. set l x None) (vacated-set xs arena i entry h.1) ∙ set_comm (vacated xs arena) i x entry None h.0

pub get_or-vacated : (xs : List ℕ) (arena : Blocks) (i : ℕ) → IsAbsent i xs → get_or (vacated xs arena) i None ≡ get_or arena i None
get_or-vacated [] arena i h = refl
get_or-vacated (x ∷ xs) arena i h = get_or-set_other (vacated xs arena) x i None None h.0 ∙ get_or-vacated xs arena i h.1

pub no_live : {A : Type 0} (entry : Option A) → entry ≡ None → IsSome entry → ⊥
no_live (Some x) e s = cc
no_live None e s = cc

pub live_is_absent : (xs : List ℕ) (arena : Blocks) (i : ℕ) → AreDistinctBlocks (length arena) xs → IsLive (vacated xs arena) i → IsAbsent i xs
live_is_absent [] arena i apart live = tt
live_is_absent (x ∷ xs) arena i apart live =
    let long : x < length (vacated xs arena) = omega (arith, apart.0, length-vacated xs arena) in
    elim (cases_eq i x) [
      | inl e ↦ absurd (no_live (octets_at (vacated (x ∷ xs) arena) i) (ap (λ k. get_or (set (vacated xs arena) x None) k None) e
          ∙ get_or-set_same (vacated xs arena) x None None long) live)
      | inr ne ↦ (ne, live_is_absent xs arena i apart.2 (subst IsSome (get_or-set_other (vacated xs arena) x i None None ne) live))
    ]

pub octets_at-some : (blocks : List (List ℕ)) (i : ℕ) → i < length blocks → octets_at (map Some blocks) i ≡ Some (get_or blocks i [])
octets_at-some [] i h = absurd (omega arith)
octets_at-some (b ∷ bs) zero h = refl
octets_at-some (b ∷ bs) (suc i) h = octets_at-some bs i (omega arith)

pub live_within : (arena : Blocks) (i : ℕ) → IsLive arena i → i < length arena
live_within [] i h = cc
live_within (b ∷ bs) zero h = omega arith
live_within (b ∷ bs) (suc i) h = omega (arith, live_within bs i h)

pub live_count-some : (blocks : List (List ℕ)) → live_count (map Some blocks) ≡ length blocks
live_count-some [] = refl
live_count-some (b ∷ bs) = omega (arith, live_count-some bs)

live_count-vacate : (arena : Blocks) (i : ℕ) (x : List ℕ) → octets_at arena i ≡ Some x → live_count (set arena i None) + 1 ≡ live_count arena
live_count-vacate [] i x e = cc
live_count-vacate (Some b ∷ bs) zero x e = refl
live_count-vacate (None ∷ bs) zero x e = cc
live_count-vacate (Some b ∷ bs) (suc i) x e = omega (arith, live_count-vacate bs i x e)
live_count-vacate (None ∷ bs) (suc i) x e = live_count-vacate bs i x e

pub live_count-vacated : (blocks : List (List ℕ)) (xs : List ℕ) → AreDistinctBlocks (length blocks) xs → live_count (vacated xs (map Some blocks)) + length xs
    ≡ length blocks
live_count-vacated blocks [] apart = omega (arith, live_count-some blocks)
live_count-vacated blocks (x ∷ xs) apart =
    let rest = vacated xs (map Some blocks) in
    let there = get_or-vacated xs (map Some blocks) x apart.1 ∙ octets_at-some blocks x apart.0 in
    omega (arith, live_count-vacated blocks xs apart.2, live_count-vacate rest x (get_or blocks x []) there)

live_count-positive : (arena : Blocks) (i : ℕ) → IsLive arena i → 0 < live_count arena
live_count-positive [] i h = cc
live_count-positive (Some b ∷ bs) i h = omega arith
live_count-positive (None ∷ bs) zero h = cc
live_count-positive (None ∷ bs) (suc i) h = live_count-positive bs i h

-- the fields of an arena, and the value that callers see
module _ {blocks : List (List ℕ)} {free head : ℕ} {value : Blocks} (sound : IsSoundList blocks free head) (view_is : arena_view blocks free head ≡ value) where
  pub length-value : length value ≡ length blocks
  unfolding arena_view
  length-value = ap length (sym view_is) ∙ length-vacated (free_chain blocks free head) (map Some blocks) ∙ length-map blocks Some

  -- as many blocks are live as are not on the chain
  pub live_count-value : live_count value + free ≡ length blocks
  unfolding arena_view
  live_count-value = omega (arith, ap live_count view_is, live_count-vacated blocks (free_chain blocks free head) sound.apart, length-chain blocks free head)

  pub free-value : free ≡ free_count value
  free-value = omega (arith, live_count-value, length-value)

  -- a block that is live
  module _ {number block : ℕ} (number_is : number ≡ block) (live : IsLive value block) where
    live_here : IsLive (arena_view blocks free head) number
    live_here = subst (λ v. IsLive v number) (sym view_is) (subst (IsLive value) (sym number_is) live)

    pub within : number < length blocks
    within = omega (arith, live_within value block live, length-value, number_is)

    -- leaves room in the count of free blocks
    pub room : free < length blocks
    room = omega (arith, live_count-value, live_count-positive value block live)

    -- is not on the chain
    pub absent : IsAbsent number (free_chain blocks free head)
    unfolding arena_view
    absent = live_is_absent (free_chain blocks free head) (map Some blocks) number
        (subst (λ n. AreDistinctBlocks n (free_chain blocks free head)) (sym (length-map blocks Some)) sound.apart) live_here

    -- holds what is at its number
    pub octets : octets_at value block ≡ Some (get_or blocks number [])
    unfolding arena_view
    octets =
        (λ k. octets_at (sym view_is k) (sym number_is k))
        ∙ get_or-vacated (free_chain blocks free head) (map Some blocks) number absent ∙ octets_at-some blocks number within

    -- written, it holds what was written
    module _ (octets : List ℕ) where
      pub written_sound : IsSoundList (set blocks number octets) free head
      written_sound =
          let same = chain-set blocks free head number octets absent in
          let long = length-set blocks number octets in
          record {
            apart = subst (λ xs. AreDistinctBlocks (length (set blocks number octets)) xs) (sym same)
                (subst (λ n. AreDistinctBlocks n (free_chain blocks free head)) (sym long) sound.apart);
            small = omega (arith, long, sound.small);
            fits = sound.fits;
          }

      pub written : arena_view (set blocks number octets) free head ≡ with_block value block octets
      unfolding arena_view
      written =
          let same = chain-set blocks free head number octets absent in
          (λ k. vacated (same k) (map-set Some blocks number octets k))
          ∙ vacated-set (free_chain blocks free head) (map Some blocks) number (Some octets) absent
          ∙ (λ k. set (view_is k) (number_is k) (Some octets))

    -- given back, it is the first of the chain
    module _ (octets : List ℕ) (linked : link octets ≡ head) where
      given_chain : free_chain (set blocks number octets) (suc free) number ≡ number ∷ free_chain blocks free head
      given_chain =
          let after = set blocks number octets in
          let next : link (get_or after number []) ≡ head = ap link (get_or-set_same blocks number octets [] within) ∙ linked in
          ap (λ first. number ∷ free_chain after free first) next ∙ ap (λ xs. number ∷ xs) (chain-set blocks free head number octets absent)

      pub given_sound : {count : ℕ} → count ≡ suc free → IsSoundList (set blocks number octets) count number
      given_sound {count} more =
          let after = set blocks number octets in
          let long = length-set blocks number octets in
          record {
            apart = subst (λ n. AreDistinctBlocks (length after) (free_chain after n number)) (sym more)
                (subst (λ xs. AreDistinctBlocks (length after) xs) (sym given_chain)
                (omega (arith, long, within), absent, subst (λ n. AreDistinctBlocks n (free_chain blocks free head)) (sym long) sound.apart));
            small = omega (arith, long, sound.small);
            fits = omega (arith, within, sound.small);
          }

      pub given : {count : ℕ} → count ≡ suc free → arena_view (set blocks number octets) count number ≡ without_block value block
      unfolding arena_view
      given {count} more =
          ap (λ n. arena_view (set blocks number octets) n number) more
          ∙ (λ k. vacated (given_chain k) (map-set Some blocks number octets k))
          ∙ ap (λ l. set l number None) (vacated-set (free_chain blocks free head) (map Some blocks) number (Some octets) absent)
          ∙ set-set (vacated (free_chain blocks free head) (map Some blocks)) number (Some octets) None
          ∙ (λ k. set (view_is k) (number_is k) None)

  -- the first block of the chain, which leads to the next
  module _ {count next : ℕ} (more : free ≡ suc count) (next_is : next ≡ link (get_or blocks head [])) where
    rest : List ℕ
    rest = free_chain blocks count (link (get_or blocks head []))

    chain_is : free_chain blocks free head ≡ head ∷ rest
    unfolding rest
    chain_is = ap (λ n. free_chain blocks n head) more

    first_apart : AreDistinctBlocks (length blocks) (head ∷ rest)
    first_apart = subst (AreDistinctBlocks (length blocks)) chain_is sound.apart

    pub first_within : head < length blocks
    first_within = first_apart.0

    value_is : set (vacated rest (map Some blocks)) head None ≡ value
    unfolding arena_view
    value_is = ap (λ xs. vacated xs (map Some blocks)) (sym chain_is) ∙ view_is

    pub first_free : octets_at value head ≡ None
    first_free =
        let long : head < length (vacated rest (map Some blocks)) = omega (
          arith,
          first_within,
          length-vacated rest (map Some blocks),
          length-map {B = Option (List ℕ)} blocks Some,
        ) in
        ap (λ v. octets_at v head) (sym value_is) ∙ get_or-set_same (vacated rest (map Some blocks)) head None None long

    -- taken, it is live with the octets that it is given
    module _ (octets : List ℕ) where
      taken_chain : free_chain (set blocks head octets) count next ≡ rest
      unfolding rest
      taken_chain = ap (free_chain (set blocks head octets) count) next_is ∙ chain-set blocks count (link (get_or blocks head [])) head octets first_apart.1

      pub taken_sound : next < 65536 → IsSoundList (set blocks head octets) count next
      taken_sound fits =
          let long = length-set blocks head octets in
          record {
            apart = subst (λ xs. AreDistinctBlocks (length (set blocks head octets)) xs) (sym taken_chain)
                (subst (λ n. AreDistinctBlocks n rest) (sym long) first_apart.2);
            small = omega (arith, long, sound.small);
            fits = fits;
          }

      pub taken : arena_view (set blocks head octets) count next ≡ with_block value head octets
      unfolding arena_view
      taken =
          (λ k. vacated (taken_chain k) (map-set Some blocks head octets k))
          ∙ vacated-set rest (map Some blocks) head (Some octets) first_apart.1
          ∙ sym (set-set (vacated rest (map Some blocks)) head None (Some octets))
          ∙ ap (λ v. set v head (Some octets)) value_is
