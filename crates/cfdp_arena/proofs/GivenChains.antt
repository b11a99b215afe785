-- A chain of live blocks that is given back as one.
--     length-chain_in                 how many blocks it has
--     first_live, last_live           its first and its last block are live
--     all_room                        the count of free blocks has room for it
--     all_given, all_given_sound      the arena after it
use Rattle.std.proofs.Common.{◌≡◌, ◌≢◌, ℕ, suc, zero, ◌+◌, ◌-◌, ◌<◌, ◌≤◌, List, [], ◌∷◌, ◌++◌, length, map, get_or, set, Option, Some, None, refl, sym, ap, ◌∙◌, subst, arith, length-set, length-append}
use Rattle.std.proofs.lemmas.List.{get_or-set_same, get_or-set_other, set-set, map-set}
use Rattle.std.proofs.lemmas.List.Elements.{All-tail}
use Rattle.std.specs.Prelude.{All, AllPairs, unwrap_or}
use Rattle.cfdp_arena.specs.Arena.{Blocks, octets_of, IsLive}
use Rattle.cfdp_arena.specs.Chain.{chain_in}
use Rattle.cfdp_arena.specs.FreeList.{link, vacated}
use Rattle.cfdp_arena.specs.code.FreeList.{free_chain, arena_view, IsAbsent, AreDistinctBlocks, IsSoundList}
use Rattle.cfdp_arena.proofs.Chains.{chain-set, length-chain, vacated-set, live_count-vacated, within, absent, octets}

pub length-chain_in : (arena : Blocks) (n first : ℕ) → length (chain_in arena n first) ≡ n
length-chain_in arena zero first = refl
length-chain_in arena (suc n) first = ap suc (length-chain_in arena n (link (octets_of arena first)))

vacated-append : (xs ys : List ℕ) (arena : Blocks) → vacated (xs ++ ys) arena ≡ vacated xs (vacated ys arena)
vacated-append [] ys arena = refl
vacated-append (x ∷ xs) ys arena = ap (λ a. set a x None) (vacated-append xs ys arena)

absent-append : (b : ℕ) (xs ys : List ℕ) → IsAbsent b xs → IsAbsent b ys → IsAbsent b (xs ++ ys)
absent-append b [] ys left right = right
absent-append b (x ∷ xs) ys left right = (left.0, absent-append b xs ys left.1 right)

-- no element of the list is this one
pub absent_from : (b : ℕ) (xs : List ℕ) → All (λ x. b ≢ x) xs → IsAbsent b xs
absent_from b [] apart = tt
absent_from b (x ∷ xs) apart = (apart 0 0 (omega arith), absent_from b xs (λ k d less. apart (suc k) d (omega (arith, less))))

-- the first of a list whose elements are apart is absent from the rest
pub first_absent : (x : ℕ) (xs : List ℕ) → AllPairs (λ a b. a ≢ b) (x ∷ xs) → IsAbsent x xs
first_absent x xs once = absent_from x xs (λ k d less. once 0 (suc k) d (omega arith) (omega (arith, less)))

pub rest_once : (x : ℕ) (xs : List ℕ) → AllPairs (λ a b. a ≢ b) (x ∷ xs) → AllPairs (λ a b. a ≢ b) xs
rest_once x xs once i j d less within = once (suc i) (suc j) d (omega (arith, less)) (omega (arith, within))

apart-append : (capacity : ℕ) (xs ys : List ℕ) → All (λ b. b < capacity) xs → AllPairs (λ a b. a ≢ b) xs → All (λ b. IsAbsent b ys) xs →
    AreDistinctBlocks capacity ys →
    AreDistinctBlocks capacity (xs ++ ys)
apart-append capacity [] ys within once off ys_apart = ys_apart
apart-append capacity (x ∷ xs) ys within once off ys_apart = (
  within 0 0 (omega arith),
  absent-append x xs ys (first_absent x xs once) (off 0 0 (omega arith)),
  apart-append capacity xs ys (All-tail (λ b. b < capacity) x xs within) (rest_once x xs once) (All-tail (λ b. IsAbsent b ys) x xs off) ys_apart,
)

-- what is written to a block that is vacated is lost
vacated_over : (xs : List ℕ) (k b : ℕ) (arena : Blocks) (entry : Option (List ℕ)) → AllPairs (λ a b. a ≢ b) xs → k < length xs → b ≡ get_or xs k 0 →
    vacated xs (set arena b entry) ≡ vacated xs arena
vacated_over [] k b arena entry once less is = absurd (omega (arith, less))
vacated_over (x ∷ xs) zero b arena entry once less is =
    ap (λ c. set (vacated xs (set arena c entry)) x None) is
    ∙ ap (λ a. set a x None) (vacated-set xs arena x entry (first_absent x xs once))
    ∙ set-set (vacated xs arena) x entry None
vacated_over (x ∷ xs) (suc k) b arena entry once less is =
    ap (λ a. set a x None) (vacated_over xs k b arena entry (rest_once x xs once) (omega (arith, less)) is)

module _ {blocks : List (List ℕ)} {free head : ℕ} {value : Blocks} (sound : IsSoundList blocks free head) (view_is : arena_view blocks free head ≡ value) where
  -- where the fields' blocks lead is where the value's do
  link_is : (b : ℕ) → IsLive value b → link (get_or blocks b []) ≡ link (octets_of value b)
  link_is b live = ap (λ o. link (unwrap_or o [])) (sym (octets sound view_is refl live))

  module _ (written : List ℕ) (linked : link written ≡ head) where
    -- the last block of the chain leads to the old head, and the others to the next one, as before
    all_chain : (n first last : ℕ) → All (IsLive value) (chain_in value (suc n) first) → AllPairs (λ a b. a ≢ b) (chain_in value (suc n) first)
        → last ≡ get_or (chain_in value (suc n) first) n 0
        → free_chain (set blocks last written) (suc n + free) first ≡ chain_in value (suc n) first ++ free_chain blocks free head
    all_chain zero first last live once is =
        let after = set blocks last written in
        let count : 1 + free ≡ suc free = omega arith in
        let here : IsLive value first = live 0 0 (omega arith) in
        let same = ap (λ b. get_or after b []) (sym is) ∙ get_or-set_same blocks last written [] (within sound view_is is here) in
        ap (λ n. free_chain after n first) count
        ∙ ap (λ next. first ∷ free_chain after free next) (ap link same ∙ linked)
        ∙ ap (λ rest. first ∷ rest) (chain-set blocks free head last written (absent sound view_is is here))
    all_chain (suc n) first last live once is =
        let after = set blocks last written in
        let next = link (octets_of value first) in
        let rest = chain_in value (suc n) next in
        let count : suc (suc n) + free ≡ suc (suc n + free) = omega arith in
        let here : IsLive value first = live 0 0 (omega arith) in
        let reach : suc n < length (chain_in value (suc (suc n)) first) = omega (arith, length-chain_in value (suc (suc n)) first) in
        let apart : first ≢ last = λ e. once 0 (suc n) 0 (omega arith) reach (e ∙ is) in
        let same = ap link (get_or-set_other blocks last first written [] apart) ∙ link_is first here in
        ap (λ n. free_chain after n first) count
        ∙ ap (λ b. first ∷ free_chain after (suc n + free) b) same
        ∙ ap (λ xs. first ∷ xs) (all_chain n next last (All-tail (IsLive value) first rest live) (rest_once first rest once) is)

  -- the whole chain, of at least one block
  module _ (count first last : ℕ) (some : 0 < count) (live : All (IsLive value) (chain_in value count first))
      (once : AllPairs (λ a b. a ≢ b) (chain_in value count first))
      (last_is : last ≡ get_or (chain_in value count first) (count - 1) 0) where
    given : List ℕ
    given = chain_in value count first

    pub last_live : IsLive value last
    last_live = subst (IsLive value) (sym last_is) (live (count - 1) 0 (omega (arith, length-chain_in value count first)))

    more : count ≡ suc (count - 1)
    more = omega arith

    pub first_live : IsLive value first
    first_live = subst (λ n. All (IsLive value) (chain_in value n first)) more live 0 0 (omega arith)

    apart_all : AreDistinctBlocks (length blocks) (given ++ free_chain blocks free head)
    unfolding given
    apart_all = apart-append (length blocks) given (free_chain blocks free head)
        (λ k d less. within sound view_is refl (live k d less)) once (λ k d less. absent sound view_is refl (live k d less)) sound.apart

    pub all_room : free + count ≤ length blocks
    unfolding given
    all_room = omega (
      arith,
      live_count-vacated blocks (given ++ free_chain blocks free head) apart_all,
      length-append given (free_chain blocks free head),
      length-chain_in value count first,
      length-chain blocks free head,
    )

    module _ {number : ℕ} (number_is : number ≡ last) (written : List ℕ) (linked : link written ≡ head) where
      chain_is : free_chain (set blocks number written) (free + count) first ≡ given ++ free_chain blocks free head
      unfolding given
      chain_is =
          let sum : free + count ≡ suc (count - 1) + free = omega arith in
          let there : number ≡ get_or (chain_in value (suc (count - 1)) first) (count - 1) 0 = number_is ∙ last_is
          ∙ ap (λ n. get_or (chain_in value n first) (count - 1) 0) more in
          ap (λ n. free_chain (set blocks number written) n first) sum
          ∙ all_chain written linked (count - 1) first number (subst (λ n. All (IsLive value) (chain_in value n first)) more live)
          (subst (λ n. AllPairs (λ a b. a ≢ b) (chain_in value n first)) more once) there
          ∙ ap (λ n. chain_in value n first ++ free_chain blocks free head) (sym more)

      pub all_given_sound : IsSoundList (set blocks number written) (free + count) first
      all_given_sound =
          let long = length-set blocks number written in
          record {
            apart = subst (λ xs. AreDistinctBlocks (length (set blocks number written)) xs) (sym chain_is)
                (subst (λ n. AreDistinctBlocks n (given ++ free_chain blocks free head)) (sym long) apart_all);
            small = omega (arith, long, sound.small);
            fits = omega (arith, within sound view_is refl first_live, sound.small);
          }

      pub all_given : arena_view (set blocks number written) (free + count) first ≡ vacated (chain_in value count first) value
      unfolding arena_view given
      all_given =
          let old = free_chain blocks free head in
          let reach : count - 1 < length given = omega (arith, length-chain_in value count first) in
          (λ k. vacated (chain_is k) (map-set Some blocks number written k))
          ∙ vacated-append given old (set (map Some blocks) number (Some written))
          ∙ ap (vacated given) (vacated-set old (map Some blocks) number (Some written) (absent sound view_is number_is last_live))
          ∙ vacated_over given (count - 1) number (vacated old (map Some blocks)) (Some written) once reach (number_is ∙ last_is)
          ∙ ap (vacated given) view_is
