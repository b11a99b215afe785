-- The slab of footprints, and the list of live transactions that names its keys.
--     grants-push, footprints-push      one live transaction more
--     grant_there, elsewhere       the footprint of a transaction, and that those of others are under other keys
--     grants-filter, footprints-filter      one live transaction less
--     own_key                      a transaction has one key in the list
--     others-push, others-filter   the slab has no other footprints, with one live transaction more, and with one less
--     index-live, length-live, transaction-live      indexes in the list are indexes among the grants
--     kept_same, kept_admitted, kept_released, kept_emptied      what is kept, after each change
use Rattle.std.proofs.Common.{◌≡◌, ◌≢◌, refl, sym, ◌∙◌, ap, subst, ℕ, Bool, true, false, cond, not, ◌||◌, ◌==◌, inl, inr, List, [], ◌∷◌, ◌++◌, length, arith, Option, Some, None, is_some}
use Rattle.std.specs.Prelude.{find, filter, slice_get, unwrap_or, IsSome}
use Rattle.std.specs.FinSet as set
use Rattle.std.specs.Option.{option_map}
use Rattle.std.specs.List.{list_any, prefix_len, AllByRecursion}
use Rattle.std.proofs.lemmas.Bool.{cases_Bool, eq-eqb, eqb-true, true≢false, or_left, or_right, or_parts}
use Rattle.std.proofs.lemmas.List.{map-append, append-nil}
use Rattle.std.proofs.lemmas.List.Folds.{list_any-append}
use Rattle.std.proofs.lemmas.Grind.{flat_map-append}
use Rattle.std.proofs.lemmas.Option.{same_Some, slice_get-map}
use Rattle.cfdp_leases.specs.declared.leased_paths.LeasedPaths.{LeasedPaths}
use Rattle.slab.specs.Slab.{Slab, get, Updates}
use Rattle.cfdp_status.specs.declared.transaction.TransactionId.{TransactionId}
use Rattle.cfdp_leases.specs.declared.leases.LiveGrant.{LiveGrant}
use Rattle.cfdp_leases.specs.Footprint.{Footprint, leased}
use Rattle.cfdp_leases.specs.code.Footprint.{HasAncestors, of_lists}
use Rattle.cfdp_leases.specs.code.Holders.{Holds, holders_at, holders_of}
use Rattle.cfdp_leases.specs.Leases.{AreApart, first_conflict, holds, is_same, without_grant}
use Rattle.cfdp_leases.specs.code.Live.{AreKept, HasNoOthers, HaveFootprints, footprint_at, grants_of}
use Rattle.cfdp_leases.proofs.Apart.{all_filter, apart_push, apart_filter}
use Rattle.cfdp_leases.proofs.Held.{holds_same, left}
use Rattle.cfdp_leases.proofs.Views.{find-map, option_map-map}
use Rattle.cfdp_leases.proofs.Admitted.{index_among, released, same_is}
use Rattle.cfdp_leases.proofs.Indexes.{prefix_len-map}

pub footprint_is : (s : Slab Footprint) (key : ℕ) (fp : Footprint) → get s key ≡ Some fp → footprint_at s key ≡ fp
footprint_is s key fp has = ap (λ o. unwrap_or o (of_lists [] [])) has

-- what is found passes what all pass
pub all_found : {X : Type 0} (P : X → Type 0) (test : X → Bool) (xs : List X) (x : X) → AllByRecursion P xs → find test xs ≡ Some x → P x
all_found P test [] x all found = absurd (cc found)
all_found P test (y ∷ xs) x all found =
    elim (cases_Bool (test y)) [
      | inl passes ↦ subst P (same_Some y x (sym (ap (λ b. cond b (Some y) (find test xs)) passes) ∙ found)) all.0
      | inr fails ↦ all_found P test xs x all.1 (sym (ap (λ b. cond b (Some y) (find test xs)) fails) ∙ found)
    ]

-- ---- one more

-- the new key is none of the others'
fresh : (s : Slab Footprint) (key : ℕ) (l : LiveGrant) → IsSome (get s l.key) → get s key ≡ None → l.key ≢ key
fresh s key l has none same = true≢false (sym has ∙ ap (λ k. is_some (get s k)) same ∙ ap is_some none)

pub grants-push : (s t : Slab Footprint) (key : ℕ) (fp : Footprint) (live : List LiveGrant) → HaveFootprints s live → get s key ≡ None → Updates s t key
    (Some fp)
    → grants_of t live ≡ grants_of s live
grants-push s t key fp [] kept none update = refl
grants-push s t key fp (l ∷ live) kept none update =
    λ i. (l.transaction, unwrap_or (update.others l.key (fresh s key l kept.0 none) i) (of_lists [] [])) ∷ grants-push s t key fp live kept.2 none update i

all_push : {X : Type 0} (P : X → Type 0) (xs : List X) (x : X) → AllByRecursion P xs → P x → AllByRecursion P (xs ++ x ∷ [])
all_push P [] x all this = (this, tt)
all_push P (y ∷ xs) x all this = (all.0, all_push P xs x all.1 this)

pub footprints-push : (s t : Slab Footprint) (new : LiveGrant) (fp : Footprint) (live : List LiveGrant) → HaveFootprints s live → get s new.key ≡ None →
    Updates s t new.key (Some fp)
    → HaveFootprints t (live ++ new ∷ [])
footprints-push s t new fp [] kept none update = (ap is_some update.changed, tt, tt)
footprints-push s t new fp (l ∷ live) kept none update = (
  ap is_some (update.others l.key (fresh s new.key l kept.0 none)) ∙ kept.0,
  all_push (λ m. m.key ≢ l.key) live new kept.1 (λ same. fresh s new.key l kept.0 none (sym same)),
  footprints-push s t new fp live kept.2 none update,
)

-- ---- one less

pub occupied : (s : Slab Footprint) (live : List LiveGrant) → HaveFootprints s live → AllByRecursion (λ l. IsSome (get s l.key)) live
occupied s [] kept = tt
occupied s (l ∷ live) kept = (kept.0, occupied s live kept.2)

all_but : (P : LiveGrant → Type 0) (id : TransactionId) (live : List LiveGrant) → AllByRecursion P live →
    AllByRecursion (λ m. is_same m.transaction id ≡ false → P m) live
all_but P id [] all = tt
all_but P id (l ∷ live) all = ((λ other. all.0), all_but P id live all.1)

-- the footprints of others are under other keys
pub elsewhere : (s : Slab Footprint) (id : TransactionId) (live : List LiveGrant) (l : LiveGrant) → HaveFootprints s live → find
    (λ m. is_same m.transaction id) live
    ≡ Some l
    → AllByRecursion (λ m. is_same m.transaction id ≡ false → m.key ≢ l.key) live
elsewhere s id [] l kept found = tt
elsewhere s id (m ∷ live) l kept found =
    elim (cases_Bool (is_same m.transaction id)) [
      | inl passes ↦
          let this : m ≡ l = same_Some m l (sym (ap (λ b. cond b (Some m) (find (λ n. is_same n.transaction id) live)) passes) ∙ found) in (
            (λ fails. absurd (true≢false (sym passes ∙ fails))),
            all_but (λ n. n.key ≢ l.key) id live
                (subst (λ k. AllByRecursion (λ n. n.key ≢ k.key) live) this kept.1),
          )
      | inr fails ↦
          let following : find (λ n. is_same n.transaction id) live ≡ Some l = sym (ap (λ b. cond b (Some m) (find (λ n. is_same n.transaction id) live)) fails)
          ∙ found in (
            (λ _ same. all_found (λ n. n.key ≢ m.key) (λ n. is_same n.transaction id) live l kept.1 following (sym same)),
            elsewhere s id live l kept.2
                following,
          )
    ]

pub grants-filter : (s t : Slab Footprint) (key : ℕ) (id : TransactionId) (live : List LiveGrant) → Updates s t key None
    → AllByRecursion (λ m. is_same m.transaction id ≡ false → m.key ≢ key) live
    → grants_of t (filter (λ m. not (is_same m.transaction id)) live) ≡ filter (λ g. not (is_same g.0 id)) (grants_of s live)
grants-filter s t key id [] update all = refl
grants-filter s t key id (m ∷ live) update all =
    let rest = grants-filter s t key id live update all.1 in
    elim (cases_Bool (is_same m.transaction id)) [
      | inl passes ↦
          ap (λ b. grants_of t (cond (not b) (m ∷ filter (λ n. not (is_same n.transaction id)) live) (filter (λ n. not (is_same n.transaction id)) live)))
          passes
          ∙ rest
          ∙ sym (ap (λ b. cond (not b) ((m.transaction, footprint_at s m.key) ∷ filter (λ g. not (is_same g.0 id)) (grants_of s live))
          (filter (λ g. not (is_same g.0 id)) (grants_of s live))) passes)
      | inr fails ↦
          ap (λ b. grants_of t (cond (not b) (m ∷ filter (λ n. not (is_same n.transaction id)) live) (filter (λ n. not (is_same n.transaction id)) live))) fails
          ∙ (λ i. (m.transaction, unwrap_or (update.others m.key (all.0 fails) i) (of_lists [] [])) ∷ rest i)
          ∙ sym (ap (λ b. cond (not b) ((m.transaction, footprint_at s m.key) ∷ filter (λ g. not (is_same g.0 id)) (grants_of s live))
          (filter (λ g. not (is_same g.0 id)) (grants_of s live))) fails)
    ]

pub footprints-filter : (s t : Slab Footprint) (key : ℕ) (id : TransactionId) (live : List LiveGrant) → HaveFootprints s live → Updates s t key None
    → AllByRecursion (λ m. is_same m.transaction id ≡ false → m.key ≢ key) live → HaveFootprints t (filter (λ m. not (is_same m.transaction id)) live)
footprints-filter s t key id [] kept update all = tt
footprints-filter s t key id (m ∷ live) kept update all =
    let rest = footprints-filter s t key id live kept.2 update all.1 in
    elim (cases_Bool (is_same m.transaction id)) [
      | inl passes ↦
          subst (λ b. HaveFootprints t (cond (not b) (m ∷ filter (λ n. not (is_same n.transaction id)) live)
          (filter (λ n. not (is_same n.transaction id)) live))) (sym passes) rest
      | inr fails ↦
          subst (λ b. HaveFootprints t (cond (not b) (m ∷ filter (λ n. not (is_same n.transaction id)) live)
          (filter (λ n. not (is_same n.transaction id)) live))) (sym fails)
          (ap is_some (update.others m.key (all.0 fails)) ∙ kept.0, all_filter (λ n. n.key ≢ m.key) (λ n. not (is_same n.transaction id)) live kept.1, rest)
    ]

-- ---- no other footprints

pub others-push : (s t : Slab Footprint) (new : LiveGrant) (fp : Footprint) (live : List LiveGrant) → HasNoOthers s live → Updates s t new.key (Some fp) →
    HasNoOthers t (live ++ new ∷ [])
others-push s t new fp live only update key some =
    list_any-append (λ l. l.key == key) live (new ∷ [])
    ∙ elim (cases_Bool (new.key == key)) [
      | inl here ↦ or_right (list_any (λ l. l.key == key) live) (new.key == key || false) (or_left (new.key == key) false here)
      | inr apart ↦
          let other : key ≢ new.key = λ same. true≢false (sym (eq-eqb new.key key (sym same)) ∙ apart) in
          or_left (list_any (λ l. l.key == key) live) (new.key == key || false) (only key (ap is_some (sym (update.others key other)) ∙ some))
    ]

-- a transaction that is none of the live ones has no key
no_key : (s : Slab Footprint) (id : TransactionId) (key : ℕ) (live : List LiveGrant) → holds (grants_of s live) id ≡ false
    → AllByRecursion (λ m. is_same m.transaction id ≡ true → m.key ≡ key) live
no_key s id key [] none = tt
no_key s id key (m ∷ live) none =
    let parts = or_parts (is_same m.transaction id) (holds (grants_of s live) id) none in
    ((λ same. absurd (true≢false (sym same ∙ parts.0))), no_key s id key live parts.1)

pub own_key : (s : Slab Footprint) (id : TransactionId) (live : List LiveGrant) (l : LiveGrant) → AreApart (grants_of s live) → find
    (λ m. is_same m.transaction id) live
    ≡ Some l
    → AllByRecursion (λ m. is_same m.transaction id ≡ true → m.key ≡ l.key) live
own_key s id [] l apart found = tt
own_key s id (m ∷ live) l apart found =
    elim (cases_Bool (is_same m.transaction id)) [
      | inl passes ↦
          let this : m ≡ l = same_Some m l (sym (ap (λ b. cond b (Some m) (find (λ n. is_same n.transaction id) live)) passes) ∙ found) in (
            (λ _. ap (λ n. n.key) this),
            no_key s id l.key live (subst (λ i. holds (grants_of s live) i ≡ false)
                (same_is m.transaction id passes) apart.0.names),
          )
      | inr fails ↦ (
        (λ passes. absurd (true≢false (sym passes ∙ fails))),
        own_key s id live l apart.1
            (sym (ap (λ b. cond b (Some m) (find (λ n. is_same n.transaction id) live)) fails) ∙ found),
      )
    ]

-- another key stays in the list
key_stays : (id : TransactionId) (gone key : ℕ) (live : List LiveGrant) → key ≢ gone → AllByRecursion (λ m. is_same m.transaction id ≡ true → m.key ≡ gone) live
    → list_any (λ m. m.key == key) live ≡ true → list_any (λ m. m.key == key) (filter (λ m. not (is_same m.transaction id)) live) ≡ true
key_stays id gone key [] other own there = there
key_stays id gone key (m ∷ live) other own there =
    let rest = filter (λ n. not (is_same n.transaction id)) live in
    elim (cases_Bool (m.key == key)) [
      | inl here ↦
          let is : m.key ≡ key = eqb-true m.key key here in
          elim (cases_Bool (is_same m.transaction id)) [
            | inl passes ↦ absurd (other (sym is ∙ own.0 passes))
            | inr fails ↦
                ap (λ b. list_any (λ n. n.key == key) (cond (not b) (m ∷ rest) rest)) fails
                ∙ or_left (m.key == key) (list_any (λ n. n.key == key) rest) here
          ]
      | inr apart ↦
          let later = key_stays id gone key live other own.1 (sym (ap (λ b. b || list_any (λ n. n.key == key) live) apart) ∙ there) in
          elim (not (is_same m.transaction id)) as (λ b. list_any (λ n. n.key == key) (cond b (m ∷ rest) rest) ≡ true) [
            | true ↦ or_right (m.key == key) (list_any (λ n. n.key == key) rest) later
            | false ↦ later
          ]
    ]

pub others-filter : (s t : Slab Footprint) (key : ℕ) (id : TransactionId) (live : List LiveGrant) → HasNoOthers s live → Updates s t key None
    → AllByRecursion (λ m. is_same m.transaction id ≡ true → m.key ≡ key) live → HasNoOthers t (filter (λ m. not (is_same m.transaction id)) live)
others-filter s t gone id live only update own key some =
    let other : key ≢ gone = λ same. true≢false (sym some ∙ ap (λ k. is_some (get t k)) same ∙ ap is_some update.changed) in
    key_stays id gone key live other own (only key (ap is_some (sym (update.others key other)) ∙ some))

-- ---- indexes among the live ones

abbrev grant_of : Slab Footprint → LiveGrant → TransactionId × Footprint
grant_of s l = (l.transaction, footprint_at s l.key)

pub index-live : (s : Slab Footprint) (live : List LiveGrant) (id : TransactionId) → prefix_len (λ l. not (is_same l.transaction id)) live
    ≡ index_among (grants_of s live) id
index-live s live id = sym (prefix_len-map (grant_of s) (λ g. not (is_same g.0 id)) live)

pub length-live : (s : Slab Footprint) (live : List LiveGrant) → length live ≡ length (grants_of s live)
length-live s [] = refl
length-live s (l ∷ live) = omega (arith, length-live s live)

pub transaction-live : (s : Slab Footprint) (live : List LiveGrant) (n : ℕ) → option_map (λ l. l.transaction) (slice_get live n)
    ≡ option_map (λ g. g.0) (slice_get (grants_of s live) n)
transaction-live s live n =
    sym (option_map-map (grant_of s) (λ g. g.0) (slice_get live n)) ∙ sym (ap (option_map (λ g. g.0)) (slice_get-map (grant_of s) live n))

-- ---- what is kept

pub grants-same : (s t : Slab Footprint) (live : List LiveGrant) → ((key : ℕ) → get t key ≡ get s key) → grants_of s live ≡ grants_of t live
grants-same s t [] same = refl
grants-same s t (l ∷ live) same = λ i. (l.transaction, unwrap_or (sym (same l.key) i) (of_lists [] [])) ∷ grants-same s t live same i

pub footprints-same : (s t : Slab Footprint) (live : List LiveGrant) → ((key : ℕ) → get t key ≡ get s key) → HaveFootprints s live → HaveFootprints t live
footprints-same s t [] same kept = tt
footprints-same s t (l ∷ live) same kept = (ap is_some (same l.key) ∙ kept.0, kept.1, footprints-same s t live same kept.2)

-- room was made, and the map has the same holders
pub kept_same : (s t : Slab Footprint) (live now : List LiveGrant) (before paths : LeasedPaths) → ((key : ℕ) → get t key ≡ get s key) → now ≡ live
    → AreKept s live before → Holds paths (holders_at (grants_of s live)) → AreKept t now paths
kept_same s t live now before paths same lists kept are_held =
    subst (λ ls. AreKept t ls paths) (sym lists)
    (let grants = grants-same s t live same in
    record {
      kept = footprints-same s t live same kept.kept;
      no_others = λ key some. kept.no_others key (ap is_some (sym (same key)) ∙ some);
      rooted = subst (AllByRecursion (λ g. HasAncestors g.1)) grants kept.rooted;
      apart = subst AreApart grants kept.apart;
      are_held = subst (λ gs. Holds paths (holders_at gs)) grants are_held;
    })

pub grants_admitted : (s t : Slab Footprint) (live : List LiveGrant) (new : LiveGrant) (fp : Footprint) → HaveFootprints s live → get s new.key ≡ None →
    Updates s t new.key (Some fp)
    → grants_of t (live ++ new ∷ []) ≡ grants_of s live ++ (new.transaction, fp) ∷ []
grants_admitted s t live new fp kept none update =
    map-append (grant_of t) live (new ∷ [])
    ∙ (λ i. grants-push s t new.key fp live kept none update i ++ (new.transaction, footprint_is t new.key fp update.changed i) ∷ [])

pub kept_admitted : (s t : Slab Footprint) (live : List LiveGrant) (new : LiveGrant) (fp : Footprint) (before paths : LeasedPaths) → AreKept s live before →
    get s new.key
    ≡ None
    → Updates s t new.key (Some fp) → HasAncestors fp → first_conflict (grants_of s live) fp ≡ None → holds (grants_of s live) new.transaction ≡ false
    → Holds paths (λ p. holders_at (grants_of s live) p ++ holders_of new.transaction fp p) → AreKept t (live ++ new ∷ []) paths
kept_admitted s t live new fp before paths kept none update ancestors free unheld are_held =
    let gs = grants_of s live in
    let grants = sym (grants_admitted s t live new fp kept.kept none update) in
    record {
      kept = footprints-push s t new fp live kept.kept none update;
      no_others = others-push s t new fp live kept.no_others update;
      rooted = subst (AllByRecursion (λ g. HasAncestors g.1)) grants (all_push (λ g. HasAncestors g.1) gs (new.transaction, fp) kept.rooted ancestors);
      apart = subst AreApart grants (apart_push gs (new.transaction, fp) kept.apart free unheld);
      are_held = subst (λ ks. Holds paths (holders_at ks)) grants
          (holds_same paths (λ p. holders_at gs p ++ holders_of new.transaction fp p) (holders_at (gs ++ (new.transaction, fp) ∷ []))
          (λ p. sym (flat_map-append (λ g. holders_of g.0 g.1 p) gs ((new.transaction, fp) ∷ [])
          ∙ ap (λ hs. holders_at gs p ++ hs) (append-nil (holders_of new.transaction fp p))))
          are_held);
    }

-- ---- a release

-- nobody is released
pub nobody_there : (s : Slab Footprint) (live : List LiveGrant) (id : TransactionId) → None ≡ option_map (λ l. l.key)
    (find (λ l. is_same l.transaction id) live) →
    grants_of s live ≡ without_grant (grants_of s live) id
nobody_there s [] id none = refl
nobody_there s (l ∷ live) id none =
    elim (cases_Bool (is_same l.transaction id)) [
      | inl passes ↦ absurd (cc (none ∙ ap (λ b. option_map (λ m. m.key) (cond b (Some l) (find (λ m. is_same m.transaction id) live))) passes))
      | inr fails ↦
          let rest = nobody_there s live id (none ∙ ap (λ b. option_map (λ m. m.key) (cond b (Some l) (find (λ m. is_same m.transaction id) live))) fails) in
          ap (λ gs. grant_of s l ∷ gs) rest
          ∙ sym (ap (λ b. cond (not b) (grant_of s l ∷ without_grant (grants_of s live) id) (without_grant (grants_of s live) id)) fails)
    ]

pub live_there : (live : List LiveGrant) (id : TransactionId) (key : ℕ) → Some key ≡ option_map (λ l. l.key) (find (λ l. is_same l.transaction id) live)
    → (l : LiveGrant) × (find (λ m. is_same m.transaction id) live ≡ Some l) × (l.key ≡ key)
live_there live id key found = which (find (λ l. is_same l.transaction id) live) refl found
  where
    which : (o : Option LiveGrant) → find (λ l. is_same l.transaction id) live ≡ o → Some key ≡ option_map (λ l. l.key) o → (l : LiveGrant)
        × (find (λ m. is_same m.transaction id) live ≡ Some l) × (l.key ≡ key)
    which None is there = absurd (cc there)
    which (Some l) is there = (l, is, sym (same_Some key l.key there))

-- the grant of a live transaction
pub grant_there : (s : Slab Footprint) (live : List LiveGrant) (id : TransactionId) (l : LiveGrant) (fp : Footprint) → find (λ m. is_same m.transaction id) live
    ≡ Some l → get s l.key ≡ Some fp
    → find (λ g. is_same g.0 id) (grants_of s live) ≡ Some (l.transaction, fp)
grant_there s live id l fp found has =
    find-map (grant_of s) (λ g. is_same g.0 id) live ∙ ap (option_map (grant_of s)) found ∙ ap (λ f. Some (l.transaction, f)) (footprint_is s l.key fp has)

pub kept_released : (s t : Slab Footprint) (live : List LiveGrant) (id : TransactionId) (l : LiveGrant) (fp : Footprint) (before paths : LeasedPaths) →
    AreKept s live before
    → find (λ m. is_same m.transaction id) live ≡ Some l → get s l.key ≡ Some fp → Updates s t l.key None
    → Holds paths (λ p. left id (set.contains (leased fp) p) (holders_at (grants_of s live) p)) →
    AreKept t (filter (λ m. not (is_same m.transaction id)) live) paths
kept_released s t live id l fp before paths kept found has update are_held =
    let gs = grants_of s live in
    let apart_keys = elsewhere s id live l kept.kept found in
    let grants = sym (grants-filter s t l.key id live update apart_keys) in
    let there = grant_there s live id l fp found has in
    record {
      kept = footprints-filter s t l.key id live kept.kept update apart_keys;
      no_others = others-filter s t l.key id live kept.no_others update (own_key s id live l kept.apart found);
      rooted = subst (AllByRecursion (λ g. HasAncestors g.1)) grants (all_filter (λ g. HasAncestors g.1) (λ g. not (is_same g.0 id)) gs kept.rooted);
      apart = subst AreApart grants (apart_filter (λ g. not (is_same g.0 id)) gs kept.apart);
      are_held = subst (λ ks. Holds paths (holders_at ks)) grants
          (holds_same paths (λ p. left id (set.contains (leased fp) p) (holders_at gs p)) (holders_at (without_grant gs id))
          (λ p. released gs id (l.transaction, fp) p kept.apart there) are_held);
    }

-- the last one is released, and no path has a holder
pub kept_emptied : (s t : Slab Footprint) (live : List LiveGrant) (id : TransactionId) (l : LiveGrant) (fp : Footprint) (before paths : LeasedPaths) →
    AreKept s live before
    → find (λ m. is_same m.transaction id) live ≡ Some l → get s l.key ≡ Some fp → Updates s t l.key None
    → filter (λ m. not (is_same m.transaction id)) live ≡ [] → Holds paths (λ p. []) → AreKept t (filter (λ m. not (is_same m.transaction id)) live) paths
kept_emptied s t live id l fp before paths kept found has update last are_held =
    let gs = grants_of s live in
    let none = grants-filter s t l.key id live update (elsewhere s id live l kept.kept found) in
    kept_released s t live id l fp before paths kept found has update
    (holds_same paths (λ p. []) (λ p. left id (set.contains (leased fp) p) (holders_at gs p))
    (λ p. sym (released gs id (l.transaction, fp) p kept.apart (grant_there s live id l fp found has)
    ∙ ap (λ ks. holders_at ks p) (sym none ∙ ap (grants_of t) last))) are_held)
