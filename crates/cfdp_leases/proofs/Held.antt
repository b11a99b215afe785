-- What the map by path has, before and after a change.
--     holds_same, holds_kept       the same holders in other words;  the same records in other maps
--     unwritten, holds_unwritten   a record was lent, and is as it was: of the map;  of both maps
--     under_changed, other_changed      one path has another record: under its hash, or among the others
--     under_written, under_removed      the path's own record under its hash has other holders, or is gone
--     under_is, under_there, other_is, other_there, other_none, free_none      which holders a record that is found has, and which path has no record
--     hash_here, hashes_kept       the records are under the hashes of their paths
--     other_apart, other_absent    when a path is not the one under its hash
--     under_once                   a path under its hash is not among the others
--     when-..                      a holder more, at one path and at a path more
--     others-..                    a transaction's leases taken away
use Rattle.std.proofs.Common.{◌≡◌, refl, sym, ◌∙◌, ap, subst, Bool, true, false, cond, not, ◌||◌, ◌&&◌, ◌==◌, if◌then◌else◌, inl, inr, List, [], ◌∷◌, ◌++◌, Option, Some, None, ℕ, ◌+◌, ◌<◌, arith, length, get_or, take, drop, is_some, append_assoc, length-take, take-append-drop}
use Rattle.std.specs.Prelude.{filter, IsSome}
use Rattle.std.specs.BTreeMap.{get}
use Rattle.std.specs.Option.{option_map, option_or}
use Rattle.std.specs.List.{list_any}
use Rattle.std.specs.List.Sorted.{IsStrictlySortedBy}
use Rattle.std.specs.Ordering.{is_eq, nat_cmp}
use Rattle.std.specs.Cmp.{nat_cmp_total, nat_eq_equiv, tied_itself}
use Rattle.std.specs.FinSet as set
use Rattle.std.specs.FinMap.{nat_cmp-IsAntisymmetric}
use Rattle.std.specs.declared.cmp.Ordering.TheVariants.{Less}
use Rattle.std.proofs.Math.Bool.{or-false}
use Rattle.std.proofs.lemmas.List.{append-nil, take_more, get_or_default, get_or-take}
use Rattle.std.proofs.lemmas.List.Elements.{filter-append}
use Rattle.std.proofs.lemmas.List.Folds.{list_any-append}
use Rattle.std.proofs.lemmas.Map.Keys.{Less-from_sorted}
use Rattle.std.proofs.lemmas.Bool.{cases_Bool, eq-eqb, ne_eqb, true≢false, or_parts}
use Rattle.cfdp_status.specs.declared.transaction.TransactionId.{TransactionId}
use Rattle.cfdp_status.proofs.Options.{neither, or_none}
use Rattle.cfdp_paths.specs.Paths.{Path, path_cmp, same_path}
use Rattle.cfdp_paths.proofs.Comparing.{same_path-Decides, path_cmp-total}
use Rattle.cfdp_leases.specs.declared.leased_paths.Holder.{Holder}
use Rattle.cfdp_leases.specs.Leases.{is_same}
use Rattle.cfdp_leases.specs.declared.leased_paths.Holders.{Holders}
use Rattle.cfdp_leases.specs.declared.leased_paths.LeasedPath.{LeasedPath}
use Rattle.cfdp_leases.specs.declared.leased_paths.LeasedPaths.{LeasedPaths}
use Rattle.cfdp_leases.specs.Footprint.{PathSet, Footprint, leased}
use Rattle.cfdp_paths.specs.Hashes.{hash_of}
use Rattle.cfdp_leases.specs.code.Holders.{AreFree, HasHash, Holds, HoldsSome, IsOtherPath, holders_in, others, own_holders, holders_by_path, under_hash, unless_none, when}
use Rattle.cfdp_leases.proofs.Sets.{Contains_from_exists, exists_from_Contains, exists}
use Rattle.cfdp_actions.proofs.Order.{tied, same_path-symm, same_path-refl}

-- ---- records

unless_some : (xs ys : List Holder) → Some xs ≡ unless_none ys → xs ≡ ys
unless_some xs [] e = absurd (cc)
unless_some xs (y ∷ ys) e = cc

unless_empty : (ys : List Holder) → None ≡ unless_none ys → [] ≡ ys
unless_empty [] e = refl
unless_empty (y ∷ ys) e = absurd (cc)

pub some_pushed : (xs : List Holder) (h : Holder) → Some (xs ++ h ∷ []) ≡ unless_none (xs ++ h ∷ [])
some_pushed [] h = refl
some_pushed (x ∷ xs) h = refl

-- the record of those that are left
pub path_left : (xs hs : List Holder) (n : ℕ) (none : Bool) → xs ≡ hs → n ≡ length xs → none ≡ (n == 0) → unless_none hs ≡ (if none then None else Some xs)
path_left xs hs n none is len e = sym (ap unless_none is) ∙ by xs n none len e
  where
    by : (xs : List Holder) (n : ℕ) (none : Bool) → n ≡ length xs → none ≡ (n == 0) → unless_none xs ≡ (if none then None else Some xs)
    by [] n none len e = sym (ap (λ b. if b then None else Some []) (e ∙ eq-eqb n 0 len))
    by (x ∷ xs) n none len e = sym (ap (λ b. if b then None else Some (x ∷ xs)) (e ∙ ne_eqb n 0 (λ is. omega (arith, is, len))))

none_mapped : {A B : Type 0} (f : A → B) (o : Option A) → option_map f o ≡ None → o ≡ None
none_mapped f None e = refl
none_mapped f (Some x) e = absurd (cc e)

-- the record is the path's, if there is one
abbrev pub IsOf : Path → Option LeasedPath → Type 0
IsOf k None = Unit {0}
IsOf k (Some held_path) = held_path.path ≡ k

own_here : (r : Option LeasedPath) (k : Path) → IsOf k r → own_holders r k ≡ option_map (λ held_path. held_path.holders) r
own_here None k of = refl
own_here (Some held_path) k of = ap (λ b. cond b (Some held_path.holders) None) (ap (λ p. same_path p k) of ∙ same_path-refl k)

own_apart : (r : Option LeasedPath) (k q : Path) → IsOf k r → same_path k q ≡ false → own_holders r q ≡ None
own_apart None k q of apart = refl
own_apart (Some held_path) k q of apart = ap (λ b. cond b (Some held_path.holders) None) (ap (λ p. same_path p q) of ∙ apart)

-- a path's record is under the path's hash
hash_here : (r : Option LeasedPath) (k : Path) (h : ℕ) → hash_of k ≡ h → IsOf k r → HasHash h r
hash_here None k h hash of = tt
hash_here (Some held_path) k h hash of = ap hash_of of ∙ hash

pub holds_same : (paths : LeasedPaths) (holders now : Path → List Holder) → ((p : Path) → holders p ≡ now p) → Holds paths holders → Holds paths now
holds_same paths holders now same held = record { by_hash = λ p. held.by_hash p ∙ ap unless_none (same p); once = held.once; hashes = held.hashes }

-- the record under the path's hash is another path's, or there is none
module _ (paths : LeasedPaths) (k : Path) (h : ℕ) (hash : h ≡ hash_of k) where
  pub other_apart : (held_path : LeasedPath) → get nat_cmp paths.by_hash h ≡ Some held_path → same_path held_path.path k ≡ false → IsOtherPath paths k
  other_apart held_path found apart = ap (λ r. own_holders r k) (ap (get nat_cmp paths.by_hash) (sym hash) ∙ found)
      ∙ ap (λ b. cond b (Some held_path.holders) None) apart

  pub other_absent : get nat_cmp paths.by_hash h ≡ None → IsOtherPath paths k
  other_absent none = ap (λ r. own_holders r k) (ap (get nat_cmp paths.by_hash) (sym hash) ∙ none)

module _ (paths : LeasedPaths) (k : Path) (holders : Path → List Holder) (held : Holds paths holders) where
  -- the record under the path's hash is its own
  module _ (h : ℕ) (hash : h ≡ hash_of k) (held_path : LeasedPath) (found : get nat_cmp paths.by_hash h ≡ Some held_path) (own : held_path.path ≡ k) where
    own_there : under_hash paths k ≡ Some held_path.holders
    own_there = ap (λ r. own_holders r k) (ap (get nat_cmp paths.by_hash) (sym hash) ∙ found) ∙ own_here (Some held_path) k own

    pub under_is : Some (holders_in held_path.holders) ≡ unless_none (holders k)
    under_is = sym (ap (λ o. option_map holders_in (option_or o (get path_cmp paths.others k))) own_there) ∙ held.by_hash k

    pub under_there : holders_in held_path.holders ≡ holders k
    under_there = unless_some (holders_in held_path.holders) (holders k) under_is

    pub under_once : get path_cmp paths.others k ≡ None
    under_once = held.once k (ap is_some own_there)

  module _ (other : IsOtherPath paths k) where
    of_others : option_map holders_in (get path_cmp paths.others k) ≡ unless_none (holders k)
    of_others = sym (ap (λ o. option_map holders_in (option_or o (get path_cmp paths.others k))) other) ∙ held.by_hash k

    pub other_is : (held_path : Holders) → get path_cmp paths.others k ≡ Some held_path → Some (holders_in held_path) ≡ unless_none (holders k)
    other_is held_path found = sym (ap (option_map holders_in) found) ∙ of_others

    pub other_there : (held_path : Holders) → get path_cmp paths.others k ≡ Some held_path → holders_in held_path ≡ holders k
    other_there held_path found = unless_some (holders_in held_path) (holders k) (other_is held_path found)

    pub other_none : get path_cmp paths.others k ≡ None → [] ≡ holders k
    other_none found = unless_empty (holders k) (sym (ap (option_map holders_in) found) ∙ of_others)

  -- a path that nobody holds has no record
  pub free_none : holders k ≡ [] → (under_hash paths k ≡ None) × (get path_cmp paths.others k ≡ None)
  free_none free = neither (under_hash paths k) (get path_cmp paths.others k) (none_mapped holders_in (holders_by_path paths k)
      (held.by_hash k ∙ ap unless_none free))

-- what is written back is what was there
pub unwritten : {X : Type 0} (f g : ℕ → Option X) (h : ℕ) (x : X) → ((q : ℕ) → g q ≡ cond (is_eq (nat_cmp h q)) (Some x) (f q)) → f h ≡ Some x → (q : ℕ) → g q
    ≡ f q
unwritten f g h x update found q =
    elim (cases_Bool (is_eq (nat_cmp h q))) [
      | inl tie ↦
          update q ∙ ap (λ b. cond b (Some x) (f q)) tie ∙ sym found
          ∙ ap f (nat_cmp-IsAntisymmetric h q (tied (nat_cmp h q) tie))
      | inr differs ↦ update q ∙ ap (λ b. cond b (Some x) (f q)) differs
    ]

-- what `Holds` says at one path
abbrev HoldsAt : LeasedPaths → (Path → List Holder) → Path → Type 0
HoldsAt paths holders p = (option_map holders_in (holders_by_path paths p) ≡ unless_none (holders p))
    × (IsSome (under_hash paths p) → get path_cmp paths.others p ≡ None)

holds_each : (paths : LeasedPaths) (holders : Path → List Holder) → ((h : ℕ) → HasHash h (get nat_cmp paths.by_hash h))
    → ((p : Path) → HoldsAt paths holders p) →
    Holds paths holders
holds_each paths holders hashes at = record { by_hash = λ p. (at p).0; once = λ p. (at p).1; hashes = hashes }

module _ (old new : LeasedPaths) (holders : Path → List Holder) (held : Holds old holders) where
  -- the records under hashes are the same
  hashes_kept : ((h : ℕ) → get nat_cmp new.by_hash h ≡ get nat_cmp old.by_hash h) → (h : ℕ) → HasHash h (get nat_cmp new.by_hash h)
  hashes_kept by_hash h = subst (HasHash h) (sym (by_hash h)) (held.hashes h)

  -- both maps have the same records
  pub holds_kept : ((h : ℕ) → get nat_cmp new.by_hash h ≡ get nat_cmp old.by_hash h) → ((p : Path) → get path_cmp new.others p ≡ get path_cmp old.others p) →
      Holds new holders
  holds_kept by_hash others =
      let under : (p : Path) → under_hash new p ≡ under_hash old p = λ p. ap (λ r. own_holders r p) (by_hash (hash_of p)) in
      record {
        by_hash = λ p. (λ i. option_map holders_in (option_or (under p i) (others p i))) ∙ held.by_hash p;
        once = λ p some. others p ∙ held.once p (sym (ap is_some (under p)) ∙ some);
        hashes = hashes_kept by_hash;
      }

  -- a record was lent, and is as it was
  pub holds_unwritten : (h : ℕ) (held_path : LeasedPath)
      → ((q : ℕ) → get nat_cmp new.by_hash q ≡ cond (is_eq (nat_cmp h q)) (Some held_path) (get nat_cmp old.by_hash q))
      → get nat_cmp old.by_hash h ≡ Some held_path → ((p : Path) → get path_cmp new.others p ≡ get path_cmp old.others p) → Holds new holders
  holds_unwritten h held_path update found = holds_kept (unwritten (get nat_cmp old.by_hash) (get nat_cmp new.by_hash) h held_path update found)

  module _ (k : Path) (now : Path → List Holder) (same : (q : Path) → same_path q k ≡ false → now q ≡ holders q) where
    apart_same : (q : Path) → same_path k q ≡ false → under_hash new q ≡ under_hash old q → get path_cmp new.others q ≡ get path_cmp old.others q →
        HoldsAt new now q
    apart_same q apart under others = (
      (λ i. option_map holders_in (option_or (under i) (others i))) ∙ held.by_hash q ∙ sym (ap unless_none (same q (same_path-symm q k ∙ apart))),
      λ some. others ∙ held.once q (sym (ap is_some under) ∙ some),
    )

    -- the path has another record under its hash, or none there any more
    pub under_changed : (h : ℕ) → h ≡ hash_of k → (w : Option LeasedPath)
        → ((q : ℕ) → get nat_cmp new.by_hash q ≡ cond (is_eq (nat_cmp h q)) w (get nat_cmp old.by_hash q))
        → ((p : Path) → get path_cmp new.others p ≡ get path_cmp old.others p) → IsOf k (get nat_cmp old.by_hash h) → IsOf k w
        → get path_cmp old.others k ≡ None
        → option_map holders_in (option_map (λ held_path. held_path.holders) w) ≡ unless_none (now k) → Holds new now
    under_changed h hash w by_hash others before after none held_path =
        holds_each new now hashes (λ q. elim (cases_Bool (same_path k q)) [
          | inl here ↦ subst (HoldsAt new now) ((same_path-Decides k q).0 here) own
          | inr apart ↦ apart_same q apart (elsewhere q apart) (others q)
        ])
      where
        own : HoldsAt new now k
        own =
            let under : under_hash new k ≡ option_map (λ r. r.holders) w =
            ap (λ r. own_holders r k)
            (ap (get nat_cmp new.by_hash) (sym hash) ∙ by_hash h ∙ ap (λ o. cond (is_eq o) w (get nat_cmp old.by_hash h)) (tied_itself nat_cmp_total h))
            ∙ own_here w k after in
            let gone : get path_cmp new.others k ≡ None = others k ∙ none in (
              (λ i. option_map holders_in (option_or (under i) (gone i))) ∙ ap (option_map holders_in) (or_none (option_map (λ r. r.holders) w)) ∙ held_path,
              λ some. gone,
            )

        hashes : (q : ℕ) → HasHash q (get nat_cmp new.by_hash q)
        hashes q =
            elim (cases_Bool (is_eq (nat_cmp h q))) [
              | inl tie ↦
                  subst (HasHash q) (sym (by_hash q ∙ ap (λ b. cond b w (get nat_cmp old.by_hash q)) tie))
                  (hash_here w k q (sym hash ∙ nat_cmp-IsAntisymmetric h q (tied (nat_cmp h q) tie)) after)
              | inr differs ↦ subst (HasHash q) (sym (by_hash q ∙ ap (λ b. cond b w (get nat_cmp old.by_hash q)) differs)) (held.hashes q)
            ]

        elsewhere : (q : Path) → same_path k q ≡ false → under_hash new q ≡ under_hash old q
        elsewhere q apart =
            elim (cases_Bool (is_eq (nat_cmp h (hash_of q)))) [
              | inl tie ↦
                  let same_hash : h ≡ hash_of q = nat_cmp-IsAntisymmetric h (hash_of q) (tied (nat_cmp h (hash_of q)) tie) in
                  ap (λ r. own_holders r q) (by_hash (hash_of q) ∙ ap (λ b. cond b w (get nat_cmp old.by_hash (hash_of q))) tie) ∙ own_apart w k q after apart
                  ∙ sym (own_apart (get nat_cmp old.by_hash (hash_of q)) k q (subst (λ x. IsOf k (get nat_cmp old.by_hash x)) same_hash before) apart)
              | inr differs ↦ ap (λ r. own_holders r q) (by_hash (hash_of q) ∙ ap (λ b. cond b w (get nat_cmp old.by_hash (hash_of q))) differs)
            ]

    -- the path has another record among the others, or none there any more
    pub other_changed : (w : Option Holders) → ((h : ℕ) → get nat_cmp new.by_hash h ≡ get nat_cmp old.by_hash h)
        → ((p : Path) → get path_cmp new.others p ≡ cond (is_eq (path_cmp k p)) w (get path_cmp old.others p)) → IsOtherPath old k
        → option_map holders_in w ≡ unless_none (now k) → Holds new now
    other_changed w by_hash others other held_path =
        holds_each new now (hashes_kept by_hash) (λ q. elim (cases_Bool (same_path k q)) [
          | inl here ↦ subst (HoldsAt new now) ((same_path-Decides k q).0 here) own
          | inr apart ↦ apart_same q apart (under q) (others q ∙ ap (λ b. cond b w (get path_cmp old.others q)) apart)
        ])
      where
        under : (q : Path) → under_hash new q ≡ under_hash old q
        under q = ap (λ r. own_holders r q) (by_hash (hash_of q))

        own : HoldsAt new now k
        own =
            let found : get path_cmp new.others k ≡ w = others k ∙ ap (λ b. cond b w (get path_cmp old.others k)) (same_path-refl k) in
            let none : under_hash new k ≡ None = under k ∙ other in
            ((λ i. option_map holders_in (option_or (none i) (found i))) ∙ held_path, λ some. absurd (true≢false (sym some ∙ ap is_some none)))

    -- the record under the path's hash is its own, and has other holders, or is gone
    module _ (h : ℕ) (hash : h ≡ hash_of k) (held_path : LeasedPath) (found : get nat_cmp old.by_hash h ≡ Some held_path) (own : held_path.path ≡ k)
        (others : (p : Path) → get path_cmp new.others p ≡ get path_cmp old.others p) where
      pub under_written : (after : Holders) → ((q : ℕ) → get nat_cmp new.by_hash q
          ≡ cond (is_eq (nat_cmp h q)) (Some (record { path = held_path.path; holders = after })) (get nat_cmp old.by_hash q))
          → Some (holders_in after) ≡ unless_none (now k) → Holds new now
      under_written after by_hash now_has =
          under_changed h hash (Some (record { path = held_path.path; holders = after })) by_hash others (subst (IsOf k) (sym found) own) own
          (under_once old k holders held h hash held_path found own) now_has

      pub under_removed : ((q : ℕ) → get nat_cmp new.by_hash q ≡ cond (is_eq (nat_cmp h q)) None (get nat_cmp old.by_hash q)) → None ≡ unless_none (now k) →
          Holds new now
      under_removed by_hash now_has =
          under_changed h hash None by_hash others (subst (IsOf k) (sym found) own) tt (under_once old k holders held h hash held_path found own) now_has

-- ---- one holder more

pub when_here : (k : Path) (h : Holder) (xs : List Holder) → xs ++ h ∷ [] ≡ xs ++ when (same_path k k) h
when_here k h xs = sym (ap (λ b. xs ++ when b h) (same_path-refl k))

pub when_not : (b : Bool) (h : Holder) (xs : List Holder) → b ≡ false → xs ++ when b h ≡ xs
when_not b h xs e = ap (λ c. xs ++ when c h) e ∙ append-nil xs

when_either : (a b : Bool) (h : Holder) → (a ≡ true → b ≡ false) → when a h ++ when b h ≡ when (a || (b || false)) h
when_either true true h apart = absurd (true≢false (apart refl))
when_either true false h apart = refl
when_either false true h apart = refl
when_either false false h apart = refl

-- a path that comes before another one in strict order is not that one
before_apart : (xs : List Path) (i : ℕ) (x p : Path) → IsStrictlySortedBy path_cmp xs → i < length xs → x ≡ get_or xs i x → exists p (take i xs) → same_path p x
    ≡ false
before_apart xs i x p sorted within read before =
    let found = Contains_from_exists p (take i xs) before in
    let earlier : found.0 < i = omega (arith, found.1, length-take {A = Path}) in
    let at : get_or xs found.0 x ≡ p = sym (get_or-take i xs found.0 x earlier) ∙ get_or_default (take i xs) found.0 x p found.1 ∙ found.2 in
    let less : path_cmp (get_or xs found.0 x) (get_or xs i x) ≡ Less = Less-from_sorted path_cmp xs found.0 i x sorted earlier within in
    ap (λ q. same_path p q) read ∙ ap is_eq (subst (λ q. path_cmp q (get_or xs i x) ≡ Less) at less)

-- a path is not among those before it in strict order, and it is among all
pub free_yet : (xs : List Path) (i : ℕ) (x : Path) (h : Holder) (holders : Path → List Holder) → IsStrictlySortedBy path_cmp xs → i < length xs → x
    ≡ get_or xs i x
    → AreFree (λ p. list_any (same_path p) xs) holders → holders x ++ when (list_any (same_path x) (take i xs)) h ≡ []
free_yet xs i x h holders sorted within read free =
    when_not (list_any (same_path x) (take i xs)) h (holders x) (not_yet (list_any (same_path x) (take i xs)) refl)
    ∙ free x (exists_from_Contains x xs (i, within, sym read))
  where
    not_yet : (b : Bool) → list_any (same_path x) (take i xs) ≡ b → b ≡ false
    not_yet true there = absurd (true≢false (sym (same_path-refl x) ∙ before_apart xs i x x sorted within read there))
    not_yet false there = refl

-- one path more
pub when_more : (xs : List Path) (i : ℕ) (x p : Path) (h : Holder) (holders : List Holder) → IsStrictlySortedBy path_cmp xs → i < length xs → x ≡ get_or xs i x
    → (holders ++ when (list_any (same_path p) (take i xs)) h) ++ when (same_path p x) h ≡ holders ++ when (list_any (same_path p) (take (i + 1) xs)) h
when_more xs i x p h holders sorted within read =
    append_assoc holders (when (list_any (same_path p) (take i xs)) h) (when (same_path p x) h)
    ∙ ap (λ more. holders ++ more)
    (when_either (list_any (same_path p) (take i xs)) (same_path p x) h (before_apart xs i x p sorted within read)
    ∙ ap (λ b. when b h) (sym (ap (list_any (same_path p)) (take_more xs i x within ∙ ap (λ y. take i xs ++ y ∷ []) (sym read))
    ∙ list_any-append (same_path p) (take i xs) (x ∷ []))))

-- ---- a transaction's leases taken away

pub same_itself : (id : TransactionId) → is_same id id ≡ true
same_itself id = ap (λ b. b && (id.number == id.number)) (nat_eq_equiv.refl id.source) ∙ nat_eq_equiv.refl id.number

-- a holder is not one of another transaction
own_gone : (h : Holder) (b : Bool) → others h.transaction (when b h) ≡ []
own_gone h true = ap (λ b. cond (not b) (h ∷ []) []) (same_itself h.transaction)
own_gone h false = refl

filter_twice : {X : Type 0} (test : X → Bool) (xs : List X) → filter test (filter test xs) ≡ filter test xs
filter_twice test [] = refl
filter_twice test (x ∷ xs) =
    elim (cases_Bool (test x)) [
      | inl kept ↦
          let once : filter test (x ∷ xs) ≡ x ∷ filter test xs = ap (λ b. cond b (x ∷ filter test xs) (filter test xs)) kept in
          ap (filter test) once ∙ ap (λ b. cond b (x ∷ filter test (filter test xs)) (filter test (filter test xs))) kept
          ∙ ap (λ ys. x ∷ ys) (filter_twice test xs) ∙ sym once
      | inr gone ↦
          let once : filter test (x ∷ xs) ≡ filter test xs = ap (λ b. cond b (x ∷ filter test xs) (filter test xs)) gone in
          ap (filter test) once ∙ filter_twice test xs ∙ sym once
    ]

-- `others id hs` where the test holds, and all of them elsewhere
abbrev pub left : TransactionId → Bool → List Holder → List Holder
left id b hs = if b then others id hs else hs

pub left_either : (id : TransactionId) (a b : Bool) (hs : List Holder) → left id b (left id a hs) ≡ left id (a || b) hs
left_either id true true hs = filter_twice (λ h. not (is_same h.transaction id)) hs
left_either id true false hs = refl
left_either id false true hs = refl
left_either id false false hs = refl

-- one path more
pub left_more : (id : TransactionId) (xs : List Path) (i : ℕ) (x p : Path) (hs : List Holder) → i < length xs → x ≡ get_or xs i x
    → left id (same_path p x) (left id (list_any (same_path p) (take i xs)) hs) ≡ left id (list_any (same_path p) (take (i + 1) xs)) hs
left_more id xs i x p hs within read =
    left_either id (list_any (same_path p) (take i xs)) (same_path p x) hs
    ∙ ap (λ b. left id b hs)
    (ap (λ c. list_any (same_path p) (take i xs) || c) (sym (or-false (same_path p x)))
    ∙ sym (ap (list_any (same_path p)) (take_more xs i x within ∙ ap (λ y. take i xs ++ y ∷ []) (sym read))
    ∙ list_any-append (same_path p) (take i xs) (x ∷ [])))

-- nobody where the test holds, and all of them elsewhere
abbrev pub emptied : Bool → List Holder → List Holder
emptied b hs = if b then [] else hs

emptied_either : (a b : Bool) (hs : List Holder) → emptied b (emptied a hs) ≡ emptied (a || b) hs
emptied_either true true hs = refl
emptied_either true false hs = refl
emptied_either false b hs = refl

-- one path more
pub emptied_more : (xs : List Path) (i : ℕ) (x p : Path) (hs : List Holder) → i < length xs → x ≡ get_or xs i x
    → emptied (same_path p x) (emptied (list_any (same_path p) (take i xs)) hs) ≡ emptied (list_any (same_path p) (take (i + 1) xs)) hs
emptied_more xs i x p hs within read =
    emptied_either (list_any (same_path p) (take i xs)) (same_path p x) hs
    ∙ ap (λ b. emptied b hs)
    (ap (λ c. list_any (same_path p) (take i xs) || c) (sym (or-false (same_path p x)))
    ∙ sym (ap (list_any (same_path p)) (take_more xs i x within ∙ ap (λ y. take i xs ++ y ∷ []) (sym read))
    ∙ list_any-append (same_path p) (take i xs) (x ∷ [])))

-- the paths that only the transaction holds are dropped first
pub left_emptied : (id : TransactionId) (a b : Bool) (hs : List Holder) → (a ≡ true → others id hs ≡ []) → left id b (emptied a hs) ≡ left id (a || b) hs
left_emptied id true true hs own = sym (own refl)
left_emptied id true false hs own = sym (own refl)
left_emptied id false b hs own = refl

pub others_when : (h : Holder) (b : Bool) (hs : List Holder) → others h.transaction (hs ++ when b h) ≡ others h.transaction hs
others_when h b hs =
    filter-append (λ k. not (is_same k.transaction h.transaction)) hs (when b h)
    ∙ ap (λ more. others h.transaction hs ++ more) (own_gone h b) ∙ append-nil (others h.transaction hs)

pub left_here : (id : TransactionId) (k : Path) (hs : List Holder) → others id hs ≡ left id (same_path k k) hs
left_here id k hs = sym (ap (λ b. left id b hs) (same_path-refl k))

pub left_elsewhere : (id : TransactionId) (q k : Path) (hs : List Holder) → same_path q k ≡ false → left id (same_path q k) hs ≡ hs
left_elsewhere id q k hs other = ap (λ b. left id b hs) other

pub left_nobody : (id : TransactionId) (k : Path) (holders : Path → List Holder) (q : Path) → [] ≡ holders k → holders q ≡ left id (same_path q k) (holders q)
left_nobody id k holders q none =
    elim (cases_Bool (same_path q k)) [
      | inl here ↦
          let same : holders q ≡ [] = ap holders ((same_path-Decides q k).0 here) ∙ sym none in
          same ∙ sym (ap (λ b. left id b (holders q)) here ∙ ap (others id) same)
      | inr there ↦ sym (left_elsewhere id q k (holders q) there)
    ]

pub cond_twice : {X : Type 0} (b : Bool) (x y z : X) → cond b x (cond b y z) ≡ cond b x z
cond_twice true x y z = refl
cond_twice false x y z = refl

-- ---- the paths of a footprint

pub not_before : (xs : List Path) (i : ℕ) (p : Path) → list_any (same_path p) xs ≡ false → list_any (same_path p) (take i xs) ≡ false
not_before xs i p none =
    (or_parts (list_any (same_path p) (take i xs)) (list_any (same_path p) (drop i xs))
    (sym (list_any-append (same_path p) (take i xs) (drop i xs)) ∙ ap (list_any (same_path p)) (take-append-drop i xs) ∙ none)).0

-- a list that has the paths of a set
pub in_slice : (xs : List Path) (s : PathSet) (p : Path) → set.from_list xs ≡ s → list_any (same_path p) xs ≡ set.contains s p
in_slice xs s p paths = sym (set.contains-from_list path_cmp-total xs p) ∙ ap (λ t. set.contains t p) paths

-- a path that is not leased is neither exclusive nor shared
pub unleased : (fp : Footprint) (p : Path) → set.contains (leased fp) p ≡ false → (set.contains fp.exclusive p ≡ false) × (set.contains fp.shared p ≡ false)
unleased fp p none = or_parts (set.contains fp.exclusive p) (set.contains fp.shared p) (sym (set.contains-union path_cmp-total fp.exclusive fp.shared p) ∙ none)

-- what some have is in other words what some have
pub some_wider : (id : TransactionId) (at wide : Path → Bool) (middle holders : Path → List Holder) (paths : LeasedPaths) → HoldsSome id at middle paths
    → ((p : Path) → others id (middle p) ≡ others id (holders p)) → ((p : Path) → wide p ≡ false → (at p ≡ false) × (middle p ≡ holders p)) →
    HoldsSome id wide holders paths
some_wider id at wide middle holders paths some kept same =
    record {
      now = some.now;
      by_hash = some.by_hash;
      kept = λ p. some.kept p ∙ kept p;
      elsewhere = λ p none. let parts = same p none in some.elsewhere p parts.0 ∙ parts.1;
    }

-- the transaction's leases are taken away again
pub taken_back : (id : TransactionId) (at : Path → Bool) (holders : Path → List Holder) (paths : LeasedPaths) (some : HoldsSome id at holders paths) (p : Path)
    → others id (holders p) ≡ holders p → left id (at p) (some.now p) ≡ holders p
taken_back id at holders paths some p unheld =
    elim (cases_Bool (at p)) [
      | inl here ↦ ap (λ b. left id b (some.now p)) here ∙ some.kept p ∙ unheld
      | inr there ↦ ap (λ b. left id b (some.now p)) there ∙ some.elsewhere p there
    ]
