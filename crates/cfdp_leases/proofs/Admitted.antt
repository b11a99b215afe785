-- What the holders of a path say of the grants.
--     index_among gs id            how many grants are before that of the transaction
--     strangers                    who holds no footprint holds no path
--     others-strangers, others-without      the holders of a path without those of one transaction
--     first_leasing                the first holder of a path has the first grant that leases it
--     first_exclusive, nobody_changing   the same of an exclusive lease, since its holder is the only one
--     released                     what a release takes away
use Rattle.std.proofs.Common.{◌≡◌, refl, sym, ◌∙◌, ap, subst, ℕ, ◌+◌, Bool, true, false, cond, not, inl, inr, List, [], ◌∷◌, ◌++◌, length, ◌==◌, Some, None, arith}
use Rattle.std.specs.Prelude.{find, slice_get}
use Rattle.std.specs.List.{prefix_len, AllByRecursion}
use Rattle.std.specs.FinSet as set
use Rattle.std.proofs.lemmas.Bool.{cases_Bool, true≢false, eqb-true, and_parts, or_left, or_right, or_parts}
use Rattle.std.proofs.lemmas.Option.{same_Some}
use Rattle.std.proofs.lemmas.List.Elements.{filter-append}
use Rattle.cfdp_status.specs.declared.transaction.TransactionId.{TransactionId}
use Rattle.cfdp_status.proofs.Appended.{all-append}
use Rattle.cfdp_paths.specs.Paths.{Path}
use Rattle.cfdp_paths.proofs.Below.{at_or_below-itself}
use Rattle.cfdp_paths.proofs.Comparing.{path_cmp-total}
use Rattle.cfdp_leases.specs.declared.lease.Lease.TheVariants.{Exclusive, Shared}
use Rattle.cfdp_leases.specs.declared.leased_paths.Holder.{Holder}
use Rattle.cfdp_leases.specs.Footprint.{Footprint, leased, is_conflict, reaches}
use Rattle.cfdp_leases.specs.Leases.{Grants, is_same, holds, without_grant, AreApart}
use Rattle.cfdp_leases.specs.code.Holders.{when, holders_of, holders_at, others}
use Rattle.cfdp_leases.proofs.Sets.{union_cases}
use Rattle.cfdp_leases.proofs.Conflict.{reaches_at}
use Rattle.cfdp_leases.proofs.Apart.{Grant, is_same-symm}
use Rattle.cfdp_leases.proofs.Held.{same_itself, left, unleased}

-- ---- names

pub same_is : (a b : TransactionId) → is_same a b ≡ true → a ≡ b
same_is a b h =
    let parts = and_parts (a.source == b.source) (a.number == b.number) h in
    λ i. record { source = eqb-true a.source b.source parts.0 i; number = eqb-true a.number b.number parts.1 i }

abbrev pub index_among : Grants → TransactionId → ℕ
index_among gs id = prefix_len (λ g. not (is_same g.0 id)) gs

-- ---- one grant's leases of a path

-- a holder is the transaction's
abbrev IsOf : TransactionId → Holder → Type 0
IsOf id h = h.transaction ≡ id

of_when : (id : TransactionId) (b : Bool) (h : Holder) → h.transaction ≡ id → AllByRecursion (IsOf id) (when b h)
of_when id true h same = (same, tt)
of_when id false h same = tt

pub all_of : (id : TransactionId) (fp : Footprint) (p : Path) → AllByRecursion (IsOf id) (holders_of id fp p)
all_of id fp p =
    all-append (IsOf id) (when (set.contains fp.exclusive p) (record { transaction = id; lease = Exclusive }))
    (when (set.contains fp.shared p) (record { transaction = id; lease = Shared }))
    (of_when id (set.contains fp.exclusive p) _ refl) (of_when id (set.contains fp.shared p) _ refl)

-- a footprint that does not lease the path gives it no holder
of_unleased : (id : TransactionId) (fp : Footprint) (p : Path) → set.contains (leased fp) p ≡ false → holders_of id fp p ≡ []
of_unleased id fp p none =
    let parts = unleased fp p none in
    λ i. when (parts.0 i) (record { transaction = id; lease = Exclusive }) ++ when (parts.1 i) (record { transaction = id; lease = Shared })

-- one that has it as an exclusive path gives that holder first
of_exclusive : (id : TransactionId) (fp : Footprint) (p : Path) → set.contains fp.exclusive p ≡ true
    → holders_of id fp p ≡ record { transaction = id; lease = Exclusive } ∷ when (set.contains fp.shared p) (record { transaction = id; lease = Shared })
of_exclusive id fp p has = ap (λ b. when b (record { transaction = id; lease = Exclusive })
    ++ when (set.contains fp.shared p) (record { transaction = id; lease = Shared })) has

of_shared : (id : TransactionId) (fp : Footprint) (p : Path) → set.contains fp.exclusive p ≡ false → set.contains fp.shared p ≡ true
    → holders_of id fp p ≡ record { transaction = id; lease = Shared } ∷ []
of_shared id fp p not_exclusive has = λ i. when (not_exclusive i) (record { transaction = id; lease = Exclusive })
    ++ when (has i) (record { transaction = id; lease = Shared })

-- ---- who holds no footprint

abbrev IsNotOf : TransactionId → Holder → Type 0
IsNotOf id h = is_same h.transaction id ≡ false

not_of : (id : TransactionId) (g : Grant) (hs : List Holder) → is_same g.0 id ≡ false → AllByRecursion (IsOf g.0) hs → AllByRecursion (IsNotOf id) hs
not_of id g [] other all = tt
not_of id g (h ∷ hs) other all = (ap (λ a. is_same a id) all.0 ∙ other, not_of id g hs other all.1)

pub strangers : (gs : Grants) (id : TransactionId) (p : Path) → holds gs id ≡ false → AllByRecursion (IsNotOf id) (holders_at gs p)
strangers [] id p unheld = tt
strangers (g ∷ gs) id p unheld =
    let parts = or_parts (is_same g.0 id) (holds gs id) unheld in
    all-append (IsNotOf id) (holders_of g.0 g.1 p) (holders_at gs p) (not_of id g (holders_of g.0 g.1 p) parts.0 (all_of g.0 g.1 p)) (strangers gs id p parts.1)

all_stay : (id : TransactionId) (hs : List Holder) → AllByRecursion (IsNotOf id) hs → others id hs ≡ hs
all_stay id [] all = refl
all_stay id (h ∷ hs) all = ap (λ b. cond (not b) (h ∷ others id hs) (others id hs)) all.0 ∙ ap (λ ks. h ∷ ks) (all_stay id hs all.1)

pub all_go : (id : TransactionId) (hs : List Holder) → AllByRecursion (λ h. is_same h.transaction id ≡ true) hs → others id hs ≡ []
all_go id [] all = refl
all_go id (h ∷ hs) all = ap (λ b. cond (not b) (h ∷ others id hs) (others id hs)) all.0 ∙ all_go id hs all.1

pub same_of : (id : TransactionId) (g : Grant) (hs : List Holder) → is_same g.0 id ≡ true → AllByRecursion (IsOf g.0) hs →
    AllByRecursion (λ h. is_same h.transaction id ≡ true) hs
same_of id g [] same all = tt
same_of id g (h ∷ hs) same all = (ap (λ a. is_same a id) all.0 ∙ same, same_of id g hs same all.1)

pub others-strangers : (gs : Grants) (id : TransactionId) (p : Path) → holds gs id ≡ false → others id (holders_at gs p) ≡ holders_at gs p
others-strangers gs id p unheld = all_stay id (holders_at gs p) (strangers gs id p unheld)

pub others-without : (gs : Grants) (id : TransactionId) (p : Path) → others id (holders_at gs p) ≡ holders_at (without_grant gs id) p
others-without [] id p = refl
others-without (g ∷ gs) id p =
    filter-append (λ h. not (is_same h.transaction id)) (holders_of g.0 g.1 p) (holders_at gs p)
    ∙ elim (cases_Bool (is_same g.0 id)) [
      | inl same ↦
          ap (λ hs. hs ++ others id (holders_at gs p)) (all_go id (holders_of g.0 g.1 p) (same_of id g (holders_of g.0 g.1 p) same (all_of g.0 g.1 p)))
          ∙ others-without gs id p
          ∙ sym (ap (λ b. holders_at (cond (not b) (g ∷ without_grant gs id) (without_grant gs id)) p) same)
      | inr other ↦
          ap (λ hs. hs ++ others id (holders_at gs p)) (all_stay id (holders_of g.0 g.1 p) (not_of id g (holders_of g.0 g.1 p) other (all_of g.0 g.1 p)))
          ∙ ap (λ hs. holders_of g.0 g.1 p ++ hs) (others-without gs id p)
          ∙ sym (ap (λ b. holders_at (cond (not b) (g ∷ without_grant gs id) (without_grant gs id)) p) other)
    ]

-- ---- the indexes of holders

pub first_there : (hs : List Holder) (h : Holder) → Some h ≡ slice_get hs 0 → (rest : List Holder) × (hs ≡ h ∷ rest)
first_there [] h found = absurd (cc found)
first_there (k ∷ hs) h found = (hs, let e : h ≡ k = same_Some h k found in ap (λ x. x ∷ hs) (sym e))

pub first_none : (hs : List Holder) → None ≡ slice_get hs 0 → hs ≡ []
first_none [] found = refl
first_none (k ∷ hs) found = absurd (cc found)

index_following : (g : Grant) (gs : Grants) (id : TransactionId) → is_same g.0 id ≡ false → index_among (g ∷ gs) id ≡ 1 + index_among gs id
index_following g gs id other = ap (λ b. cond (not b) (1 + index_among gs id) 0) other

index_here : (g : Grant) (gs : Grants) → index_among (g ∷ gs) g.0 ≡ 0
index_here g gs = ap (λ b. cond (not b) (1 + index_among gs g.0) 0) (same_itself g.0)

abbrev pub leasing : Path → Grant → Bool
leasing p g = set.contains (leased g.1) p

abbrev pub changing : Path → Grant → Bool
changing p g = set.contains g.1.exclusive p

following : (test : Grant → Bool) (g : Grant) (gs : Grants) → test g ≡ false → prefix_len (λ h. not (test h)) (g ∷ gs) ≡ 1 + prefix_len (λ h. not (test h)) gs
following test g gs fails = ap (λ b. cond (not b) (1 + prefix_len (λ h. not (test h)) gs) 0) fails

here : (test : Grant → Bool) (g : Grant) (gs : Grants) → test g ≡ true → prefix_len (λ h. not (test h)) (g ∷ gs) ≡ 0
here test g gs passes = ap (λ b. cond (not b) (1 + prefix_len (λ h. not (test h)) gs) 0) passes

leased_by_exclusive : (fp : Footprint) (p : Path) → set.contains fp.exclusive p ≡ true → set.contains (leased fp) p ≡ true
leased_by_exclusive fp p has = set.contains-union path_cmp-total fp.exclusive fp.shared p ∙ or_left (set.contains fp.exclusive p) (set.contains fp.shared p) has

leased_by_shared : (fp : Footprint) (p : Path) → set.contains fp.shared p ≡ true → set.contains (leased fp) p ≡ true
leased_by_shared fp p has = set.contains-union path_cmp-total fp.exclusive fp.shared p ∙ or_right (set.contains fp.exclusive p) (set.contains fp.shared p) has

not_exclusive : (fp : Footprint) (p : Path) → set.contains (leased fp) p ≡ false → set.contains fp.exclusive p ≡ false
not_exclusive fp p none = (unleased fp p none).0

-- the holders of the grants after one are not that one's
first_following : (g : Grant) (gs : Grants) (p : Path) (h : Holder) (hs : List Holder) → AreApart (g ∷ gs) → holders_at gs p ≡ h ∷ hs
    → is_same g.0 h.transaction
    ≡ false
first_following g gs p h hs apart are =
    is_same-symm g.0 h.transaction ∙ (subst (AllByRecursion (IsNotOf g.0)) are (strangers gs g.0 p apart.0.names)).0

-- the three ways in which a grant has a path
data Way (g : Grant) (p : Path) : Type 0 where
  exclusively : changing p g ≡ true → Way g p
  merely : changing p g ≡ false → set.contains g.1.shared p ≡ true → Way g p
  neither : leasing p g ≡ false → Way g p

way : (g : Grant) (p : Path) → Way g p
way g p =
    elim (cases_Bool (leasing p g)) [
      | inr none ↦ neither none
      | inl has ↦ elim (cases_Bool (changing p g)) [
        | inl passes ↦ exclusively passes
        | inr fails ↦ elim (union_cases g.1.exclusive g.1.shared p has) [
          | inl passes ↦ absurd (true≢false (sym passes ∙ fails))
          | inr shared ↦ merely fails shared
        ]
      ]
    ]

head_is : (h k : Holder) (hs ks : List Holder) → h ∷ hs ≡ k ∷ ks → h.transaction ≡ k.transaction
head_is h k hs ks same = let e : h ≡ k = cc in ap (λ x. x.transaction) e

lease_is : (h k : Holder) (hs ks : List Holder) → h ∷ hs ≡ k ∷ ks → h.lease ≡ k.lease
lease_is h k hs ks same = let e : h ≡ k = cc in ap (λ x. x.lease) e

pub nobody_of : (g : Grant) (gs : Grants) (p : Path) → leasing p g ≡ false → holders_at (g ∷ gs) p ≡ holders_at gs p
nobody_of g gs p none = ap (λ hs. hs ++ holders_at gs p) (of_unleased g.0 g.1 p none)

pub nobody_leasing : (gs : Grants) (p : Path) → holders_at gs p ≡ [] → length gs ≡ prefix_len (λ g. not (leasing p g)) gs
nobody_leasing [] p none = refl
nobody_leasing (g ∷ gs) p none =
    elim (way g p) [
      | exclusively passes ↦ absurd (cc (sym (ap (λ hs. hs ++ holders_at gs p) (of_exclusive g.0 g.1 p passes)) ∙ none))
      | merely fails passes ↦ absurd (cc (sym (ap (λ hs. hs ++ holders_at gs p) (of_shared g.0 g.1 p fails passes)) ∙ none))
      | neither fails ↦ let rest = nobody_leasing gs p (sym (nobody_of g gs p fails) ∙ none) in omega (arith, rest, following (leasing p) g gs fails)
    ]

pub first_leasing : (gs : Grants) (p : Path) (h : Holder) (hs : List Holder) → AreApart gs → holders_at gs p ≡ h ∷ hs → index_among gs h.transaction
    ≡ prefix_len (λ g. not (leasing p g)) gs
first_leasing [] p h hs apart are = absurd (cc are)
first_leasing (g ∷ gs) p h hs apart are =
    elim (way g p) [
      | exclusively passes ↦
          let mine : g.0 ≡ h.transaction = head_is _ _ _ _ (sym (ap (λ ks. ks ++ holders_at gs p) (of_exclusive g.0 g.1 p passes)) ∙ are) in
          subst (λ id. index_among (g ∷ gs) id ≡ 0) mine (index_here g gs) ∙ sym (here (leasing p) g gs (leased_by_exclusive g.1 p passes))
      | merely fails passes ↦
          let mine : g.0 ≡ h.transaction = head_is _ _ _ _ (sym (ap (λ ks. ks ++ holders_at gs p) (of_shared g.0 g.1 p fails passes)) ∙ are) in
          subst (λ id. index_among (g ∷ gs) id ≡ 0) mine (index_here g gs) ∙ sym (here (leasing p) g gs (leased_by_shared g.1 p passes))
      | neither fails ↦
          let rest : holders_at gs p ≡ h ∷ hs = sym (nobody_of g gs p fails) ∙ are in
          index_following g gs h.transaction (first_following g gs p h hs apart rest)
          ∙ ap (λ n. 1 + n) (first_leasing gs p h hs apart.1 rest)
          ∙ sym (following (leasing p) g gs fails)
    ]

-- ---- exclusive leases

-- beside a grant that leases a path none leases it exclusively
alone : (g : Grant) (gs : Grants) (p : Path) → leasing p g ≡ true → AllByRecursion (λ k. is_conflict g.1 k.1 ≡ false) gs → length gs
    ≡ prefix_len (λ k. not (changing p k)) gs
alone g [] p has apart = refl
alone g (k ∷ gs) p has apart =
    let rest = alone g gs p has apart.1 in
    elim (cases_Bool (changing p k)) [
      | inl passes ↦ absurd (true≢false (sym (or_right (reaches g.1 k.1) (reaches k.1 g.1) (reaches_at k.1 g.1 p p passes has (at_or_below-itself p)))
          ∙ apart.0))
      | inr fails ↦ omega (arith, rest, following (changing p) k gs fails)
    ]

pub nobody_changing : (gs : Grants) (p : Path) → holders_at gs p ≡ [] → length gs ≡ prefix_len (λ g. not (changing p g)) gs
nobody_changing [] p none = refl
nobody_changing (g ∷ gs) p none =
    elim (way g p) [
      | exclusively passes ↦ absurd (cc (sym (ap (λ hs. hs ++ holders_at gs p) (of_exclusive g.0 g.1 p passes)) ∙ none))
      | merely fails passes ↦ absurd (cc (sym (ap (λ hs. hs ++ holders_at gs p) (of_shared g.0 g.1 p fails passes)) ∙ none))
      | neither fails ↦ let rest = nobody_changing gs p (sym (nobody_of g gs p fails) ∙ none) in
          omega (arith, rest, following (changing p) g gs (not_exclusive g.1 p fails))
    ]

pub first_shared : (gs : Grants) (p : Path) (h : Holder) (hs : List Holder) → AreApart gs → holders_at gs p ≡ h ∷ hs → h.lease ≡ Shared → length gs
    ≡ prefix_len (λ g. not (changing p g)) gs
first_shared [] p h hs apart are shared = absurd (cc are)
first_shared (g ∷ gs) p h hs apart are shared =
    elim (way g p) [
      | exclusively passes ↦
          let mine : Exclusive ≡ h.lease = lease_is _ _ _ _ (sym (ap (λ ks. ks ++ holders_at gs p) (of_exclusive g.0 g.1 p passes)) ∙ are) in
          absurd (cc (mine ∙ shared))
      | merely fails passes ↦ let rest = alone g gs p (leased_by_shared g.1 p passes) apart.0.paths in omega (arith, rest, following (changing p) g gs fails)
      | neither fails ↦
          let rest = first_shared gs p h hs apart.1 (sym (nobody_of g gs p fails) ∙ are) shared in
          omega (arith, rest, following (changing p) g gs (not_exclusive g.1 p fails))
    ]

pub first_exclusive : (gs : Grants) (p : Path) (h : Holder) (hs : List Holder) → AreApart gs → holders_at gs p ≡ h ∷ hs → h.lease ≡ Exclusive →
    index_among gs h.transaction ≡ prefix_len (λ g. not (changing p g)) gs
first_exclusive [] p h hs apart are exclusive = absurd (cc are)
first_exclusive (g ∷ gs) p h hs apart are exclusive =
    elim (way g p) [
      | exclusively passes ↦
          let mine : g.0 ≡ h.transaction = head_is _ _ _ _ (sym (ap (λ ks. ks ++ holders_at gs p) (of_exclusive g.0 g.1 p passes)) ∙ are) in
          subst (λ id. index_among (g ∷ gs) id ≡ 0) mine (index_here g gs) ∙ sym (here (changing p) g gs passes)
      | merely fails passes ↦
          let mine : Shared ≡ h.lease = lease_is _ _ _ _ (sym (ap (λ ks. ks ++ holders_at gs p) (of_shared g.0 g.1 p fails passes)) ∙ are) in
          absurd (cc (mine ∙ exclusive))
      | neither fails ↦
          let rest : holders_at gs p ≡ h ∷ hs = sym (nobody_of g gs p fails) ∙ are in
          index_following g gs h.transaction (first_following g gs p h hs apart rest)
          ∙ ap (λ n. 1 + n) (first_exclusive gs p h hs apart.1 rest exclusive)
          ∙ sym (following (changing p) g gs (not_exclusive g.1 p fails))
    ]

-- ---- a release

absent : (gs : Grants) (id : TransactionId) (g : Grant) (p : Path) → AreApart gs → find (λ h. is_same h.0 id) gs ≡ Some g → leasing p g ≡ false →
    AllByRecursion (IsNotOf id) (holders_at gs p)
absent [] id g p apart found none = absurd (cc found)
absent (k ∷ gs) id g p apart found none =
    elim (cases_Bool (is_same k.0 id)) [
      | inl same ↦
          let mine : k ≡ g = same_Some _ _ (sym (ap (λ b. cond b (Some k) (find (λ h. is_same h.0 id) gs)) same) ∙ found) in
          let unheld : holds gs id ≡ false = subst (λ name. holds gs name ≡ false) (same_is k.0 id same) apart.0.names in
          subst (AllByRecursion (IsNotOf id)) (sym (nobody_of k gs p (ap (leasing p) mine ∙ none))) (strangers gs id p unheld)
      | inr other ↦
          all-append (IsNotOf id) (holders_of k.0 k.1 p) (holders_at gs p) (not_of id k (holders_of k.0 k.1 p) other (all_of k.0 k.1 p))
          (absent gs id g p apart.1 (sym (ap (λ b. cond b (Some k) (find (λ h. is_same h.0 id) gs)) other) ∙ found) none)
    ]

pub released : (gs : Grants) (id : TransactionId) (g : Grant) (p : Path) → AreApart gs → find (λ h. is_same h.0 id) gs ≡ Some g
    → left id (set.contains (leased g.1) p) (holders_at gs p) ≡ holders_at (without_grant gs id) p
released gs id g p apart found =
    elim (cases_Bool (leasing p g)) [
      | inl has ↦ ap (λ b. left id b (holders_at gs p)) has ∙ others-without gs id p
      | inr none ↦ ap (λ b. left id b (holders_at gs p)) none ∙ sym (all_stay id (holders_at gs p) (absent gs id g p apart found none)) ∙ others-without gs id p
    ]
