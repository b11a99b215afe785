-- What workers leave, by their numbers.
use Rattle.std.proofs.Common.{◌≡◌, ℕ, ◌+◌, ◌≤◌, Bool, true, false, if◌then◌else◌, List, [], ◌∷◌, ◌++◌, length, map, drop, sym, subst, add-zero, append-nil, arith}
use Rattle.std.proofs.lemmas.List.{drop_all}
use Rattle.cfdp_transactions.specs.declared.event.Event.{Event}
use Rattle.cfdp_engine.specs.Seats.{Seated}
use Rattle.cfdp_engine.specs.declared.message.Message.{Message}
use Rattle.cfdp_engine.specs.Working.{is_passed_over, passed_over}
use Rattle.cfdp_links.specs.Linked.{AllNumbered, AreHanded}
use Rattle.cfdp_links.specs.Links.{Said}

-- one more, after the others
pub numbered-snoc : {X : Type 0} (P : ℕ → X → Type 0) (number : ℕ) (xs : List X) (x : X) → AllNumbered P number xs → P (number + length xs) x
    → AllNumbered P number (xs ++ x ∷ [])
numbered-snoc P number [] x before last = (subst (λ (n : ℕ). P n x) (add-zero number) last, tt)
numbered-snoc P number (y ∷ ys) x before last =
    let same : number + length (y ∷ ys) ≡ number + 1 + length ys = omega arith in
    (before.0, numbered-snoc P (number + 1) ys x before.1 (subst (λ (n : ℕ). P n x) same last))

at_most : (b : Bool) (n m : ℕ) → n ≤ m → (if b then 1 else 0) + n ≤ m + 1
at_most true n m h = omega arith
at_most false n m h = omega arith

-- no more messages are passed over than there are
pub passed_over-few : (messages : List Message) → passed_over messages ≤ length messages
passed_over-few [] = omega arith
passed_over-few (m ∷ ms) =
    let h = at_most (is_passed_over m) (passed_over ms) (length ms) (passed_over-few ms) in omega arith

-- the first of what is left is the one that comes next, and after it the numbers go on
pub numbered-first : {X Y : Type 0} (P : ℕ → X → Type 0) (all : List Y) (old rest : List X) (x : X) → AllNumbered P (length all) old → old ≡ x ∷ rest
    → P (length all) x
numbered-first {X = X} P all old rest x before same = (subst (λ (xs : List X). AllNumbered P (length all) xs) same before).0

pub numbered-rest : {X Y : Type 0} (P : ℕ → X → Type 0) (all new : List Y) (y : Y) (old rest : List X) (x : X) → AllNumbered P (length all) old
    → old ≡ x ∷ rest → length new ≡ length all + 1 → AllNumbered P (length new) rest
numbered-rest {X = X} P all new y old rest x before same more =
    subst (λ (n : ℕ). AllNumbered P n rest) (sym more) (subst (λ (xs : List X). AllNumbered P (length all) xs) same before).1

-- from 0 on
pub numbered-grown : {X : Type 0} (P : ℕ → X → Type 0) (all new : List X) (x : X) → AllNumbered P 0 all → P (length all) x → new ≡ all ++ x ∷ []
    → AllNumbered P 0 new
numbered-grown {X = X} P all new x before last same =
    let from : length all ≡ 0 + length all = omega arith in
    subst (λ (xs : List X). AllNumbered P 0 xs) (sym same)
    (numbered-snoc P 0 all x before (subst (λ (n : ℕ). P n x) from last))

-- what holds whatever follows holds of all that there is
pub handed_all : {X : Type 0} (events : Seated → List Event) (said : X → List Said) (files : List X) (seats : List Seated) (dropped : List ℕ)
    → length seats ≡ length files
    → ((others : List Seated) (counts : List ℕ) → AreHanded events (length seats) (map said (drop (length seats) files)) others counts
    → AreHanded events 0 (map said files) (seats ++ others) (dropped ++ counts))
    → AreHanded events 0 (map said files) seats dropped
handed_all {X = X} events said files seats dropped all goes =
    let none : drop (length seats) files ≡ [] = drop_all (length seats) files (omega arith) in
    let handed = goes [] [] (subst (λ (xs : List X). AreHanded events (length seats) (map said xs) [] []) (sym none) tt) in
    subst (λ (ss : List Seated). AreHanded events 0 (map said files) ss dropped) (append-nil seats)
    (subst (λ (ds : List ℕ). AreHanded events 0 (map said files) (seats ++ []) ds) (append-nil dropped) handed)
