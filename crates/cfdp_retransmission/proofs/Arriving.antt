-- What comes in answer to a NAK sequence.
use Rattle.std.proofs.Common.{◌≡◌, ◌⊎◌, inl, inr, ℕ, zero, suc, ◌+◌, ◌<◌, ◌≤◌, List, [], ◌∷◌, refl, ap, ◌∙◌, arith}
use Rattle.std.specs.Prelude.{if◌then◌else◌, ◌&&◌, nat_le, nat_lt, Bool, true, false, Option, Some, None, is_some}
use Rattle.std.specs.Option.{option_or}
use Rattle.std.proofs.lemmas.Bool.{cases_lt, lt-ltb, le-ltb}
use Rattle.cfdp_transactions.specs.Received.{Received, kept_with, brought, pieces, pieces_from, gaps_below}
use Rattle.cfdp_retransmission.specs.Coming.{Piece, keep, keep_all, AreAllKept, brings, BringsMissing, continues, AreJoined, zero_missing, AnsweredIsWhole, AnsweredInOrder, cover_count, AskedOnce, NotAsked}
use Rattle.cfdp_transactions.specs.ReceivedLaws.{octet_at, IsIn, AreRuns}
use Rattle.cfdp_retransmission.proofs.Sequences.{asks_for_all}
use Rattle.std.proofs.lemmas.Bool.{le-leb, lt-leb}
use Rattle.cfdp_transactions.proofs.Received.OctetsAndGaps.{first_stays, gaps_are_missing, gaps_are_runs, fewer_pieces}
use Rattle.cfdp_pdus.specs.Bits.{one_if}

-- all of it is kept --------------------------------------------------------------------

pub kept_is : (rs : Received) (p : Piece) → pieces (kept_with rs p.0 p.1) ≤ 32 → keep rs p ≡ kept_with rs p.0 p.1
kept_is rs p h = rw (le-ltb 32 (pieces (kept_with rs p.0 p.1)) h) refl

-- an offset that is there stays there, and one that is brought is there then
pub stays : (o later : Option ℕ) → is_some o ≡ true → is_some (option_or o later) ≡ true
stays None later h = absurd cc
stays (Some x) later h = refl

pub comes : (o later : Option ℕ) → is_some later ≡ true → is_some (option_or o later) ≡ true
comes None later h = h
comes (Some x) later h = refl

-- an offset that was there or is still brought, once the first piece came
went : (o later : Option ℕ) (rest : Bool) → (is_some o ≡ true) ⊎ ((if is_some later then true else rest) ≡ true) → (is_some (option_or o later) ≡ true)
    ⊎ (rest ≡ true)
went o later rest (inl h) = inl (stays o later h)
went o None rest (inr h) = inr h
went o (Some x) rest (inr h) = inl (comes o (Some x) refl)

there : (rs : Received) (ps : List Piece) (i : ℕ) → AreAllKept rs ps → (is_some (octet_at rs i) ≡ true) ⊎ (brings ps i ≡ true) →
    is_some (octet_at (keep_all rs ps) i) ≡ true
there rs [] i kept (inl h) = h
there rs [] i kept (inr h) = absurd cc
there rs (p ∷ ps) i kept h =
    let now = kept_with rs p.0 p.1 in
    let same : keep rs p ≡ now = kept_is rs p kept.0 in
    let at : octet_at now i ≡ option_or (octet_at rs i) (brought p.0 p.1 i) = first_stays rs p.0 p.1 i in
    let further : (is_some (octet_at now i) ≡ true) ⊎ (brings ps i ≡ true) = rw at (went (octet_at rs i) (brought p.0 p.1 i) (brings ps i) h) in
    ap (λ (x : Received). is_some (octet_at (keep_all x ps) i)) same ∙ there now ps i kept.1 further

-- there is no gap where each offset is there
none : (gaps : List (ℕ × ℕ)) → AreRuns 0 gaps → ((i : ℕ) → IsIn i gaps → ⊥) → gaps ≡ []
none [] runs out = refl
none (g ∷ gs) runs out = absurd (out g.0 (inl (omega arith, runs.1)))

pub whole_from : (limit : ℕ) (rs : Received) → ((i : ℕ) → i < limit → is_some (octet_at rs i) ≡ true) → gaps_below limit rs ≡ []
whole_from limit rs all =
    none (gaps_below limit rs) (gaps_are_runs limit rs) (λ i inside.
    let missing = (gaps_are_missing limit rs i).0 inside in
    let here : is_some (octet_at rs i) ≡ true = all i missing.0 in
    let gone : is_some (octet_at rs i) ≡ false = ap is_some missing.1 in
    absurd cc)

-- there already, or asked for
either : (limit : ℕ) (rs : Received) (ps : List Piece) → BringsMissing limit rs ps → (i : ℕ) → i < limit → (o : Option ℕ) → octet_at rs i ≡ o →
    (is_some o ≡ true)
    ⊎ (brings ps i ≡ true)
either limit rs ps answers i h None e = inr (answers i h e)
either limit rs ps answers i h (Some x) e = inl refl

pub answered_is_whole : AnsweredIsWhole
answered_is_whole limit rs ps kept answers =
    whole_from limit (keep_all rs ps) (λ i h. there rs ps i kept (either limit rs ps answers i h (octet_at rs i) refl))

-- in order -----------------------------------------------------------------------------

-- what begins after an octet that is there makes no piece more
after_one : (rs : Received) (octets : List ℕ) → pieces_from true (kept_with rs 0 octets) ≤ pieces_from true rs
after_one rs [] = omega arith
after_one [] (x ∷ xs) = after_one [] xs
after_one (None ∷ rs) (x ∷ xs) = omega (arith, after_one rs xs, fewer_pieces rs)
after_one (Some r ∷ rs) (x ∷ xs) = after_one rs xs

pub joins : (inside : Bool) (rs : Received) (at : ℕ) (octets : List ℕ) → is_some (octet_at rs at) ≡ true →
    pieces_from inside (kept_with rs (suc at) octets) ≤ pieces_from inside rs
joins inside rs at [] h = omega arith
joins inside [] at (x ∷ xs) h = absurd cc
joins true (None ∷ rs) zero (x ∷ xs) h = absurd cc
joins false (None ∷ rs) zero (x ∷ xs) h = absurd cc
joins true (Some r ∷ rs) zero (x ∷ xs) h = after_one rs (x ∷ xs)
joins false (Some r ∷ rs) zero (x ∷ xs) h = omega (arith, after_one rs (x ∷ xs))
joins inside (None ∷ rs) (suc at) (x ∷ xs) h = joins false rs at (x ∷ xs) h
joins true (Some r ∷ rs) (suc at) (x ∷ xs) h = joins true rs at (x ∷ xs) h
joins false (Some r ∷ rs) (suc at) (x ∷ xs) h = omega (arith, joins true rs at (x ∷ xs) h)

-- the room that a first piece may still want
joins_zero : (rs : Received) (octets : List ℕ) → pieces (kept_with rs 0 octets) + zero_missing (kept_with rs 0 octets) ≤ pieces rs + zero_missing rs
joins_zero rs [] = omega arith
joins_zero [] (x ∷ xs) = omega (arith, after_one [] xs)
joins_zero (None ∷ rs) (x ∷ xs) = omega (arith, after_one rs xs, fewer_pieces rs)
joins_zero (Some r ∷ rs) (x ∷ xs) = omega (arith, after_one rs xs)

same_zero : (rs : Received) (at : ℕ) (octets : List ℕ) → is_some (octet_at rs at) ≡ true → zero_missing (kept_with rs (suc at) octets) ≡ zero_missing rs
same_zero rs at [] h = refl
same_zero [] at (x ∷ xs) h = absurd cc
same_zero (None ∷ rs) at (x ∷ xs) h = refl
same_zero (Some r ∷ rs) at (x ∷ xs) h = refl

pub room : (rs : Received) (at : ℕ) (octets : List ℕ) → continues rs at ≡ true → pieces (kept_with rs at octets)
    + zero_missing (kept_with rs at octets) ≤ pieces rs + zero_missing rs
room rs zero octets h = joins_zero rs octets
room rs (suc at) octets h = omega (arith, joins false rs at octets h, same_zero rs at octets h)

all_kept : (rs : Received) (ps : List Piece) → pieces rs + zero_missing rs ≤ 32 → AreJoined rs ps → AreAllKept rs ps
all_kept rs [] h joined = tt
all_kept rs (p ∷ ps) h joined =
    let grown = room rs p.0 p.1 joined.0 in
    (omega (arith, h, grown), all_kept (kept_with rs p.0 p.1) ps (omega (arith, h, grown)) joined.1)

pub answered_in_order : AnsweredInOrder
answered_in_order limit rs ps h joined answers = answered_is_whole limit rs ps (all_kept rs ps h joined) answers

-- exactness ----------------------------------------------------------------------------

is_here : (a b i : ℕ) → a ≤ i → i < b → one_if (nat_le a i && nat_lt i b) ≡ 1
is_here a b i low high = rw (le-leb a i low, lt-ltb i b high) refl

is_before : (a b i : ℕ) → i < a → one_if (nat_le a i && nat_lt i b) ≡ 0
is_before a b i low = rw (lt-leb a i low) refl

is_after : (a b i : ℕ) → a ≤ i → b ≤ i → one_if (nat_le a i && nat_lt i b) ≡ 0
is_after a b i low high = rw (le-leb a i low, le-ltb i b high) refl

below : (from : ℕ) (rs : List (ℕ × ℕ)) (i : ℕ) → AreRuns from rs → i < from → cover_count i rs ≡ 0
below from [] i runs h = refl
below from (r ∷ rs) i runs h = omega (arith, is_before r.0 r.1 i (omega (arith, runs.0, h)), below (r.1 + 1) rs i runs.2 (omega (arith, runs.0, runs.1, h)))

once : (from : ℕ) (rs : List (ℕ × ℕ)) (i : ℕ) → AreRuns from rs → IsIn i rs → cover_count i rs ≡ 1
once from [] i runs h = elim h [ ]
once from (r ∷ rs) i runs (inl h) = omega (arith, is_here r.0 r.1 i h.0 h.1, below (r.1 + 1) rs i runs.2 (omega (arith, h.1)))
once from (r ∷ rs) i runs (inr h) = elim (cases_lt i (r.1 + 1)) [
  | inl low ↦ absurd (omega (arith, below (r.1 + 1) rs i runs.2 low, once (r.1 + 1) rs i runs.2 h))
  | inr high ↦ omega (arith, is_after r.0 r.1 i (omega (arith, runs.1, high)) (omega (arith, high)), once (r.1 + 1) rs i runs.2 h)
]

never : (rs : List (ℕ × ℕ)) (i : ℕ) → (IsIn i rs → ⊥) → cover_count i rs ≡ 0
never [] i out = refl
never (r ∷ rs) i out = elim (cases_lt i r.0) [
  | inl low ↦ omega (arith, is_before r.0 r.1 i low, never rs i (λ h. out (inr h)))
  | inr from ↦ elim (cases_lt i r.1) [
    | inl high ↦ absurd (out (inl (from, high)))
    | inr high ↦ omega (arith, is_after r.0 r.1 i from high, never rs i (λ h. out (inr h)))
  ]
]

pub asked_once : AskedOnce
asked_once most limit rs i some h missing =
    ap (cover_count i) (asks_for_all most 0 limit (gaps_below limit rs) some)
    ∙ once 0 (gaps_below limit rs) i (gaps_are_runs limit rs) ((gaps_are_missing limit rs i).1 (h, missing))

pub not_asked : NotAsked
not_asked most limit rs i some there =
    ap (cover_count i) (asks_for_all most 0 limit (gaps_below limit rs) some)
    ∙ never (gaps_below limit rs) i (λ inside. there ((gaps_are_missing limit rs i).0 inside).0 ((gaps_are_missing limit rs i).0 inside).1)
