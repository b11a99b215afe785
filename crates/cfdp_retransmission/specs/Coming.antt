-- What comes in answer to a NAK sequence (CCSDS 727.0-B-5, the lost segment procedures).
--     Piece                       an offset, and the octets from there on
--     keep rs piece               what is received with one more piece: it is passed over where more than 32 separate
--                                 parts would be kept
--     keep_all rs pieces          with several
--     AreAllKept rs pieces        none of several is passed over
--     brings pieces i             one of them has the octet at this offset
--     BringsMissing limit rs pieces  together they have each octet below the limit that is missing
--     continues rs at             the offset is 0, or that after an octet that was received
--     AreJoined rs pieces         each of several begins so, in its turn
--     zero_missing rs             1 where the octet at offset 0 is missing, else 0
--     cover_count i ranges        in how many ranges an offset is
--     all_asked most limit rs     all requests of the NAK sequence for what is missing below the limit
--     AnsweredIsWhole, AnsweredInOrder, AskedOnce, NotAsked      the laws
use Rattle.std.specs.Prelude.{◌≡◌, ⊤, ℕ, zero, suc, ◌+◌, ◌≤◌, ◌<◌, Bool, true, false, ◌&&◌, if◌then◌else◌, nat_lt, nat_le, List, [], ◌∷◌, length, None, is_some}
use Rattle.std.specs.List.{flat_map}
use Rattle.cfdp_transactions.specs.Received.{Received, kept_with, brought, pieces, gaps_below}
use Rattle.cfdp_transactions.specs.ReceivedLaws.{octet_at}
use Rattle.cfdp_retransmission.specs.Naks.{naks}
use Rattle.cfdp_pdus.specs.Bits.{one_if}

abbrev pub Piece : Type 0
Piece = ℕ × List ℕ

abbrev pub keep : Received → Piece → Received
keep rs piece = if nat_lt 32 (pieces (kept_with rs piece.0 piece.1)) then rs else kept_with rs piece.0 piece.1

abbrev pub keep_all : Received → List Piece → Received
keep_all rs [] = rs
keep_all rs (piece ∷ ps) = keep_all (keep rs piece) ps

abbrev pub AreAllKept : Received → List Piece → Type 0
AreAllKept rs [] = ⊤
AreAllKept rs (piece ∷ ps) = (pieces (kept_with rs piece.0 piece.1) ≤ 32) × AreAllKept (kept_with rs piece.0 piece.1) ps

abbrev pub brings : List Piece → ℕ → Bool
brings [] i = false
brings (piece ∷ ps) i = if is_some (brought piece.0 piece.1 i) then true else brings ps i

abbrev pub BringsMissing : ℕ → Received → List Piece → Type 0
BringsMissing limit rs ps = (i : ℕ) → i < limit → octet_at rs i ≡ None → brings ps i ≡ true

abbrev pub continues : Received → ℕ → Bool
continues rs zero = true
continues rs (suc at) = is_some (octet_at rs at)

abbrev pub AreJoined : Received → List Piece → Type 0
AreJoined rs [] = ⊤
AreJoined rs (piece ∷ ps) = (continues rs piece.0 ≡ true) × AreJoined (kept_with rs piece.0 piece.1) ps

abbrev pub zero_missing : Received → ℕ
zero_missing rs = if is_some (octet_at rs 0) then 0 else 1

abbrev pub AnsweredIsWhole : Type 0
AnsweredIsWhole = (limit : ℕ) (rs : Received) (ps : List Piece) → AreAllKept rs ps → BringsMissing limit rs ps →
    gaps_below limit (keep_all rs ps) ≡ []

abbrev pub AnsweredInOrder : Type 0
AnsweredInOrder =
    (limit : ℕ) (rs : Received) (ps : List Piece) → pieces rs + zero_missing rs ≤ 32 → AreJoined rs ps →
    BringsMissing limit rs ps →
    gaps_below limit (keep_all rs ps) ≡ []

abbrev pub cover_count : ℕ → List (ℕ × ℕ) → ℕ
cover_count i [] = 0
cover_count i (r ∷ rs) = one_if (nat_le r.0 i && nat_lt i r.1) + cover_count i rs

abbrev pub all_asked : ℕ → ℕ → Received → List (ℕ × ℕ)
all_asked most limit rs = flat_map (λ nak. nak.requests) (naks most 0 limit (gaps_below limit rs))

abbrev pub AskedOnce : Type 0
AskedOnce = (most limit : ℕ) (rs : Received) (i : ℕ) → 1 ≤ most → i < limit → octet_at rs i ≡ None →
    cover_count i (all_asked most limit rs) ≡ 1

abbrev pub NotAsked : Type 0
NotAsked = (most limit : ℕ) (rs : Received) (i : ℕ) → 1 ≤ most → (i < limit → octet_at rs i ≡ None → ⊥) →
    cover_count i (all_asked most limit rs) ≡ 0
