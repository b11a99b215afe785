-- A sequence of NAK PDUs (CCSDS 727.0-B-5, the lost segment procedures; §5.2.6).
--     Nak                            a scope, and the requests in it
--     front_end most requests        where the last of the first `most` requests ends
--     scope_of most low high requests    the scope of the first PDU
--     naks most low high requests    the sequence, with at most `most` requests in each PDU;  naks_in: its first PDUs
--     AreOrderedWithin low high requests  the requests are in order, from low to high
--     AreSideBy low high naks        the scopes are side by side, from low to high
--     AsksForAll, EachIsShort, AreSideBySide, EachIsWithin, FewNaks      the laws
use Rattle.std.specs.Prelude.{◌≡◌, ℕ, zero, suc, ◌+◌, ◌-◌, ◌*◌, ◌≤◌, ◌<◌, if◌then◌else◌, nat_le, List, [], ◌∷◌, length, take, drop, get_or}
use Rattle.std.specs.List.{flat_map, AllByRecursion}

abbrev pub SegmentRequest : Type 0
SegmentRequest = ℕ × ℕ

pub record Nak : Type 0 where
  pub scope : SegmentRequest
  pub requests : List SegmentRequest

abbrev pub front_end : ℕ → List SegmentRequest → ℕ
front_end most requests = (get_or requests (most - 1) (0, 0)).1

abbrev pub scope_of : ℕ → ℕ → ℕ → List SegmentRequest → SegmentRequest
scope_of most low high requests = if nat_le (length requests) most then (low, high) else (low, front_end most requests)

abbrev pub naks_in : ℕ → ℕ → ℕ → ℕ → List SegmentRequest → List Nak
naks_in zero most low high requests = []
naks_in (suc more) most low high requests =
    record { scope = scope_of most low high requests; requests = take most requests }
    ∷ (if nat_le (length requests) most then [] else naks_in more most (front_end most requests) high
    (drop most requests))

-- at least one PDU, and at most one for each request
abbrev pub naks : ℕ → ℕ → ℕ → List SegmentRequest → List Nak
naks most low high requests = naks_in (1 + length requests) most low high requests

abbrev pub AreOrderedWithin : ℕ → ℕ → List SegmentRequest → Type 0
AreOrderedWithin low high [] = low ≤ high
AreOrderedWithin low high (r ∷ rs) = (low ≤ r.0) × (r.0 ≤ r.1) × AreOrderedWithin r.1 high rs

abbrev pub AreSideBy : ℕ → ℕ → List Nak → Type 0
AreSideBy low high [] = low ≡ high
AreSideBy low high (nak ∷ naks) = (nak.scope.0 ≡ low) × AreSideBy nak.scope.1 high naks

abbrev pub AsksForAll : Type 0
AsksForAll = (most low high : ℕ) (requests : List SegmentRequest) → 1 ≤ most →
    flat_map (λ nak. nak.requests) (naks most low high requests) ≡ requests

abbrev pub EachIsShort : Type 0
EachIsShort = (most low high : ℕ) (requests : List SegmentRequest) →
    AllByRecursion (λ nak. length nak.requests ≤ most) (naks most low high requests)

abbrev pub AreSideBySide : Type 0
AreSideBySide = (most low high : ℕ) (requests : List SegmentRequest) → 1 ≤ most →
    AreSideBy low high (naks most low high requests)

abbrev pub EachIsWithin : Type 0
EachIsWithin =
    (most low high : ℕ) (requests : List SegmentRequest) → 1 ≤ most → AreOrderedWithin low high requests →
    AllByRecursion (λ nak. AreOrderedWithin nak.scope.0 nak.scope.1 nak.requests) (naks most low high requests)

abbrev pub FewNaks : Type 0
FewNaks = (most low high : ℕ) (requests : List SegmentRequest) → 1 ≤ most → most * length
    (naks most low high requests) < 1
    + most + length requests
