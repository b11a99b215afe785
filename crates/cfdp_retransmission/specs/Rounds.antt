-- A sender that answers each NAK sequence in the order of its requests, over a channel that loses PDUs.
--     Asking                           a NAK PDU that is sent: its requests, and whether the channel loses it
--     Sending                          a piece that the sender sends, and whether the channel loses it
--     Exchange                         the NAK PDUs of a round, and the pieces that answer them; and a second answer,
--                                      where NAK PDUs of another sequence have the same requests
--     heard_requests asking            the requests that the sender gets: those of the NAK PDUs that are not lost
--     Covers at end sent               the pieces follow each other from one offset to another
--     AnswersInOrder requests sent     they answer each request in turn, from its start to its end
--     IsExchange naks round            the NAK PDUs have these requests, and the pieces answer those that are heard
--     arrived sent, lost sent          the pieces that are not lost;  how many are lost
--     kept_after_round rs round        what is received after both answers
--     is_any_lost asking               whether one of the NAK PDUs is lost, or more
--     lost_of round                    the pieces that are lost, and 1 more where NAK PDUs are: at most the PDUs lost
--     asked_for most limit rs          the requests of each NAK PDU that asks for what is missing
--     AreRounds most limit rs rounds   in each round the NAK PDUs ask for what is missing then, and are answered
--     after_rounds rs rounds           what is received after them
--     lost_in rounds                   how much is lost in all of them
--     spare_round rs                   1 where 32 parts are there without the octet at offset 0, else 0
--     WholeAfterLosses                 after one round more than is lost, and the spare one, nothing is missing
use Rattle.std.specs.Prelude.{◌≡◌, ⊤, ℕ, ◌+◌, ◌≤◌, ◌<◌, Bool, false, ◌||◌, if◌then◌else◌, nat_le, List, [], ◌∷◌, ◌++◌, map, length}
use Rattle.cfdp_transactions.specs.Received.{Received, pieces, gaps_below}
use Rattle.cfdp_retransmission.specs.Naks.{SegmentRequest, naks}
use Rattle.cfdp_retransmission.specs.Coming.{Piece, keep_all, zero_missing}
use Rattle.cfdp_pdus.specs.Bits.{one_if}

pub record Asking : Type 0 where
  pub requests : List SegmentRequest
  pub is_lost : Bool

pub record Sending : Type 0 where
  pub piece : Piece
  pub is_lost : Bool

pub record Exchange : Type 0 where
  pub asking : List Asking
  pub sent : List Sending
  -- the second answer: nothing, where all of these are lost
  pub asking_again : List Asking
  pub sent_again : List Sending

abbrev pub heard_requests : List Asking → List SegmentRequest
heard_requests [] = []
heard_requests (a ∷ more) = if a.is_lost then heard_requests more else a.requests ++ heard_requests more

abbrev pub Covers : ℕ → ℕ → List Sending → Type 0
Covers at end [] = at ≡ end
Covers at end (s ∷ ss) = (s.piece.0 ≡ at) × Covers (at + length s.piece.1) end ss

abbrev pub AnswersInOrder : List SegmentRequest → List Sending → Type 0
AnswersInOrder [] sent = sent ≡ []
AnswersInOrder (r ∷ rs) sent =
    (front : List Sending) × (back : List Sending) × (sent ≡ front ++ back) × Covers r.0 r.1 front
    × AnswersInOrder rs back

pub record IsExchange (naks : List (List SegmentRequest)) (round : Exchange) : Type 0 where
  pub asks : map (λ a. a.requests) round.asking ≡ naks
  pub in_order : AnswersInOrder (heard_requests round.asking) round.sent
  pub asks_again : map (λ a. a.requests) round.asking_again ≡ naks
  pub in_order_again : AnswersInOrder (heard_requests round.asking_again) round.sent_again

abbrev pub arrived : List Sending → List Piece
arrived [] = []
arrived (s ∷ ss) = if s.is_lost then arrived ss else s.piece ∷ arrived ss

abbrev pub lost : List Sending → ℕ
lost [] = 0
lost (s ∷ ss) = one_if s.is_lost + lost ss

abbrev pub is_any_lost : List Asking → Bool
is_any_lost [] = false
is_any_lost (a ∷ more) = a.is_lost || is_any_lost more

abbrev pub lost_of : Exchange → ℕ
lost_of round = lost round.sent + lost round.sent_again + one_if (is_any_lost round.asking)

abbrev pub kept_after_round : Received → Exchange → Received
kept_after_round rs round = keep_all (keep_all rs (arrived round.sent)) (arrived round.sent_again)

abbrev pub asked_for : ℕ → ℕ → Received → List (List SegmentRequest)
asked_for most limit rs = map (λ nak. nak.requests) (naks most 0 limit (gaps_below limit rs))

abbrev pub AreRounds : ℕ → ℕ → Received → List Exchange → Type 0
AreRounds most limit rs [] = ⊤
AreRounds most limit rs (round ∷ rounds) =
    IsExchange (asked_for most limit rs) round × AreRounds most limit (kept_after_round rs round) rounds

abbrev pub after_rounds : Received → List Exchange → Received
after_rounds rs [] = rs
after_rounds rs (round ∷ rounds) = after_rounds (kept_after_round rs round) rounds

abbrev pub lost_in : List Exchange → ℕ
lost_in [] = 0
lost_in (round ∷ rounds) = lost_of round + lost_in rounds

abbrev pub spare_round : Received → ℕ
spare_round rs = if nat_le (pieces rs + zero_missing rs) 32 then 0 else 1

-- what is received has at most 32 parts at all times, and ends at the file's size at the latest
abbrev pub WholeAfterLosses : Type 0
WholeAfterLosses =
    (most limit : ℕ) (rs : Received) (rounds : List Exchange) → 1 ≤ most → pieces rs ≤ 32 → length rs ≤ limit →
    AreRounds most limit rs rounds → lost_in rounds + spare_round rs < length rounds →
    gaps_below limit (after_rounds rs rounds) ≡ []
