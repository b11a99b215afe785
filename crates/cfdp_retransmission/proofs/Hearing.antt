-- Rounds in which the sender may miss some of the NAK PDUs. Whatever it hears, its pieces end by the limit; and where none of them is lost, none is
-- passed over either, so that no more parts are there than before.
use Rattle.std.specs.Prelude.{if◌then◌else◌, ◌||◌, nat_lt, Bool, true, false, None, is_some}
use Rattle.std.specs.List.{AllByRecursion, flat_map}
use Rattle.std.proofs.Common.{◌≡◌, ◌⊎◌, inl, inr, ℕ, zero, suc, ◌+◌, ◌-◌, ◌<◌, ◌≤◌, List, [], ◌∷◌, ◌++◌, map, length, refl, sym, ap, subst, ◌∙◌, arith}
use Rattle.std.proofs.lemmas.Bool.{cond_both, cases_lt, cases_Bool, lt-ltb}
use Rattle.cfdp_status.proofs.Appended.{all-append}
use Rattle.cfdp_transactions.specs.Received.{Received, kept_with, brought, pieces, gaps_below}
use Rattle.cfdp_transactions.specs.ReceivedLaws.{octet_at, IsIn, AreRuns}
use Rattle.cfdp_transactions.proofs.Received.OctetsAndGaps.{first_stays, gaps_are_missing, gaps_are_runs}
use Rattle.cfdp_retransmission.specs.Naks.{SegmentRequest, Nak, naks}
use Rattle.cfdp_retransmission.specs.Coming.{Piece, keep, keep_all, continues, zero_missing}
use Rattle.cfdp_retransmission.specs.Rounds.{Asking, Sending, Exchange, heard_requests, Covers, AnswersInOrder, IsExchange, arrived, lost, is_any_lost, lost_of, kept_after_round, asked_for, AreRounds, after_rounds, spare_round, WholeAfterLosses}
use Rattle.cfdp_retransmission.proofs.Sequences.{asks_for_all}
use Rattle.cfdp_retransmission.proofs.Arriving.{kept_is, stays, room, whole_from, comes}
use Rattle.cfdp_retransmission.proofs.Losing.{holes, few_parts, no_hole, brings_some, spare_is, no_spare, covers_rise, arrived_both, lost_both, from_start, in_rest, there_or_not, one_round}
use Rattle.cfdp_transactions.proofs.Soundness.Receiving.{kept_within}
use Rattle.cfdp_pdus.specs.Bits.{one_if}

-- ---- the requests that are heard

abbrev all_requests : List Asking → List SegmentRequest
all_requests asking = flat_map (λ (a : Asking). a.requests) asking

each_of_both : (P : SegmentRequest → Type 0) (xs ys : List SegmentRequest) → AllByRecursion P (xs ++ ys) → AllByRecursion P xs × AllByRecursion P ys
each_of_both P [] ys h = (tt, h)
each_of_both P (x ∷ xs) ys h = let rest = each_of_both P xs ys h.1 in ((h.0, rest.0), rest.1)

-- what holds of each request holds of each that is heard
each_heard : (P : SegmentRequest → Type 0) (asking : List Asking) → AllByRecursion P (all_requests asking) → AllByRecursion P (heard_requests asking)
each_heard P [] h = tt
each_heard P (a ∷ more) h =
    let parts = each_of_both P a.requests (all_requests more) h in
    let rest = each_heard P more parts.1 in
    cond_both a.is_lost (heard_requests more) (a.requests ++ heard_requests more) (λ (rs : List SegmentRequest). AllByRecursion P rs)
    (λ e. rest) (λ e. all-append P a.requests (heard_requests more) parts.0 rest)

none_of : (xs : List SegmentRequest) → AllByRecursion (λ (r : SegmentRequest). ⊥) xs → xs ≡ []
none_of [] h = refl
none_of (x ∷ xs) h = absurd h.0

none_heard : (asking : List Asking) → all_requests asking ≡ [] → heard_requests asking ≡ []
none_heard asking e =
    none_of (heard_requests asking) (each_heard (λ (r : SegmentRequest). ⊥) asking
    (subst (λ (rs : List SegmentRequest). AllByRecursion (λ (r : SegmentRequest). ⊥) rs) (sym e) tt))

heard_by : (is_lost rest : Bool) (requests heard all : List SegmentRequest) → (rest ≡ false → heard ≡ all) → (is_lost || rest) ≡ false →
    (if is_lost then heard else requests ++ heard) ≡ requests ++ all
heard_by true rest requests heard all same e = absurd cc
heard_by false rest requests heard all same e = ap (λ (rs : List SegmentRequest). requests ++ rs) (same e)

all_heard : (asking : List Asking) → is_any_lost asking ≡ false → heard_requests asking ≡ all_requests asking
all_heard [] e = refl
all_heard (a ∷ more) e = heard_by a.is_lost (is_any_lost more) a.requests (heard_requests more) (all_requests more) (all_heard more) e

-- the NAK PDUs together ask for each gap
abbrev flat : List (List SegmentRequest) → List SegmentRequest
flat xs = flat_map (λ (rs : List SegmentRequest). rs) xs

flat_is : {A : Type 0} (f : A → List SegmentRequest) (xs : List A) → flat (map f xs) ≡ flat_map f xs
flat_is f [] = refl
flat_is f (x ∷ xs) = ap (λ (rs : List SegmentRequest). f x ++ rs) (flat_is f xs)

asks_gaps : (most limit : ℕ) (rs : Received) (asking : List Asking) → 1 ≤ most → map (λ (a : Asking). a.requests) asking ≡ asked_for most limit rs →
    all_requests asking ≡ gaps_below limit rs
asks_gaps most limit rs asking some asks =
    sym (flat_is (λ (a : Asking). a.requests) asking) ∙ ap flat asks
    ∙ flat_is (λ (nak : Nak). nak.requests) (naks most 0 limit (gaps_below limit rs)) ∙ asks_for_all most 0 limit (gaps_below limit rs) some

-- ---- a gap

-- it ends by the limit, and begins at offset 0 or after an octet that is there
pub record IsGap (limit : ℕ) (rs : Received) (r : SegmentRequest) : Type 0 where
  pub ends : r.1 ≤ limit
  pub begins : continues rs r.0 ≡ true

continues_by : (rs : Received) (at : ℕ) → ((a : ℕ) → at ≡ suc a → is_some (octet_at rs a) ≡ true) → continues rs at ≡ true
continues_by rs zero h = refl
continues_by rs (suc a) h = h a refl

-- `y`: no request begins before
each_is_gap : (limit : ℕ) (rs : Received) (y : ℕ) (requests : List SegmentRequest) → AreRuns y requests →
    ((i : ℕ) → y ≤ suc i → i < limit → octet_at rs i ≡ None → IsIn i requests) → ((i : ℕ) → IsIn i requests → i < limit) →
    AllByRecursion (IsGap limit rs) requests
each_is_gap limit rs y [] runs all only = tt
each_is_gap limit rs y (r ∷ rest) runs all only =
    let fits : r.1 ≤ limit = omega (arith, runs.1, only (r.1 - 1) (inl (omega (arith, runs.1), omega (arith, runs.1)))) in
    let before : (a : ℕ) → r.0 ≡ suc a → is_some (octet_at rs a) ≡ true =
    λ a at. there_or_not (octet_at rs a) (λ none.
    absurd (omega (arith, at, from_start r rest a runs.1 runs.2 (all a (omega (arith, at, runs.0)) (omega (arith, at, runs.1, fits)) none)))) in (
      record { ends = fits; begins = continues_by rs r.0 before },
      each_is_gap limit rs (r.1 + 1) rest runs.2
          (λ i low high none. in_rest r rest i (omega (arith, low)) (all i (omega (arith, low, runs.0, runs.1)) high none)) (λ i h. only i (inr h)),
    )

gaps_are : (limit : ℕ) (rs : Received) → AllByRecursion (IsGap limit rs) (gaps_below limit rs)
gaps_are limit rs =
    each_is_gap limit rs 0 (gaps_below limit rs) (gaps_are_runs limit rs) (λ i low high none. (gaps_are_missing limit rs i).1 (high, none))
    (λ i h. ((gaps_are_missing limit rs i).0 h).0)

-- so is each request that is heard
heard_are : (most limit : ℕ) (rs : Received) (asking : List Asking) → 1 ≤ most → map (λ (a : Asking). a.requests) asking ≡ asked_for most limit rs →
    AllByRecursion (IsGap limit rs) (heard_requests asking)
heard_are most limit rs asking some asks =
    each_heard (IsGap limit rs) asking
    (subst (λ (xs : List SegmentRequest). AllByRecursion (IsGap limit rs) xs) (sym (asks_gaps most limit rs asking some asks)) (gaps_are limit rs))

-- ---- no piece of an answer ends after the limit

abbrev pub Within : ℕ → List Piece → Type 0
Within limit ps = AllByRecursion (λ p. p.0 + length p.1 ≤ limit) ps

within_if : (limit : ℕ) (b : Bool) (p : Piece) (ps : List Piece) → p.0 + length p.1 ≤ limit → Within limit ps → Within limit (if b then ps else p ∷ ps)
within_if limit true p ps h rest = rest
within_if limit false p ps h rest = (h, rest)

within_front : (limit x end : ℕ) (ss : List Sending) → end ≤ limit → Covers x end ss → Within limit (arrived ss)
within_front limit x end [] fits c = tt
within_front limit x end (s ∷ ss) fits c =
    within_if limit s.is_lost s.piece (arrived ss) (omega (arith, c.0, covers_rise (x + length s.piece.1) end ss c.1, fits))
    (within_front limit (x + length s.piece.1) end ss fits c.1)

by_loss : (limit : ℕ) (c : Bool) (p : Piece) (f b : List Sending) → Within limit (if c then arrived f else p ∷ arrived f) → Within limit (arrived b) →
    (Within limit (arrived f) → Within limit (arrived (f ++ b))) →
    Within limit (if c then arrived (f ++ b) else p ∷ arrived (f ++ b))
by_loss limit true p f b hf hb rest = rest hf
by_loss limit false p f b hf hb rest = (hf.0, rest hf.1)

within_more : (limit : ℕ) (f b : List Sending) → Within limit (arrived f) → Within limit (arrived b) → Within limit (arrived (f ++ b))
within_more limit [] b hf hb = hb
within_more limit (s ∷ f) b hf hb = by_loss limit s.is_lost s.piece f b hf hb (λ h. within_more limit f b h hb)

within_requests : (limit : ℕ) (rs : Received) (requests : List SegmentRequest) (sent : List Sending) → AllByRecursion (IsGap limit rs) requests →
    AnswersInOrder requests sent → Within limit (arrived sent)
within_requests limit rs [] sent gaps answers = subst (λ (ss : List Sending). Within limit (arrived ss)) (sym answers) tt
within_requests limit rs (r ∷ rest) sent gaps answers =
    subst (λ (ss : List Sending). Within limit (arrived ss)) (sym answers.2)
    (within_more limit answers.0 answers.1 (within_front limit r.0 r.1 answers.0 gaps.0.ends answers.3)
    (within_requests limit rs rest answers.1 gaps.1 answers.4))

within_joined : (limit : ℕ) (xs ys : List Piece) → Within limit xs → Within limit ys → Within limit (xs ++ ys)
within_joined limit [] ys hx hy = hy
within_joined limit (x ∷ xs) ys hx hy = (hx.0, within_joined limit xs ys hx.1 hy)

first_within : (most limit : ℕ) (rs : Received) (round : Exchange) → 1 ≤ most → IsExchange (asked_for most limit rs) round →
    Within limit (arrived round.sent)
first_within most limit rs round some is =
    within_requests limit rs (heard_requests round.asking) round.sent (heard_are most limit rs round.asking some is.asks) is.in_order

again_within : (most limit : ℕ) (rs : Received) (round : Exchange) → 1 ≤ most → IsExchange (asked_for most limit rs) round →
    Within limit (arrived round.sent_again)
again_within most limit rs round some is =
    within_requests limit rs (heard_requests round.asking_again) round.sent_again (heard_are most limit rs round.asking_again some is.asks_again)
    is.in_order_again

pub within_sent : (most limit : ℕ) (rs : Received) (round : Exchange) → 1 ≤ most → IsExchange (asked_for most limit rs) round →
    Within limit (arrived round.sent ++ arrived round.sent_again)
within_sent most limit rs round some is =
    within_joined limit (arrived round.sent) (arrived round.sent_again) (first_within most limit rs round some is) (again_within most limit rs round some is)

-- so the parts stay few, and nothing is kept after the limit
record IsFit (limit : ℕ) (rs : Received) : Type 0 where
  few : pieces rs ≤ 32
  short : length rs ≤ limit

fit_one : (limit : ℕ) (rs : Received) (p : Piece) → IsFit limit rs → p.0 + length p.1 ≤ limit → IsFit limit (keep rs p)
fit_one limit rs p fit within = elim (cases_lt 32 (pieces (kept_with rs p.0 p.1))) [
  | inl over ↦
      let same : keep rs p ≡ rs = rw (lt-ltb 32 (pieces (kept_with rs p.0 p.1)) over) refl in
      subst (IsFit limit) (sym same) fit
  | inr few ↦ subst (IsFit limit) (sym (kept_is rs p few)) (record { few = few; short = kept_within rs p.0 p.1 limit fit.short within })
]

fit_all : (limit : ℕ) (ps : List Piece) (rs : Received) → IsFit limit rs → Within limit ps → IsFit limit (keep_all rs ps)
fit_all limit [] rs fit within = fit
fit_all limit (p ∷ ps) rs fit within = fit_all limit ps (keep rs p) (fit_one limit rs p fit within.0) within.1

-- ---- where no piece is lost, none is passed over

-- all that was there before is there, and there is room for each piece that follows an octet
record HasRoom (before rs : Received) : Type 0 where
  there : (i : ℕ) → is_some (octet_at before i) ≡ true → is_some (octet_at rs i) ≡ true
  room : pieces rs + zero_missing rs ≤ 32

still_continues : (before rs : Received) (at : ℕ) → HasRoom before rs → continues before at ≡ true → continues rs at ≡ true
still_continues before rs zero h c = refl
still_continues before rs (suc at) h c = h.there at c

continues_after : (rs : Received) (at : ℕ) (xs : List ℕ) → continues rs at ≡ true → continues (kept_with rs at xs) (at + length xs) ≡ true
continues_after rs at [] c =
    let same : at ≡ at + 0 = omega arith in
    subst (λ (n : ℕ). continues rs n ≡ true) same c
continues_after rs at (x ∷ xs) c =
    continues_by (kept_with rs at (x ∷ xs)) (at + length (x ∷ xs)) (λ a e.
    ap is_some (first_stays rs at (x ∷ xs) a)
    ∙ comes (octet_at rs a) (brought at (x ∷ xs) a) (brings_some at (x ∷ xs) a (omega (arith, e)) (omega (arith, e))))

abbrev Grows : Received → Received → ℕ → Type 0
Grows before rs at = HasRoom before rs × (continues rs at ≡ true)

grows_one : (before rs : Received) (p : Piece) → HasRoom before rs → continues rs p.0 ≡ true → Grows before (keep rs p) (p.0 + length p.1)
grows_one before rs p h c =
    let grown = room rs p.0 p.1 c in
    let few : pieces (kept_with rs p.0 p.1) + zero_missing (kept_with rs p.0 p.1) ≤ 32 = omega (arith, grown, h.room) in
    let kept : HasRoom before (kept_with rs p.0 p.1) =
    record { there = λ i was. ap is_some (first_stays rs p.0 p.1 i) ∙ stays (octet_at rs i) (brought p.0 p.1 i) (h.there i was); room = few } in
    subst (λ (now : Received). Grows before now (p.0 + length p.1)) (sym (kept_is rs p (omega (arith, few)))) (kept, continues_after rs p.0 p.1 c)

abbrev RoomAfter : Received → ℕ → List Sending → Type 0
RoomAfter before end ss =
    (rs : Received) (x : ℕ) → HasRoom before rs → continues rs x ≡ true → Covers x end ss → lost ss ≡ 0 → HasRoom before (keep_all rs (arrived ss))

room_by : (before : Received) (end : ℕ) (b : Bool) (p : Piece) (ss : List Sending) → RoomAfter before end ss →
    (rs : Received) → HasRoom before rs → continues rs p.0 ≡ true → Covers (p.0 + length p.1) end ss → one_if b + lost ss ≡ 0 →
    HasRoom before (keep_all rs (if b then arrived ss else p ∷ arrived ss))
room_by before end true p ss ih rs h c covers none = absurd (omega (arith, none))
room_by before end false p ss ih rs h c covers none =
    let one = grows_one before rs p h c in
    ih (keep rs p) (p.0 + length p.1) one.0 one.1 covers (omega (arith, none))

room_front : (before : Received) (end : ℕ) (ss : List Sending) → RoomAfter before end ss
room_front before end [] rs x h c covers none = h
room_front before end (s ∷ ss) rs x h c covers none =
    let at : x ≡ s.piece.0 = sym covers.0 in
    room_by before end s.is_lost s.piece ss (room_front before end ss) rs h
    (subst (λ (y : ℕ). continues rs y ≡ true) at c)
    (subst (λ (y : ℕ). Covers (y + length s.piece.1) end ss) at covers.1) none

room_all : (limit : ℕ) (before : Received) (requests : List SegmentRequest) (sent : List Sending) (rs : Received) → HasRoom before rs →
    AllByRecursion (IsGap limit before) requests → AnswersInOrder requests sent → lost sent ≡ 0 → HasRoom before (keep_all rs (arrived sent))
room_all limit before [] sent rs h gaps answers none = subst (λ (ss : List Sending). HasRoom before (keep_all rs (arrived ss))) (sym answers) h
room_all limit before (r ∷ rest) sent rs h gaps answers none =
    let front = answers.0 in
    let back = answers.1 in
    let none_in : lost front + lost back ≡ 0 = sym (lost_both front back) ∙ sym (ap lost answers.2) ∙ none in
    let first = room_front before r.1 front rs r.0 h (still_continues before rs r.0 h gaps.0.begins) answers.3 (omega (arith, none_in)) in
    let last = room_all limit before rest back (keep_all rs (arrived front)) first gaps.1 answers.4 (omega (arith, none_in)) in
    subst (λ (ss : List Sending). HasRoom before (keep_all rs (arrived ss))) (sym answers.2)
    (subst (λ (q : Received). HasRoom before q) (sym (arrived_both rs front back)) last)

-- ---- one round

spare_at_most : (rs : Received) → spare_round rs ≤ 1
spare_at_most rs = elim (cases_lt 32 (pieces rs + zero_missing rs)) [
  | inl many ↦ omega (arith, spare_is rs many)
  | inr few ↦ omega (arith, no_spare rs few)
]

-- nothing is missing after it, or something was lost, or there was the spare round
abbrev Went : ℕ → Received → Received → ℕ → Type 0
Went limit rs after gone = (gaps_below limit after ≡ []) ⊎ (1 + spare_round after ≤ gone + spare_round rs)

went_all : (limit : ℕ) (rs : Received) (sent : List Sending) → IsFit limit rs → AnswersInOrder (gaps_below limit rs) sent →
    Went limit rs (keep_all rs (arrived sent)) (lost sent)
went_all limit rs sent fit answers =
    let after = keep_all rs (arrived sent) in
    let inside = one_round limit rs sent fit.few fit.short answers in
    let parts : pieces after + zero_missing after ≤ 1 + holes limit after = few_parts limit after inside.short in
    elim (cases_lt 0 (lost sent + spare_round rs)) [
      | inl some ↦ elim (cases_lt 32 (pieces after + zero_missing after)) [
        | inl many ↦ inr (omega (arith, spare_is after many, many, parts, inside.few_holes))
        | inr less ↦ inr (omega (arith, no_spare after less, some))
      ]
      | inr clean ↦ inl (whole_from limit after (no_hole limit after (omega (arith, inside.few_holes, clean))))
    ]

went_some : (limit : ℕ) (rs : Received) (requests : List SegmentRequest) (sent : List Sending) → AllByRecursion (IsGap limit rs) requests →
    AnswersInOrder requests sent → 1 + spare_round (keep_all rs (arrived sent)) ≤ lost sent + 1 + spare_round rs
went_some limit rs requests sent gaps answers =
    let after = keep_all rs (arrived sent) in
    let most = spare_at_most after in
    elim (cases_lt 0 (lost sent)) [
      | inl lossy ↦ omega (arith, most, lossy)
      | inr clean ↦ elim (cases_lt 32 (pieces rs + zero_missing rs)) [
        | inl many ↦ omega (arith, most, spare_is rs many)
        | inr few ↦
            let last = room_all limit rs requests sent rs (record { there = λ i h. h; room = few }) gaps answers (omega (arith, clean)) in
            omega (arith, no_spare after last.room)
      ]
    ]

first_answer : (most limit : ℕ) (rs : Received) (round : Exchange) → 1 ≤ most → IsFit limit rs → IsExchange (asked_for most limit rs) round →
    Went limit rs (keep_all rs (arrived round.sent)) (lost round.sent + one_if (is_any_lost round.asking))
first_answer most limit rs round some fit is =
    let asking = round.asking in
    let after = keep_all rs (arrived round.sent) in
    elim (cases_Bool (is_any_lost asking)) [
      | inl unheard ↦
          let went = went_some limit rs (heard_requests asking) round.sent (heard_are most limit rs asking some is.asks) is.in_order in
          inr (omega (arith, went, ap one_if unheard))
      | inr heard ↦
          let requests : heard_requests asking ≡ gaps_below limit rs = all_heard asking heard ∙ asks_gaps most limit rs asking some is.asks in
          let went = went_all limit rs round.sent fit (subst (λ (xs : List SegmentRequest). AnswersInOrder xs round.sent) requests is.in_order) in
          subst (Went limit rs after) (omega (arith, ap one_if heard)) went
    ]

-- ---- a second answer

there_one : (rs : Received) (p : Piece) (i : ℕ) → is_some (octet_at rs i) ≡ true → is_some (octet_at (keep rs p) i) ≡ true
there_one rs p i h =
    let now = kept_with rs p.0 p.1 in
    let kept : is_some (octet_at now i) ≡ true = ap is_some (first_stays rs p.0 p.1 i) ∙ stays (octet_at rs i) (brought p.0 p.1 i) h in
    cond_both (nat_lt 32 (pieces now)) rs now (λ (q : Received). is_some (octet_at q i) ≡ true) (λ e. h) (λ e. kept)

there_all : (ps : List Piece) (rs : Received) (i : ℕ) → is_some (octet_at rs i) ≡ true → is_some (octet_at (keep_all rs ps) i) ≡ true
there_all [] rs i h = h
there_all (p ∷ ps) rs i h = there_all ps (keep rs p) i (there_one rs p i h)

nothing_in : (gaps : List SegmentRequest) (i : ℕ) → gaps ≡ [] → IsIn i gaps → ⊥
nothing_in [] i e h = elim h [ ]
nothing_in (g ∷ gs) i e h = absurd cc

whole_goes_on : (limit : ℕ) (now : Received) (ps : List Piece) → gaps_below limit now ≡ [] → gaps_below limit (keep_all now ps) ≡ []
whole_goes_on limit now ps whole =
    whole_from limit (keep_all now ps) (λ i low. there_all ps now i
    (there_or_not (octet_at now i) (λ none. nothing_in (gaps_below limit now) i whole ((gaps_are_missing limit now i).1 (low, none)))))

went_again : (limit : ℕ) (rs now : Received) (requests : List SegmentRequest) (sent : List Sending) (gone : ℕ) →
    ((i : ℕ) → is_some (octet_at rs i) ≡ true → is_some (octet_at now i) ≡ true) → AllByRecursion (IsGap limit rs) requests →
    AnswersInOrder requests sent → Went limit rs now gone → Went limit rs (keep_all now (arrived sent)) (gone + lost sent)
went_again limit rs now requests sent gone there gaps answers (inl whole) = inl (whole_goes_on limit now (arrived sent) whole)
went_again limit rs now requests sent gone there gaps answers (inr less) =
    let after = keep_all now (arrived sent) in
    let most = spare_at_most after in
    elim (cases_lt 0 (lost sent)) [
      | inl lossy ↦ inr (omega (arith, less, most, lossy))
      | inr clean ↦ elim (cases_lt 32 (pieces now + zero_missing now)) [
        | inl many ↦ inr (omega (arith, less, most, spare_is now many))
        | inr few ↦
            let last = room_all limit rs requests sent now (record { there = there; room = few }) gaps answers (omega (arith, clean)) in
            inr (omega (arith, less, no_spare after last.room))
      ]
    ]

one_exchange : (most limit : ℕ) (rs : Received) (round : Exchange) → 1 ≤ most → IsFit limit rs → IsExchange (asked_for most limit rs) round →
    Went limit rs (kept_after_round rs round) (lost_of round)
one_exchange most limit rs round some fit is =
    let first = keep_all rs (arrived round.sent) in
    let gone = lost round.sent + one_if (is_any_lost round.asking) in
    let both =
    went_again limit rs first (heard_requests round.asking_again) round.sent_again gone (λ i h. there_all (arrived round.sent) rs i h)
    (heard_are most limit rs round.asking_again some is.asks_again) is.in_order_again (first_answer most limit rs round some fit is) in
    subst (λ (n : ℕ). Went limit rs (kept_after_round rs round) n) (omega arith) both

-- ---- all rounds

no_answer : (most limit : ℕ) (rs : Received) (asking : List Asking) (sent : List Sending) → 1 ≤ most → gaps_below limit rs ≡ [] →
    map (λ (a : Asking). a.requests) asking ≡ asked_for most limit rs → AnswersInOrder (heard_requests asking) sent → sent ≡ []
no_answer most limit rs asking sent some whole asks answers =
    let no_request : heard_requests asking ≡ [] = none_heard asking (asks_gaps most limit rs asking some asks ∙ whole) in
    subst (λ (requests : List SegmentRequest). AnswersInOrder requests sent) no_request answers

whole_stays : (most limit : ℕ) (rs : Received) (rounds : List Exchange) → 1 ≤ most → gaps_below limit rs ≡ [] → AreRounds most limit rs rounds →
    gaps_below limit (after_rounds rs rounds) ≡ []
whole_stays most limit rs [] some whole all = whole
whole_stays most limit rs (round ∷ rounds) some whole all =
    let first : round.sent ≡ [] = no_answer most limit rs round.asking round.sent some whole all.0.asks all.0.in_order in
    let second : round.sent_again ≡ [] = no_answer most limit rs round.asking_again round.sent_again some whole all.0.asks_again all.0.in_order_again in
    let same : kept_after_round rs round ≡ rs =
    ap (λ (sent : List Sending). keep_all (keep_all rs (arrived sent)) (arrived round.sent_again)) first
    ∙ ap (λ (sent : List Sending). keep_all rs (arrived sent)) second in
    ap (λ (q : Received). gaps_below limit (after_rounds q rounds)) same
    ∙ whole_stays most limit rs rounds some whole (subst (λ (q : Received). AreRounds most limit q rounds) same all.1)

pub whole_after_losses : WholeAfterLosses
whole_after_losses most limit rs [] some few short all enough = absurd (omega (arith, enough))
whole_after_losses most limit rs (round ∷ rounds) some few short all enough =
    let after = kept_after_round rs round in
    let first = fit_all limit (arrived round.sent) rs (record { few = few; short = short }) (first_within most limit rs round some all.0) in
    let fit = fit_all limit (arrived round.sent_again) (keep_all rs (arrived round.sent)) first (again_within most limit rs round some all.0) in
    elim (one_exchange most limit rs round some (record { few = few; short = short }) all.0) [
      | inl whole ↦ whole_stays most limit after rounds some whole all.1
      | inr less ↦ whole_after_losses most limit after rounds some fit.few fit.short all.1 (omega (arith, less, enough))
    ]
