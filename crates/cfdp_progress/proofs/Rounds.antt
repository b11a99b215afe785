-- Rounds in which NAK PDUs are sent and answered: what is received follows the pure rounds of the NAK procedure, until the file is delivered.
use Rattle.std.proofs.Common.{◌≡◌, ◌⊎◌, inl, inr, ℕ, ◌+◌, ◌<◌, ◌≤◌, Bool, false, List, [], ◌∷◌, ◌++◌, length, refl, sym, ap, subst, ◌∙◌, arith}
use Rattle.std.proofs.lemmas.Bool.{cases_Bool, cases_lt}
use Rattle.std.proofs.lemmas.List.{length_push}
use Rattle.cfdp_status.specs.declared.transaction.TransactionId.{TransactionId}
use Rattle.cfdp_pdus.specs.declared.eof.Eof.{Eof}
use Rattle.cfdp_directives.specs.Reading.{NakFields}
use Rattle.cfdp_retransmission.specs.Coming.{keep_all}
use Rattle.cfdp_retransmission.specs.Naks.{SegmentRequest}
use Rattle.cfdp_retransmission.specs.Rounds.{Exchange, IsExchange, arrived, lost_of, kept_after_round, asked_for, AreRounds, after_rounds, lost_in, spare_round, WholeAfterLosses}
use Rattle.cfdp_retransmission.proofs.Hearing.{Within, within_sent}
use Rattle.cfdp_sessions.specs.Sessions.{SessionFields, AreDistinct}
use Rattle.cfdp_transactions.specs.Entry.{Entry}
use Rattle.cfdp_transactions.specs.Headline.{NextIsSound, NextIsPromised}
use Rattle.cfdp_transactions.specs.Received.{Received, pieces, gaps_below}
use Rattle.cfdp_transactions.specs.Sound.{Sound}
use Rattle.cfdp_receiver.specs.declared.mib.Mib.{Mib}
use Rattle.cfdp_receiver.specs.State.{State, Input, Expire}
use Rattle.cfdp_receiver.specs.Handing.{handed}
use Rattle.cfdp_receiver.specs.Turning.{most_nak_requests, parts, after_input, after_all}
use Rattle.cfdp_receiver.proofs.Distinct.{distinct_after}
use Rattle.cfdp_progress.specs.Awaiting.{WasDelivered}
use Rattle.cfdp_progress.specs.NakRounds.{requests_of_each, naks_of_opening, AreAnswered, IsServed, NakRound, round_inputs, AreNakRounds, all_lost, AreBelow, all_inputs, DeliveredAfterRounds, DeliveredAfterLosses}
use Rattle.cfdp_receiver.proofs.OthersStay.{run_sound, sound_all}
use Rattle.cfdp_progress.proofs.PieceOfAwaiting.{fits_of, few_of}
use Rattle.cfdp_progress.proofs.Runs.{Left, keep_both, over_inputs, still_awaits, before_of, distinct_all, mib_all, was_later, was_after, was_before, never_waits}
use Rattle.cfdp_progress.proofs.Turns.{Before}
use Rattle.cfdp_progress.proofs.Openings.{open_expire, open_first, limit_is_full}

-- ---- the rounds so far, as those of the pure procedure

pub record SoFar (most : ℕ) (rs : Received) (eof : Eof) (done : List Exchange) (e : Entry) : Type 0 where
  pub some : 1 ≤ most
  pub few : pieces rs ≤ 32
  pub fits : length rs ≤ eof.size
  pub rounds : AreRounds most eof.size rs done
  pub received : after_rounds rs done ≡ e.received

rounds_more : (most size : ℕ) (rs : Received) (done : List Exchange) (round : Exchange) → AreRounds most size rs done →
    IsExchange (asked_for most size (after_rounds rs done)) round → AreRounds most size rs (done ++ round ∷ [])
rounds_more most size rs [] round all is = (is, tt)
rounds_more most size rs (d ∷ done) round all is = (all.0, rounds_more most size (kept_after_round rs d) done round all.1 is)

after_more : (rs : Received) (done : List Exchange) (round : Exchange) →
    after_rounds rs (done ++ round ∷ []) ≡ kept_after_round (after_rounds rs done) round
after_more rs [] round = refl
after_more rs (d ∷ done) round = after_more (kept_after_round rs d) done round

pub lost_more : (done : List Exchange) (round : Exchange) → lost_in (done ++ round ∷ []) ≡ lost_in done + lost_of round
lost_more [] round = omega arith
lost_more (d ∷ done) round = omega (arith, lost_more done round)

pub one_more : (most : ℕ) (rs : Received) (eof : Eof) (done : List Exchange) (e new : Entry) (naks : List NakFields) (round : Exchange) →
    SoFar most rs eof done e → requests_of_each naks ≡ asked_for most eof.size e.received → IsExchange (requests_of_each naks) round →
    new.received ≡ kept_after_round e.received round → SoFar most rs eof (done ++ round ∷ []) new
one_more most rs eof done e new naks round so asks is kept =
    let now : requests_of_each naks ≡ asked_for most eof.size (after_rounds rs done) = asks ∙ ap (asked_for most eof.size) (sym so.received) in
    record {
      some = so.some;
      few = so.few;
      fits = so.fits;
      rounds = rounds_more most eof.size rs done round so.rounds (subst (λ (xs : List (List SegmentRequest)). IsExchange xs round) now is);
      received = after_more rs done round ∙ ap (λ (q : Received). kept_after_round q round) so.received ∙ sym kept;
    }

-- as long as it waits, no more rounds were made than is lost, and the spare one
pub not_enough : WholeAfterLosses →
    (R : State) (id : TransactionId) (e : Entry) (eof : Eof) (s : SessionFields) (most : ℕ) (rs : Received) (done : List Exchange) → Sound R.world →
    Before R id e eof s →
    SoFar most rs eof done e → length done ≤ lost_in done + spare_round rs
not_enough whole R id e eof s most rs done sound b so = elim (cases_lt (lost_in done + spare_round rs) (length done)) [
  | inl enough ↦
      absurd (never_waits R.world id e eof sound b.core
      (ap (gaps_below eof.size) (sym so.received) ∙ whole most eof.size rs done so.some so.few so.fits so.rounds enough))
  | inr less ↦ less
]

-- ---- one round, once it began

pub round_goes : NextIsSound → NextIsPromised →
    (N : State) (id : TransactionId) (e : Entry) (eof : Eof) (s : SessionFields) (most : ℕ) (naks : List NakFields) (round : Exchange) (rest : List Input) →
    Sound N.world → AreDistinct N.sessions → Before N id e eof s → 1 ≤ most → requests_of_each naks ≡ asked_for most eof.size e.received →
    AreAnswered N id naks round rest → WasDelivered N rest id ⊎ Left N rest id eof (kept_after_round e.received round) s.timer.count
round_goes next_sound promised N id e eof s most naks round rest sound d b some asks a =
    let within = within_sent most eof.size e.received round some (subst (λ (xs : List (List SegmentRequest)). IsExchange xs round) asks a.exchanged) in
    subst (λ (q : Received). WasDelivered N rest id ⊎ Left N rest id eof q s.timer.count)
    (ap (keep_all e.received) a.come ∙ keep_both e.received (arrived round.sent) (arrived round.sent_again))
    (over_inputs next_sound promised N rest id e eof s sound d b a.goes_on (subst (Within eof.size) (sym a.come) within))

-- ---- all of them

-- each begins below the limit; or the limit is above what is lost, and the timer has counted one less than there were rounds
abbrev IsSafeToAsk : ℕ → ℕ → Received → List Exchange → List NakRound → Type 0
IsSafeToAsk limit count rs done rounds =
    AreBelow rounds ⊎ ((count + 1 ≤ length done) × (lost_in done + all_lost rounds + spare_round rs < limit))

safe_rest : (limit count later : ℕ) (rs : Received) (done : List Exchange) (round : NakRound) (rounds : List NakRound) →
    IsSafeToAsk limit count rs done (round ∷ rounds) → later ≤ count + 1 → IsSafeToAsk limit later rs (done ++ round.exchange ∷ []) rounds
safe_rest limit count later rs done round rounds (inl below) few = inl below.1
safe_rest limit count later rs done round rounds (inr counted) few =
    inr (omega (arith, counted.0, few, length_push done round.exchange), omega (arith, counted.1, lost_more done round.exchange))

-- below the limit, or the limit is above what was lost so far
abbrev pub Room : Bool → ℕ → ℕ → Received → List Exchange → Type 0
Room is_at_limit limit count rs done =
    (is_at_limit ≡ false) ⊎ ((count + 1 ≤ length done) × (lost_in done + spare_round rs < limit))

pub is_below : WholeAfterLosses →
    (R : State) (id : TransactionId) (e : Entry) (eof : Eof) (s : SessionFields) (most : ℕ) (rs : Received) (done : List Exchange) (moment : ℕ)
    (is_at_limit : Bool) → Sound R.world → AreDistinct R.sessions → Before R id e eof s → SoFar most rs eof done e →
    Room is_at_limit R.mib.nak.limit s.timer.count rs done → IsServed R id moment is_at_limit → is_at_limit ≡ false
is_below whole R id e eof s most rs done moment is_at_limit sound d b so (inl below) served = below
is_below whole R id e eof s most rs done moment is_at_limit sound d b so (inr counted) served = elim (cases_Bool is_at_limit) [
  | inl limit ↦
      let full = limit_is_full R id e eof s moment d b (subst (IsServed R id moment) limit served) in
      absurd (omega (arith, full, counted.0, counted.1, not_enough whole R id e eof s most rs done sound b so))
  | inr below ↦ below
]

room_of : (limit count : ℕ) (rs : Received) (done : List Exchange) (round : NakRound) (rounds : List NakRound) →
    IsSafeToAsk limit count rs done (round ∷ rounds) → Room round.is_at_limit limit count rs done
room_of limit count rs done round rounds (inl below) = inl below.0
room_of limit count rs done round rounds (inr counted) = inr (counted.0, omega (arith, counted.1))

rounds_go : NextIsSound → NextIsPromised → WholeAfterLosses →
    (mib : Mib) (R : State) (id : TransactionId) (rounds : List NakRound) (e : Entry) (eof : Eof) (s : SessionFields) (rs : Received)
    (done : List Exchange) → R.mib ≡ mib → Sound R.world →
    AreDistinct R.sessions → Before R id e eof s → SoFar (most_nak_requests mib) rs eof done e → AreNakRounds R id rounds →
    IsSafeToAsk mib.nak.limit s.timer.count rs done rounds →
    lost_in done + all_lost rounds + spare_round rs < length done + length rounds → WasDelivered R (all_inputs rounds) id
rounds_go next_sound promised whole mib R id [] e eof s rs done same sound d b so are safe enough =
    absurd (omega (arith, enough, not_enough whole R id e eof s (most_nak_requests mib) rs done sound b so))
rounds_go next_sound promised whole mib R id (round ∷ rounds) e eof s rs done same sound d b so are safe enough =
    let most = most_nak_requests mib in
    let i = Expire round.moment in
    let N = after_input R i in
    let M = after_all N round.rest in
    let exchange = round.exchange in
    let naks = (parts R i).answer.naks in
    let is = are.0 (still_awaits R id e eof s b) in
    let room = room_of mib.nak.limit s.timer.count rs done round rounds safe in
    let low : round.is_at_limit ≡ false =
    is_below whole R id e eof s most rs done round.moment round.is_at_limit sound d b so
    (subst (λ (m : Mib). Room round.is_at_limit m.nak.limit s.timer.count rs done) (sym same) room) is.served in
    let opened = open_expire R id e eof s round.moment d b (subst (IsServed R id round.moment) low is.served) in
    let asks : requests_of_each naks ≡ asked_for most eof.size e.received =
    opened.asks ∙ ap (λ (m : Mib). asked_for (most_nak_requests m) eof.size e.received) same in
    let sound_now = run_sound next_sound R.world (handed R i) sound in
    let apart = distinct_after R i d in
    elim (round_goes next_sound promised N id e eof opened.session most naks exchange round.rest sound_now apart opened.before so.some asks is.answered) [
      | inl was ↦ was_before R (round_inputs round) (all_inputs rounds) id (was_later R i round.rest id was)
      | inr left ↦
          was_after R (round_inputs round) (all_inputs rounds) id (
          rounds_go next_sound promised whole mib M id rounds left.entry eof left.session rs (done ++ exchange ∷ [])
          (mib_all N round.rest ∙ same) (sound_all next_sound N round.rest sound_now)
          (distinct_all N round.rest apart) left.before
          (one_more most rs eof done e left.entry naks exchange so asks is.answered.exchanged left.kept) are.1
          (safe_rest mib.nak.limit s.timer.count left.session.timer.count rs done round rounds safe
          (omega (arith, left.few is.answered.once, opened.few)))
          (omega (arith, enough, lost_more done exchange, length_push done exchange))
          )
    ]

pub delivered_after_rounds : NextIsSound → NextIsPromised → WholeAfterLosses → DeliveredAfterRounds
delivered_after_rounds next_sound promised whole R id rounds e eof sound d some a are below enough =
    let b = before_of R id e eof a in
    rounds_go next_sound promised whole R.mib R id rounds e eof a.session e.received [] refl sound d b
    (record { some = some; few = few_of R.world id e eof sound a.core; fits = fits_of R.world id e eof sound a.core; rounds = tt; received = refl }) are
    (inl below)
    (omega (arith, enough))

safe_first : (limit count : ℕ) (rs : Received) (exchange : Exchange) (rounds : List NakRound) →
    AreBelow rounds ⊎ (lost_of exchange + all_lost rounds + spare_round rs < limit) → count ≤ 0 →
    IsSafeToAsk limit count rs (exchange ∷ []) rounds
safe_first limit count rs exchange rounds (inl below) few = inl below
safe_first limit count rs exchange rounds (inr room) few = inr (omega (arith, few), omega (arith, room))

pub delivered_after_losses : NextIsSound → NextIsPromised → WholeAfterLosses → DeliveredAfterLosses
delivered_after_losses next_sound promised whole R id first rounds e eof sound d some r are low enough =
    let i = first.opening in
    let N = after_input R i in
    let M = after_all N first.rest in
    let most = most_nak_requests R.mib in
    let exchange = first.exchange in
    let naks = naks_of_opening R i e in
    let opened = open_first R id i e eof r.opens r.awaits in
    let sound_now = run_sound next_sound R.world (handed R i) sound in
    let apart = distinct_after R i d in
    let begun : SoFar most e.received eof [] e =
    record {
      some = some;
      few = few_of N.world id e eof sound_now opened.before.core;
      fits = fits_of N.world id e eof sound_now opened.before.core;
      rounds =
          tt;
      received = refl;
    } in
    elim (round_goes next_sound promised N id e eof opened.session most naks exchange first.rest sound_now apart opened.before some opened.asks r.answered) [
      | inl was ↦ was_before R (i ∷ first.rest) (all_inputs rounds) id (was_later R i first.rest id was)
      | inr left ↦
          was_after R (i ∷ first.rest) (all_inputs rounds) id (
          rounds_go next_sound promised whole R.mib M id rounds left.entry eof left.session e.received (exchange ∷ [])
          (mib_all N first.rest) (sound_all next_sound N first.rest sound_now)
          (distinct_all N first.rest apart) left.before
          (one_more most e.received eof [] e left.entry naks exchange begun opened.asks r.answered.exchanged left.kept) are
          (safe_first R.mib.nak.limit left.session.timer.count e.received exchange rounds low (omega (arith, left.few r.answered.once, opened.few)))
          (omega (arith, enough))
          )
    ]
