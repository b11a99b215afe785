-- The offsets of a file that is received fit 32 bits, since its blocks fit the filestore.
use Rattle.std.specs.Prelude.{replicate, nat_le, if◌then◌else◌, All, IsTrue}
use Rattle.std.proofs.Common.{◌≡◌, inl, inr, ℕ, ◌+◌, ◌-◌, ◌^◌, ◌≤◌, ◌<◌, Bool, true, false, List, [], ◌∷◌, length, Option, Some, None, refl, sym, ap, subst, arith}
use Rattle.std.specs.Option.{option_map}
use Rattle.std.specs.List.{filter}
use Rattle.std.proofs.lemmas.Bool.{leb-true}
use Rattle.std.proofs.lemmas.List.{length-replicate}
use Rattle.std.proofs.lemmas.List.Elements.{All-cons, All-nil, All-head, All-filter}
use Rattle.cfdp_status.specs.declared.transaction.TransactionId.{TransactionId}
use Rattle.cfdp_actions.specs.Filestore.{blocks_of}
use Rattle.cfdp_pdus.specs.Bits.{fss}
use Rattle.cfdp_directives.specs.Spelling.{IsSizedRange}
use Rattle.cfdp_retransmission.specs.Naks.{SegmentRequest}
use Rattle.cfdp_states.specs.Alone.{stage}
use Rattle.cfdp_states.proofs.NextItem.{blocks-le-peak}
use Rattle.cfdp_actions.proofs.Weights.{blocks-stages}
use Rattle.cfdp_actions.proofs.Growth.{blocks_of-zero}
use Rattle.cfdp_actions.proofs.RowLaws.{blocks_of-fits}
use Rattle.cfdp_transactions.specs.declared.phase.Phase.{Phase}
use Rattle.cfdp_transactions.specs.declared.phase.Phase.TheVariants.{Receiving, Awaiting, Executing, Refused, Done, Ended}
use Rattle.cfdp_transactions.specs.Entry.{Entry, takes_data, rest, gaps, gaps_in, reach, reach_in, progress, awaited}
use Rattle.cfdp_transactions.specs.Received.{Received, gaps_below}
use Rattle.cfdp_transactions.specs.ReceivedLaws.{AreRuns, IsIn}
use Rattle.cfdp_transactions.proofs.Received.OctetsAndGaps.{gaps_are_missing, gaps_are_runs}
use Rattle.cfdp_transactions.specs.World.{World, index_of, entry_of}
use Rattle.cfdp_transactions.specs.Sound.{Sound, IsKept, longest, longest_in}
use Rattle.cfdp_receiver.specs.code.StateMachine.{IsTaking}
use Rattle.cfdp_receiver.specs.Turning.{progress_at, gaps_after}
use Rattle.cfdp_transactions.proofs.Soundness.EachEvent.{data_live}
use Rattle.std.proofs.lemmas.Option.{same_Some}

pub zeros : (n : ℕ) → length {A = ℕ} (replicate n 0) ≡ n
zeros n = length-replicate n 0

-- both are at most the longest list that may still come
within : (W : World) (e : Entry) (phase : Phase) → e.phase ≡ phase → IsTrue (takes_data phase) → length e.received ≤ length (longest_in phase W.config e) →
    reach_in phase e ≤ length (longest_in phase W.config e)
within W e Receiving is h fits = fits
within W e (Awaiting made) is h fits = omega (arith, zeros (awaited e.eof))
within W e (Executing n) is h fits = absurd cc
within W e Refused is h fits = absurd cc
within W e Done is h fits = absurd cc
within W e (Ended condition) is h fits = absurd cc

pub small : (W : World) (id : TransactionId) (e : Entry) → Sound W → W.config.blocks ≤ 65536 → entry_of W id ≡ Some e → IsTrue (takes_data e.phase) →
    (progress e < 2 ^ 32) × (reach e < 2 ^ 32)
small W id e sound few here taking =
    let kept : IsKept W.config W.filestore e = sound.live (index_of W id) e here (data_live e.phase taking) in
    let F = W.filestore in
    let x = longest W.config e in
    let given = sound.given (index_of W id) e here in
    let grows = blocks-stages F e.slot x kept.slot in
    let empties = blocks-stages F e.slot [] kept.slot in
    let peaks = blocks-le-peak W.config.prefixes (stage F e.slot x) e.slot (rest e) in
    let most : blocks_of (length x) ≤ 131072 = omega (arith, given, grows, empties, blocks_of-zero, peaks, kept.promise.blocks, sound.room, few) in
    let fits = blocks_of-fits (length x) in
    (omega (arith, most, fits, kept.fits), omega (arith, most, fits, within W e e.phase refl taking kept.fits))

pub fits_any : (large : Bool) (n : ℕ) → n < 2 ^ 32 → n < 256 ^ fss large
fits_any true n h = omega (arith, h)
fits_any false n h = h

-- each run that ends at the limit or before fits
sized_runs : (large : Bool) (limit from : ℕ) (rs : List SegmentRequest) → limit < 2 ^ 32 → AreRuns from rs → ((i : ℕ) → IsIn i rs → i < limit) →
    All (IsSizedRange large) rs
sized_runs large limit from [] small runs below = All-nil (IsSizedRange large)
sized_runs large limit from (r ∷ rs) small runs below =
    let last : r.1 - 1 < limit = below (r.1 - 1) (inl (omega (arith, runs.1), omega (arith, runs.1))) in
    All-cons (IsSizedRange large) r rs
    (record { start = fits_any large r.0 (omega (arith, last, runs.1, small)); end = fits_any large r.1 (omega (arith, last, runs.1, small)) })
    (sized_runs large limit (r.1 + 1) rs small runs.2 (λ i h. below i (inr h)))

sized_below : (large : Bool) (limit : ℕ) (received : Received) → limit < 2 ^ 32 → All (IsSizedRange large) (gaps_below limit received)
sized_below large limit received small =
    sized_runs large limit 0 (gaps_below limit received) small (gaps_are_runs limit received) (λ i h. ((gaps_are_missing limit received i).0 h).0)

sized_in : (large : Bool) (phase : Phase) (e : Entry) → (IsTrue (takes_data phase) → reach_in phase e < 2 ^ 32) → All (IsSizedRange large) (gaps_in phase e)
sized_in large Receiving e small = sized_below large (length e.received) e.received (small refl)
sized_in large (Awaiting made) e small = sized_below large (awaited e.eof) e.received (small refl)
sized_in large (Executing n) e small = All-nil (IsSizedRange large)
sized_in large Refused e small = All-nil (IsSizedRange large)
sized_in large Done e small = All-nil (IsSizedRange large)
sized_in large (Ended condition) e small = All-nil (IsSizedRange large)

reach_by : (phase : Phase) (e : Entry) → (IsTrue (takes_data phase) → reach_in phase e < 2 ^ 32) → reach_in phase e < 2 ^ 32
reach_by Receiving e small = small refl
reach_by (Awaiting made) e small = small refl
reach_by (Executing n) e small = omega arith
reach_by Refused e small = omega arith
reach_by Done e small = omega arith
reach_by (Ended condition) e small = omega arith

-- of any entry: where no file data is taken there are no gaps
pub sized_gaps : (W : World) (id : TransactionId) (e : Entry) → Sound W → W.config.blocks ≤ 65536 → entry_of W id ≡ Some e → (large : Bool) →
    All (IsSizedRange large) (gaps e) × (reach e < 256 ^ fss large)
sized_gaps W id e sound few here large =
    let short : IsTrue (takes_data e.phase) → reach_in e.phase e < 2 ^ 32 = λ taking. (small W id e sound few here taking).1 in
    (sized_in large e.phase e short, fits_any large (reach e) (reach_by e.phase e short))

pub progress_fits : (W : World) (id : TransactionId) (entry : Option Entry) → Sound W → W.config.blocks ≤ 65536 → entry_of W id ≡ entry → IsTaking entry →
    (large : Bool) → progress_at entry < 256 ^ fss large
progress_fits W id None sound few here taking large = fits_any large 0 (omega arith)
progress_fits W id (Some e) sound few here taking large = fits_any large (progress e) (small W id e sound few here taking).0

pub missing_fit : (W : World) (id : TransactionId) (low : ℕ) (entry : Option Entry) (rs : List SegmentRequest) → Sound W → W.config.blocks ≤ 65536 →
    entry_of W id
    ≡ entry →
    Some rs ≡ option_map (gaps_after low) entry → (large : Bool) → All (IsSizedRange large) rs
missing_fit W id low None rs sound few here made large = absurd cc
missing_fit W id low (Some e) rs sound few here made large =
    subst (All (IsSizedRange large)) (sym (same_Some rs (gaps_after low e) made))
    (All-filter (λ (g : SegmentRequest). nat_le low g.0) (IsSizedRange large) (gaps e) (sized_gaps W id e sound few here large).0)

pub reach_fits : (W : World) (id : TransactionId) (entry : Option Entry) (high : ℕ) → Sound W → W.config.blocks ≤ 65536 → entry_of W id ≡ entry →
    Some high ≡ option_map reach entry → (large : Bool) → high < 256 ^ fss large
reach_fits W id None high sound few here made large = absurd cc
reach_fits W id (Some e) high sound few here made large =
    subst (λ (n : ℕ). n < 256 ^ fss large) (sym (same_Some high (reach e) made)) (sized_gaps W id e sound few here large).1

low_at : (low : ℕ) (g : SegmentRequest) (gs rs : List SegmentRequest) (large kept : Bool) → nat_le low g.0 ≡ kept → rs ≡ (if kept then g ∷ gs else gs) →
    0 < length rs →
    All (IsSizedRange large) rs →
    (rs ≡ gs → low < 256 ^ fss large) → low < 256 ^ fss large
low_at low g gs rs large true is same some sized later =
    let first : IsSizedRange large g = All-head (IsSizedRange large) g gs (subst (All (IsSizedRange large)) same sized) in
    omega (arith, leb-true low g.0 is, first.start)
low_at low g gs rs large false is same some sized later = later same

low_in : (low : ℕ) (gs rs : List SegmentRequest) (large : Bool) → rs ≡ filter (λ (g : SegmentRequest). nat_le low g.0) gs → 0 < length rs → All
    (IsSizedRange large) rs →
    low < 256 ^ fss large
low_in low [] rs large same some sized = absurd (omega (arith, some, ap length same))
low_in low (g ∷ gs) rs large same some sized =
    low_at low g (filter (λ (g : SegmentRequest). nat_le low g.0) gs) rs large (nat_le low g.0) refl same some sized (λ e. low_in low gs rs large e some sized)

-- an offset at which or after which a gap begins
pub low_fits : (W : World) (id : TransactionId) (low : ℕ) (entry : Option Entry) (rs : List SegmentRequest) → Sound W → W.config.blocks ≤ 65536 → entry_of W id
    ≡ entry →
    Some rs ≡ option_map (gaps_after low) entry → 0 < length rs → (large : Bool) → low < 256 ^ fss large
low_fits W id low None rs sound few here made some large = absurd cc
low_fits W id low (Some e) rs sound few here made some large =
    low_in low (gaps e) rs large (same_Some rs (gaps_after low e) made) some (missing_fit W id low (Some e) rs sound few here made large)
