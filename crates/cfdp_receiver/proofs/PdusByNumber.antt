-- The PDUs of an answer, by their numbers.
use Rattle.std.specs.Prelude.{All, slice_get, IfOk, IfErr, IfSome, IfNone, OnErr, OnSome, IsSome, IsOk, Result, Ok, Err, ◌↔◌}
use Rattle.std.specs.List.{AllByRecursion}
use Rattle.std.specs.Option.{option_map}
use Rattle.std.specs.Result.{result_unwrap_or}
use Rattle.std.proofs.Common.{◌≡◌, ◌≢◌, inl, inr, ℕ, zero, suc, ◌+◌, ◌-◌, ◌*◌, ◌/◌, ◌^◌, ◌<◌, ◌≤◌, ◌==◌, Bool, true, false, List, [], ◌∷◌, ◌++◌, map, length}
use Rattle.std.proofs.Common.{take, drop, Option, Some, None, refl, sym, ap, subst, ◌∙◌, append_assoc, arith}
use Rattle.std.proofs.Math.Nat.{mul-add-div}
use Rattle.std.proofs.Math.Seq.{drop-append_seam}
use Rattle.std.proofs.lemmas.Bool.{cases_lt, cond-true, lt-leb, false≢true}
use Rattle.std.proofs.lemmas.List.{take_at, take-append-le, drop-append-le, take-append-drop, drop-drop, length-append, length-take, length-drop, length-map}
use Rattle.std.proofs.lemmas.Nat.{div-mul-add}
use Rattle.std.proofs.lemmas.List.Elements.{All-take, All-drop, All-get_or}
use Rattle.cfdp_crc.specs.Seal.{plain_len, sealed}
use Rattle.cfdp_crc.specs.declared.sealing.SealFault.{SealFault}
use Rattle.cfdp_crc.specs.declared.sealing.SealFault.TheVariants.{NotAPdu, HasCrc, TooLong, NoRoom}
use Rattle.cfdp_pdus.specs.Bits.{fss}
use Rattle.cfdp_pdus.specs.Canonical.{IsHeader}
use Rattle.cfdp_transactions.specs.Writable.{longest_finished}
use Rattle.cfdp_pdus.specs.BufferParts.{filled}
use Rattle.cfdp_pdus.specs.declared.header.Header.{Header}
use Rattle.cfdp_pdus.proofs.WriteSteps.{location_len, pdu_len}
use Rattle.cfdp_directives.proofs.Lengths.{nak_len}
use Rattle.cfdp_directives.specs.Reading.{NakFields, pair_len}
use Rattle.cfdp_directives.specs.Spelling.{IsSizedRange, ack_field, ack_pdu, keep_alive_field, keep_alive_pdu, nak_field, nak_pdu}
use Rattle.cfdp_directives.specs.declared.ack.Ack.{Ack}
use Rattle.cfdp_directives.specs.declared.keep_alive.KeepAlive.{KeepAlive}
use Rattle.cfdp_retransmission.specs.Naks.{SegmentRequest, Nak, front_end, scope_of, naks_in, naks}
use Rattle.cfdp_receiver.specs.declared.receiver.NotWritten.{NotWritten}
use Rattle.cfdp_receiver.specs.declared.receiver.NotWritten.TheVariants.{NoMore, TooShort}
use Rattle.cfdp_receiver.specs.declared.mib.Mib.{Mib}
use Rattle.cfdp_receiver.specs.StateMachine.{AnswerParts, StateMachineFields, finished_for, listed}
use Rattle.cfdp_receiver.specs.code.StateMachine.{sequence_of}
use Rattle.cfdp_receiver.specs.Sent.{IsNotWritten, as_sent, pdus_of, sealed_or}
use Rattle.cfdp_receiver.specs.code.Sent.{after_ack, nak_octets}
use Rattle.cfdp_pdus.proofs.CanonicalSteps.{fss_small}
use Rattle.cfdp_retransmission.proofs.Sequences.{less, last_one, next_one}

-- ---- a sequence of NAK PDUs

-- whatever the fuel is, where it is enough
same_fuel : (a b most low high : ℕ) (rs : List SegmentRequest) → 1 ≤ most → length rs < a → length rs < b → naks_in a most low high rs
    ≡ naks_in b most low high rs
same_fuel zero b most low high rs some ha hb = absurd (omega arith)
same_fuel (suc a) zero most low high rs some ha hb = absurd (omega arith)
same_fuel (suc a) (suc b) most low high rs some ha hb = elim (cases_lt most (length rs)) [
  | inl long ↦
      next_one a most low high rs long
      ∙ ap (λ (tail : List Nak). record { scope = (low, front_end most rs); requests = take most rs } ∷ tail)
      (same_fuel a b most (front_end most rs) high (drop most rs) some (less a most rs some ha long) (less b most rs some hb long))
      ∙ sym (next_one b most low high rs long)
  | inr short ↦ last_one a most low high rs short ∙ sym (last_one b most low high rs short)
]

fueled : (most low high : ℕ) (rs : List SegmentRequest) → naks most low high rs ≡ naks_in (suc (length rs)) most low high rs
fueled most low high rs =
    let one_more : 1 + length rs ≡ suc (length rs) = omega arith in
    ap (λ (fuel : ℕ). naks_in fuel most low high rs) one_more

-- the first PDU, and then those of what is left
naks_next : (most low high : ℕ) (rs : List SegmentRequest) → 1 ≤ most → most < length rs →
    naks most low high rs ≡ record { scope = (low, front_end most rs); requests = take most rs } ∷ naks most (front_end most rs) high (drop most rs)
naks_next most low high rs some long =
    fueled most low high rs
    ∙ next_one (length rs) most low high rs long
    ∙ ap (λ (tail : List Nak). record { scope = (low, front_end most rs); requests = take most rs } ∷ tail)
    (same_fuel (length rs) (1 + length (drop most rs)) most (front_end most rs) high (drop most rs) some (omega (arith, length-drop most rs)) (omega arith))

get_next : {X : Type 0} (x : X) (xs : List X) (n : ℕ) → 1 ≤ n → slice_get (x ∷ xs) n ≡ slice_get xs (n - 1)
get_next x xs zero h = absurd (omega arith)
get_next x xs (suc n) h = let e : suc n - 1 ≡ n = omega arith in rw e refl

pub part_next : (most low high number : ℕ) (rs rest : List SegmentRequest) (scope : SegmentRequest) → 1 ≤ most → 1 ≤ number →
    scope ≡ scope_of most low high rs → rest ≡ drop most rs → 1 ≤ length rest →
    slice_get (naks most low high rs) number ≡ slice_get (naks most scope.1 high rest) (number - 1)
part_next most low high number rs rest scope some later s r more =
    let long : most < length rs = omega (arith, length-drop most rs, ap (λ (xs : List SegmentRequest). length xs) r) in
    let is : scope_of most low high rs ≡ (low, front_end most rs) = rw (lt-leb (length rs) most long) refl in
    let end : scope.1 ≡ front_end most rs = ap (λ (x : SegmentRequest). x.1) (s ∙ is) in
    ap (λ (xs : List Nak). slice_get xs number) (naks_next most low high rs some long)
    ∙ get_next _ (naks most (front_end most rs) high (drop most rs)) number later
    ∙ ap (λ (end : ℕ). slice_get (naks most end high (drop most rs)) (number - 1)) (sym end)
    ∙ ap (λ (xs : List SegmentRequest). slice_get (naks most scope.1 high xs) (number - 1)) (sym r)

pub not_empty : (rs : List SegmentRequest) → false ≡ (length rs == 0) → 1 ≤ length rs
not_empty [] e = absurd (false≢true e)
not_empty (r ∷ rs) e = omega arith

-- how many there are
counted_in : (more most low high : ℕ) (rs : List SegmentRequest) → 1 ≤ most → length rs < more → length (naks_in more most low high rs) ≡ 1 +
    (length rs - 1) / most
counted_in zero most low high rs some fuel = absurd (omega arith)
counted_in (suc more) most low high rs some fuel = elim (cases_lt most (length rs)) [
  | inl long ↦
      let rest = drop most rs in
      let step : length rs - 1 ≡ most * 1 + (length rest - 1) = omega (arith, length-drop most rs) in
      let ih : length (naks_in more most (front_end most rs) high rest) ≡ 1 + (length rest - 1) / most =
      counted_in more most (front_end most rs) high rest some (less more most rs some fuel long) in
      let quotient : (length rs - 1) / most ≡ 1 + (length rest - 1) / most = ap (λ (n : ℕ). n / most) step ∙ mul-add-div some 1 (length rest - 1) in
      ap (λ (xs : List Nak). length xs) (next_one more most low high rs long) ∙ omega (arith, ih, quotient)
  | inr short ↦
      let padded : length rs - 1 ≡ 0 * most + (length rs - 1) = omega arith in
      let none : (length rs - 1) / most ≡ 0 = ap (λ (n : ℕ). n / most) padded ∙ div-mul-add 0 most (length rs - 1) (omega arith) in
      ap (λ (xs : List Nak). length xs) (last_one more most low high rs short) ∙ omega (arith, none)
]

pub counted : (h : Header) (most low high : ℕ) (rs : List SegmentRequest) → 1 ≤ most → length (sequence_of h most low high rs) ≡ 1 + (length rs - 1) / most
counted h most low high rs some = length-map (naks most low high rs) _ ∙ counted_in (1 + length rs) most low high rs some (omega arith)

-- each fits a PDU
pub record FitsPdu (large : Bool) (n : ℕ) (nak : Nak) : Type 0 where
  pub scope : IsSizedRange large nak.scope
  pub sized : All (IsSizedRange large) nak.requests
  pub few : length nak.requests ≤ n

fits_in : (large : Bool) (n more most low high : ℕ) (rs : List SegmentRequest) → low < 256 ^ fss large → high < 256 ^ fss large → All (IsSizedRange large) rs →
    length rs ≤ n → AllByRecursion (FitsPdu large n) (naks_in more most low high rs)
fits_in large n zero most low high rs is_low is_high sized few = tt
fits_in large n (suc more) most low high rs is_low is_high sized few = elim (cases_lt most (length rs)) [
  | inl long ↦
      let end : front_end most rs < 256 ^ fss large = (All-get_or (IsSizedRange large) rs (most - 1) (0, 0) (omega (arith, long)) sized).end in
      subst (AllByRecursion (FitsPdu large n)) (sym (next_one more most low high rs long)) (
        record {
          scope = record { start = is_low; end = end };
          sized = All-take (IsSizedRange large) most rs sized;
          few = omega (arith, length-take most rs, few);
        },
        fits_in large n more most (front_end most rs) high (drop most rs) end is_high (All-drop (IsSizedRange large) most rs sized)
            (omega (arith, length-drop most rs, few)),
      )
  | inr short ↦
      subst (AllByRecursion (FitsPdu large n)) (sym (last_one more most low high rs short)) (
        record { scope = record { start = is_low; end = is_high }; sized = sized; few = few },
        tt,
      )
]

by_number : {X : Type 0} (P : X → Type 0) (xs : List X) (i : ℕ) (x : X) → AllByRecursion P xs → slice_get xs i ≡ Some x → P x
by_number P [] i x all e = absurd (cc)
by_number P (y ∷ ys) zero x all e = subst P (cc) all.0
by_number P (y ∷ ys) (suc i) x all e = by_number P ys i x all.1 e

pub fits_pdu : (h : Header) (most low high number : ℕ) (rs requests : List SegmentRequest) (scope : SegmentRequest) → low < 256 ^ fss h.large →
    high < 256 ^ fss h.large →
    All (IsSizedRange h.large) rs → slice_get (naks most low high rs) number ≡ Some (record { scope = scope; requests = requests }) →
    FitsPdu h.large (length rs) (record { scope = scope; requests = requests })
fits_pdu h most low high number rs requests scope is_low is_high sized e =
    by_number (FitsPdu h.large (length rs)) (naks most low high rs) number _
    (fits_in h.large (length rs) (1 + length rs) most low high rs is_low is_high sized (omega arith)) e

-- the octets of the PDU with a number
octets_at : (h : Header) (xs : List Nak) (number : ℕ) →
    slice_get (map nak_octets (map (λ (nak : Nak). record { header = h; scope = nak.scope; requests = nak.requests }) xs)) number
    ≡ option_map (λ (nak : Nak). nak_pdu h nak.scope nak.requests) (slice_get xs number)
octets_at h [] number = refl
octets_at h (x ∷ xs) zero = refl
octets_at h (x ∷ xs) (suc number) = octets_at h xs number

pub sequence_at : (h : Header) (most low high number : ℕ) (rs : List SegmentRequest) (now : List NakFields) (nak : Option Nak) → now
    ≡ sequence_of h most low high rs →
    slice_get (naks most low high rs) number ≡ nak → slice_get (map nak_octets now) number ≡ option_map (λ (nak : Nak). nak_pdu h nak.scope nak.requests) nak
sequence_at h most low high number rs now nak view here =
    ap (λ (xs : List NakFields). slice_get (map nak_octets xs) number) view
    ∙ octets_at h (naks most low high rs) number
    ∙ ap (option_map (λ (nak : Nak). nak_pdu h nak.scope nak.requests)) here

-- ---- what is written

pub record IsPut (found : Option (List ℕ)) (old new : List ℕ) (r : Result ℕ NotWritten) : Type 0 where
  pub ok : IfOk r (λ len. found ≡ Some (take len new))
  pub room : IfOk r (λ len. len ≤ length old)
  pub rest : IfOk r (λ len. drop len new ≡ drop len old)
  pub err : IfErr r (IsNotWritten 0 found (length old))
  pub unchanged : OnErr r (new ≡ old)

too_short : (octets old : List ℕ) (found : Option (List ℕ)) (why : NotWritten) → found ≡ Some octets → why ≡ TooShort → length old < length octets →
    IsNotWritten 0 found (length old) why
too_short octets old found why is reason short = rw (is, reason) (omega arith)

pub put_is : (octets old new : List ℕ) (r : Option ℕ) (result : Result ℕ NotWritten) (found : Option (List ℕ)) → found ≡ Some octets →
    IsSome r ↔ (length octets ≤ length old) → IfSome r (λ len. len ≡ length octets) → OnSome r (new ≡ filled octets old) → IfNone r (new ≡ old) →
    IfOk result (λ n. r ≡ Some n) → IfErr result (λ why. (r ≡ None) × (why ≡ TooShort)) → IsPut found old new result
put_is octets old new (Some m) (Ok n) found is fits len written unchanged ok err =
    let same : m ≡ n = cc in
    record {
      ok = is ∙ ap Some (sym (ap (take n) written ∙ take_at octets (drop (length octets) old) n (omega (arith, same, len))));
      room = omega (arith, same, len, fits.0 refl);
      rest =
          ap (λ (k : ℕ). drop k new) (sym same ∙ len)
          ∙ ap (drop (length octets)) written
          ∙ drop-append_seam octets (drop (length octets) old)
          ∙ ap (λ (k : ℕ). drop k old) (sym len ∙ same);
      err = tt;
      unchanged = tt;
    }
put_is octets old new None (Ok n) found is fits len written unchanged ok err = absurd (cc)
put_is octets old new (Some m) (Err why) found is fits len written unchanged ok err = absurd (cc)
put_is octets old new None (Err why) found is fits len written unchanged ok err =
    let short : length old < length octets = elim (cases_lt (length old) (length octets)) [
      | inl short ↦ short
      | inr long ↦ absurd (false≢true (fits.1 long))
    ] in
    record { ok = tt; room = tt; rest = tt; err = too_short octets old found why is err.1 short; unchanged = unchanged }

regrouped : (a b c d : List (List ℕ)) → ((a ++ b) ++ c) ++ d ≡ a ++ (b ++ (c ++ d))
regrouped a b c d = simp append_assoc

by_parts : (M : StateMachineFields) (a : AnswerParts) → pdus_of M a ≡ map (λ (x : Header × Ack). ack_pdu x.0 x.1) a.acks ++ after_ack M a
by_parts M a =
    regrouped (map (λ (x : Header × Ack). ack_pdu x.0 x.1) a.acks) (map nak_octets a.naks)
    (map (λ (x : Header × KeepAlive). keep_alive_pdu x.0 x.1) a.keep_alives) (map (finished_for M) a.finished)

-- where the ACK PDU is there, those after it
pub put_next : (M : StateMachineFields) (a : AnswerParts) (acks : Option (Header × Ack)) (x : Header × Ack) (number : ℕ) → a.acks ≡ listed acks → acks ≡ Some x
    →
    1 ≤ number → slice_get (pdus_of M a) number ≡ slice_get (after_ack M a) (number - 1)
put_next M a acks x number view is later =
    ap (λ (xs : List (List ℕ)). slice_get xs number) (by_parts M a)
    ∙ ap (λ (xs : List (Header × Ack)). slice_get (map (λ (y : Header × Ack). ack_pdu y.0 y.1) xs ++ after_ack M a) number) (view ∙ ap listed is)
    ∙ get_next (ack_pdu x.0 x.1) (after_ack M a) number later

-- ---- with a CRC

nothing_sealed : IsOk (sealed []) → ⊥
unfolding plain_len
nothing_sealed e = false≢true e

nothing_left : (old part : List ℕ) (len room : ℕ) → len ≤ length part → room ≡ length old - 2 → length part ≡ length (take room old) →
    length (part ++ drop room old) < len + 2 → len ≡ 0
nothing_left old part len room short is same h =
    omega (arith, length-append part (drop room old), length-drop room old, length-take room old, short, is, same, h)

record IsSealed (buffer new : List ℕ) (len : ℕ) (r : Result ℕ SealFault) : Type 0 where
  ok : IfOk r (λ whole. sealed (take len buffer) ≡ Ok (take whole new))
  err : IfErr r (λ fault. fault ≢ NoRoom → sealed (take len buffer) ≡ Err fault)
  no_room : r ≡ Err NoRoom → length buffer < len + 2
  no_room_last : r ≡ Err NoRoom → IsOk (sealed (take len buffer))
  unchanged : OnErr r (new ≡ buffer)

sealed_by_fault : (octets buffer new : List ℕ) (len n : ℕ) (fault : SealFault) → take len buffer ≡ octets → sealed (take len buffer) ≡ Err fault →
    new ≡ buffer → n ≡ len → sealed_or octets (sealed octets) ≡ take n new
sealed_by_fault octets buffer new len n fault front e kept is =
    ap (sealed_or octets) (ap sealed (sym front) ∙ e) ∙ sym front ∙ ap (take len) (sym kept) ∙ ap (λ (k : ℕ). take k new) (sym is)

sealed_by : (octets buffer new : List ℕ) (len n : ℕ) (r : Result ℕ SealFault) → take len buffer ≡ octets → IsSealed buffer new len r →
    (length buffer < len + 2 → len ≡ 0) → n ≡ result_unwrap_or r len → sealed_or octets (sealed octets) ≡ take n new
sealed_by octets buffer new len n (Ok whole) front h left is =
    ap (sealed_or octets) (ap sealed (sym front) ∙ h.ok) ∙ ap (λ (k : ℕ). take k new) (sym is)
sealed_by octets buffer new len n (Err NotAPdu) front h left is =
    sealed_by_fault octets buffer new len n NotAPdu front (h.err (λ e. absurd (cc))) h.unchanged is
sealed_by octets buffer new len n (Err HasCrc) front h left is =
    sealed_by_fault octets buffer new len n HasCrc front (h.err (λ e. absurd (cc))) h.unchanged is
sealed_by octets buffer new len n (Err TooLong) front h left is =
    sealed_by_fault octets buffer new len n TooLong front (h.err (λ e. absurd (cc))) h.unchanged is
sealed_by octets buffer new len n (Err NoRoom) front h left is =
    absurd (nothing_sealed (subst (λ (k : ℕ). IsOk (sealed (take k buffer))) (left (h.no_room refl)) (h.no_room_last refl)))

pub sent_is : (mib : Mib) (found : Option (List ℕ)) (old part new : List ℕ) (len room n : ℕ) (r : Result ℕ SealFault) → mib.has_crc ≡ true →
    found ≡ Some (take len part) → len ≤ length (take room old) → room ≡ length old - 2 → length part ≡ length (take room old) →
    IfOk r (λ whole. sealed (take len (part ++ drop room old)) ≡ Ok (take whole new)) →
    IfErr r (λ fault. fault ≢ NoRoom → sealed (take len (part ++ drop room old)) ≡ Err fault) →
    (r ≡ Err NoRoom → length (part ++ drop room old) < len + 2) → (r ≡ Err NoRoom → IsOk (sealed (take len (part ++ drop room old)))) →
    OnErr r (new ≡ part ++ drop room old) → n ≡ result_unwrap_or r len →
    (octets : List ℕ) × (found ≡ Some octets) × (as_sent mib octets ≡ take n new)
sent_is mib found old part new len room n r crc is fits left same ok err no_room last unchanged last_is =
    let octets = take len part in
    let short : len ≤ length part = omega (arith, fits, same) in
    let front : take len (part ++ drop room old) ≡ octets = take-append-le len part (drop room old) short in
    let h : IsSealed (part ++ drop room old) new len r = record { ok = ok; err = err; no_room = no_room; no_room_last = last; unchanged = unchanged } in (
      octets,
      is,
      cond-true mib.has_crc (sealed_or octets (sealed octets)) octets crc
          ∙ sealed_by octets (part ++ drop room old) new len n r front h (nothing_left old part len room short left same) last_is,
    )

-- within the buffer
pub sent_within : (old part new : List ℕ) (len room n : ℕ) (r : Result ℕ SealFault) → len ≤ length (take room old) → room ≡ length old - 2 →
    IfOk r (λ whole. sealed (take len (part ++ drop room old)) ≡ Ok (take whole new)) → IfOk r (λ whole. whole ≡ len + 2) → n ≡ result_unwrap_or r len →
    n ≤ length old
sent_within old part new len room n (Err fault) fits left ok is last = omega (arith, length-take room old, fits, last)
sent_within old part new len room n (Ok whole) fits left ok is last = elim (cases_lt (length old) 2) [
  | inl short ↦
      let none : len ≡ 0 = omega (arith, length-take room old, fits, left, short) in
      let done : IsOk (sealed (take len (part ++ drop room old))) = subst IsOk (sym ok) refl in
      absurd (nothing_sealed (subst (λ (k : ℕ). IsOk (sealed (take k (part ++ drop room old)))) none done))
  | inr long ↦ omega (arith, length-take room old, fits, left, long, is, last)
]

-- the octets after a PDU in the front of a buffer
kept_after : (old part : List ℕ) (len room : ℕ) → len ≤ length (take room old) → length part ≡ length (take room old) →
    drop len part ≡ drop len (take room old) → drop len (part ++ drop room old) ≡ drop len old
kept_after old part len room fits same kept =
    drop-append-le len part (drop room old) (omega (arith, fits, same))
    ∙ ap (λ (xs : List ℕ). xs ++ drop room old) kept
    ∙ sym (drop-append-le len (take room old) (drop room old) fits)
    ∙ ap (drop len) (take-append-drop room old)

pub sent_rest : (old part new : List ℕ) (len room n : ℕ) (r : Result ℕ SealFault) → len ≤ length (take room old) → length part ≡ length (take room old) →
    drop len part ≡ drop len (take room old) → IfOk r (λ whole. whole ≡ len + 2) →
    IfOk r (λ whole. drop whole new ≡ drop whole (part ++ drop room old)) → OnErr r (new ≡ part ++ drop room old) → n ≡ result_unwrap_or r len →
    drop n new ≡ drop n old
sent_rest old part new len room n (Err fault) fits same kept is rest unchanged last =
    ap (drop n) unchanged
    ∙ ap (λ (k : ℕ). drop k (part ++ drop room old)) last
    ∙ kept_after old part len room fits same kept
    ∙ ap (λ (k : ℕ). drop k old) (sym last)
sent_rest old part new len room n (Ok whole) fits same kept is rest unchanged last =
    let further : (xs : List ℕ) → drop n xs ≡ drop 2 (drop len xs) =
    λ xs. ap (λ (k : ℕ). drop k xs) (last ∙ is) ∙ sym (drop-drop 2 len xs) in
    ap (λ (k : ℕ). drop k new) last
    ∙ rest
    ∙ ap (λ (k : ℕ). drop k (part ++ drop room old)) (sym last)
    ∙ further (part ++ drop room old)
    ∙ ap (drop 2) (kept_after old part len room fits same kept)
    ∙ sym (further old)

-- ---- room that is always enough

ack_length : (h : Header) (ack : Ack) → length (ack_pdu h ack) ≡ 4 + 2 * h.id_len + h.number_len + 3
unfolding ack_field
ack_length h ack = pdu_len false h (ack_field ack)

pub ack_short : (h : Header) (ack : Ack) → IsHeader h → length (ack_pdu h ack) ≤ longest_finished
ack_short h ack is = omega (arith, ack_length h ack, is.id_high, is.number_high)

-- the progress has as many octets as in a fault location
keep_alive_length : (h : Header) (k : KeepAlive) → length (keep_alive_pdu h k) ≡ 4 + 2 * h.id_len + h.number_len + (1 + fss h.large)
unfolding keep_alive_field
keep_alive_length h k = omega (arith, pdu_len false h (keep_alive_field h.large k), location_len (fss h.large) k.progress)

pub keep_alive_short : (h : Header) (k : KeepAlive) → IsHeader h → length (keep_alive_pdu h k) ≤ longest_finished
keep_alive_short h k is = omega (arith, keep_alive_length h k, fss_small h.large, is.id_high, is.number_high)

field_short : (large : Bool) (n : ℕ) → n ≤ 33 → 1 + pair_len large * (1 + n) ≤ 545
field_short true n few = omega arith
field_short false n few = omega arith

pub nak_short : (h : Header) (scope : SegmentRequest) (rs : List SegmentRequest) → IsHeader h → length rs ≤ 33 → length (nak_pdu h scope rs) ≤ longest_finished
nak_short h scope rs is few =
    omega (arith, pdu_len false h (nak_field h.large scope rs), nak_len h.large scope rs, field_short h.large (length rs) few, is.id_high, is.number_high)

pub put_enough : (octets old : List ℕ) (r : Option ℕ) (result : Result ℕ NotWritten) → IsSome r ↔ (length octets ≤ length old) →
    IfOk result (λ n. r ≡ Some n) → IfErr result (λ why. (r ≡ None) × (why ≡ TooShort)) → length octets ≤ longest_finished → longest_finished ≤ length old →
    IfErr result (λ why. why ≡ NoMore)
put_enough octets old r (Ok n) fits ok err short room = tt
put_enough octets old (Some m) (Err why) fits ok err short room = absurd (cc)
put_enough octets old None (Err why) fits ok err short room = absurd (false≢true (fits.1 (omega (arith, short, room))))
