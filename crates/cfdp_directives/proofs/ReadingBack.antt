-- What is written is read as it.
use Rattle.std.proofs.Common.{◌≡◌, ◌≤◌, ℕ, ◌+◌, ◌*◌, ◌/◌, ◌%◌, ◌==◌, List, [], ◌∷◌, ◌++◌, length, drop, ltb, Bool, true, false, Ok, inl, inr, refl, sym, ap, ◌∙◌, append_assoc, arith}
use Rattle.std.specs.List.{flat_map}
use Rattle.std.proofs.lemmas.Bool.{le-ltb}
use Rattle.std.proofs.lemmas.List.{append-nil, drop_at}
use Rattle.byteorder.specs.Endian.{big_bytes}
use Rattle.byteorder.specs.Numbers.{length-bytes_high_first}
use Rattle.cfdp_pdus.specs.Bits.{one_if, flag, fss}
use Rattle.cfdp_pdus.specs.Canonical.{IsHeader, first_octet, fourth_octet, pdu_octets}
use Rattle.cfdp_pdus.specs.First.{Start, number_at, header_at, start_at}
use Rattle.cfdp_pdus.specs.Grammar.{HasPdu, IsOther, SpellsField}
use Rattle.cfdp_pdus.specs.declared.header.Header.{Header}
use Rattle.cfdp_pdus.specs.declared.fault.PduFault.TheVariants.{LengthMismatch, Truncated}
use Rattle.cfdp_pdus.specs.declared.pdu.Pdu.TheVariants as pdus
use Rattle.cfdp_tlv.specs.Reading.{◌>>=◌}
use Rattle.cfdp_pdus.proofs.CanonicalSteps.{number_spelled, pdu_spelled, fss_small}
use Rattle.cfdp_pdus.proofs.NumberSteps.{number_again}
use Rattle.cfdp_directives.specs.declared.ack.Ack.{Ack}
use Rattle.cfdp_directives.specs.declared.ack.TransactionStatus.{TransactionStatus}
use Rattle.cfdp_directives.specs.declared.ack.TransactionStatus.TheVariants.{Undefined, Active, Terminated, Unrecognized}
use Rattle.cfdp_directives.specs.declared.keep_alive.KeepAlive.{KeepAlive}
use Rattle.cfdp_directives.specs.declared.prompt.Prompt.{Prompt}
use Rattle.cfdp_directives.specs.declared.prompt.Prompt.TheVariants as prompts
use Rattle.cfdp_directives.specs.declared.read.Directive.TheVariants as directives
use Rattle.cfdp_directives.specs.Laws.{AckReadsBack, NakReadsBack, PromptReadsBack, KeepAliveReadsBack}
use Rattle.cfdp_directives.specs.Reading.{status_code, status_coded, ack_at, prompt_at, keep_alive_at, directive_in, directive_spelled, directive_from, are_pairs, pair_len, pairs_in, pairs_at, pairs_from, nak_of, request_count}
use Rattle.cfdp_directives.specs.Spelling.{IsSizedKeepAlive, range_octets, ack_field, nak_field, prompt_flags, prompt_field, keep_alive_field}
use Rattle.cfdp_directives.proofs.Lengths.{range_len, ranges_len, nak_short}
use Rattle.cfdp_directives.proofs.Ranges.{range_again, ranges_again, are_whole, are_counted}

-- ---- the header

-- a PDU that is no file data has a directive's first octet
not_file_data : (file_data segment_metadata : Bool) (header : Header) (code : ℕ) (field : List ℕ)
    → SpellsField file_data segment_metadata field (pdus.NotOurs header code) → file_data ≡ false
not_file_data false segment_metadata header code field spelled = refl
not_file_data true segment_metadata header code field spelled = absurd spelled

-- what a directive begins with: no flag of the fourth octet counts in it
abbrev begun : Header → List ℕ → Start
begun header field = record { file_data = false; segment_metadata = flag 3 (fourth_octet header); header = header; field = field }

start_again : (header : Header) (code : ℕ) (octets : List ℕ) → IsHeader header → IsOther code → length (code ∷ octets) ≤ 65535
    → start_at (pdu_octets false header (code ∷ octets)) ≡ Ok (begun header (code ∷ octets))
unfolding start_at header_at
start_again header code octets is other short =
    let field = code ∷ octets in
    let first = first_octet false header in
    let fourth = fourth_octet header in
    let source = big_bytes header.id_len header.source in
    let number = big_bytes header.number_len header.number in
    let destination = big_bytes header.id_len header.destination in
    let len = length field in
    let says : HasPdu first (len / 256 % 256) (len % 256) fourth ((source ++ (number ++ destination)) ++ field) (pdus.NotOurs header code) =
    pdu_spelled false (pdus.NotOurs header code) field is short (refl, other) in
    let has = says.header in
    let version : (first / 32 == 1) ≡ true = rw has.version refl in
    let directive : flag 4 first ≡ false = not_file_data (flag 4 first) (flag 3 fourth) header code says.field says.spelled in
    let enough : ltb len (256 * (len / 256 % 256) + len % 256) ≡ false = le-ltb _ _ (omega (arith, short)) in
    let no_more : ltb (256 * (len / 256 % 256) + len % 256) len ≡ false = le-ltb _ _ (omega (arith, short)) in
    let parts : (source ++ (number ++ destination)) ++ field ≡ source ++ (number ++ (destination ++ field)) =
    append_assoc source (number ++ destination) field ∙ ap (λ (t : List ℕ). source ++ t) (append_assoc number destination field) in
    ap (λ (t : List ℕ). start_at (first ∷ (len / 256 % 256) ∷ (len % 256) ∷ fourth ∷ t)) parts
    ∙ rw (
      version,
      has.no_crc,
      ← has.id_len,
      ← has.number_len,
      number_again Truncated header.id_len source header.source (number ++ (destination ++ field)) (number_spelled header.id_len header.source is.source),
      number_again Truncated header.number_len number header.number (destination ++ field) (number_spelled header.number_len header.number is.number),
      number_again Truncated header.id_len destination header.destination field (number_spelled header.id_len header.destination is.destination),
      enough,
      no_more,
      directive,
      ← has.direction,
      ← has.mode,
      ← has.large,
    ) refl

directive_again : (header : Header) (code : ℕ) (octets : List ℕ) → IsHeader header → IsOther code → length (code ∷ octets) ≤ 65535
    → directive_spelled (pdu_octets false header (code ∷ octets)) ≡ directive_in header (code ∷ octets)
unfolding directive_spelled
directive_again header code octets is other short = ap (λ read. read >>= directive_from) (start_again header code octets is other short)

-- ---- ACK

kind_back : (directive : ℕ) (b : Bool) → (16 * directive + one_if b) / 16 ≡ directive
kind_back directive true = omega arith
kind_back directive false = omega arith

state_back : (condition : ℕ) (status : TransactionStatus) → (16 * condition + status_code status) / 16 ≡ condition
state_back condition Undefined = omega arith
state_back condition Active = omega arith
state_back condition Terminated = omega arith
state_back condition Unrecognized = omega arith

code_back : (condition : ℕ) (status : TransactionStatus) → (16 * condition + status_code status) % 4 ≡ status_code status
code_back condition Undefined = omega arith
code_back condition Active = omega arith
code_back condition Terminated = omega arith
code_back condition Unrecognized = omega arith

status_back : (status : TransactionStatus) → status_coded (status_code status) ≡ status
status_back Undefined = refl
status_back Active = refl
status_back Terminated = refl
status_back Unrecognized = refl

abbrev ack_of : ℕ → ℕ → TransactionStatus → Ack
ack_of directive condition status = record { directive = directive; condition = condition; status = status }

ack_in : (header : Header) (ack : Ack) → directive_in header (ack_field ack) ≡ Ok (directives.Ack header ack)
unfolding ack_field directive_in ack_at
ack_in header ack =
    let state = 16 * ack.condition + status_code ack.status in
    ap (λ (d : ℕ). Ok (directives.Ack header (ack_of d (state / 16) (status_coded (state % 4))))) (kind_back ack.directive (ack.directive == 5))
    ∙ ap (λ (c : ℕ). Ok (directives.Ack header (ack_of ack.directive c (status_coded (state % 4))))) (state_back ack.condition ack.status)
    ∙ ap (λ (s : TransactionStatus). Ok (directives.Ack header (ack_of ack.directive ack.condition s)))
    (ap status_coded (code_back ack.condition ack.status) ∙ status_back ack.status)

pub ack_reads_back : AckReadsBack
unfolding ack_field
ack_reads_back header ack is sized =
    let octets = (16 * ack.directive + one_if (ack.directive == 5)) ∷ (16 * ack.condition + status_code ack.status) ∷ [] in
    directive_again header 6 octets is (inl refl) (omega arith) ∙ ack_in header ack

-- ---- Prompt

prompt_in : (header : Header) (prompt : Prompt) → directive_in header (prompt_field prompt) ≡ Ok (directives.Prompt header prompt)
unfolding prompt_field directive_in prompt_at
prompt_in header prompts.Nak = refl
prompt_in header prompts.KeepAlive = refl

pub prompt_reads_back : PromptReadsBack
unfolding prompt_field
prompt_reads_back header prompt is =
    directive_again header 9 (prompt_flags prompt ∷ []) is (inr (inr (inl refl))) (omega arith) ∙ prompt_in header prompt

-- ---- Keep Alive

keep_alive_in : (header : Header) (keep_alive : KeepAlive)
    → IsSizedKeepAlive header.large keep_alive
    → directive_in header (keep_alive_field header.large keep_alive) ≡ Ok (directives.KeepAlive header keep_alive)
unfolding keep_alive_field directive_in keep_alive_at
keep_alive_in header keep_alive sized =
    let octets = big_bytes (fss header.large) keep_alive.progress in
    let read : number_at LengthMismatch (fss header.large) octets ≡ Ok (keep_alive.progress, []) =
    ap (number_at LengthMismatch (fss header.large)) (sym (append-nil octets))
    ∙ number_again LengthMismatch (fss header.large) octets keep_alive.progress [] (number_spelled (fss header.large) keep_alive.progress sized.progress) in
    rw read refl

pub keep_alive_reads_back : KeepAliveReadsBack
unfolding keep_alive_field
keep_alive_reads_back header keep_alive is sized =
    let octets = big_bytes (fss header.large) keep_alive.progress in
    let short : length (12 ∷ octets) ≤ 65535 = omega (arith, length-bytes_high_first (fss header.large) keep_alive.progress, fss_small header.large) in
    directive_again header 12 octets is (inr (inr (inr refl))) short ∙ keep_alive_in header keep_alive sized

-- ---- NAK

pairs_again : (header : Header) (octets : List ℕ) → IsHeader header → length (8 ∷ octets) ≤ 65535
    → pairs_at (pdu_octets false header (8 ∷ octets)) ≡ pairs_in header (8 ∷ octets)
unfolding pairs_at
pairs_again header octets is short = ap (λ read. read >>= pairs_from) (start_again header 8 octets is (inr (inl refl)) short)

pub nak_reads_back : NakReadsBack
unfolding nak_field pairs_in
nak_reads_back header scope requests is few sized_scope sized =
    let large = header.large in
    let rest = flat_map (range_octets large) requests in
    let octets = range_octets large scope ++ rest in
    let len : length octets ≡ pair_len large * (1 + length requests) =
    ranges_len large (scope ∷ requests) ∙ ap (λ (n : ℕ). pair_len large * n) (omega arith) in
    let short : length (8 ∷ octets) ≤ 65535 = omega (arith, len, nak_short large (length requests) few) in
    let whole : are_pairs large (length octets) ≡ true = ap (are_pairs large) len ∙ are_whole large (length requests) in
    let pairs : pairs_at (pdu_octets false header (8 ∷ octets)) ≡ Ok (header, octets) = pairs_again header octets is short ∙ rw whole refl in
    let counted : request_count large (length octets) ≡ length requests = ap (request_count large) len ∙ are_counted large (length requests) in
    let after : drop (pair_len large) octets ≡ rest = drop_at (range_octets large scope) rest (pair_len large) (range_len large scope) in
    ap (λ read. read >>= λ p. Ok (nak_of p)) pairs
    ∙ rw (counted, after, range_again large scope rest sized_scope, ranges_again large requests sized) refl
