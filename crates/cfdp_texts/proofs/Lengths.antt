-- How long what is written of a reply is.
--     IsNarrow              each number of a reply that hands out no outcome is as wide as its type
--     reply_line_len        its line has at most 101 octets
--     taken_line_len        the line of an outcome has two digits for each octet of its Finished PDU, or the condition code
use Rattle.std.proofs.Common.{◌≡◌, ℕ, ◌+◌, ◌*◌, ◌^◌, ◌≤◌, ◌<◌, List, [], ◌∷◌, ◌++◌, length, refl, arith}
use Rattle.std.specs.Prelude.{⊤, codes, decimal, max}
use Rattle.std.proofs.lemmas.Fmt.{length-decimal-le}
use Rattle.std.proofs.lemmas.List.{length-append}
use Rattle.hex.specs.Hex.{encode_lower, encode_with}
use Rattle.cfdp_status.specs.Codes.{octet_of}
use Rattle.cfdp_status.specs.Transaction.{transaction_name}
use Rattle.cfdp_status.specs.declared.transaction.TransactionId.{TransactionId}
use Rattle.cfdp_verifier.specs.declared.refusal.Place.{Place}
use Rattle.cfdp_verifier.specs.declared.refusal.Place.TheVariants as place
use Rattle.cfdp_verifier.specs.declared.refusal.Refusal.{Refusal}
use Rattle.cfdp_verifier.specs.declared.refusal.Refusal.TheVariants as refusal
use Rattle.cfdp_transactions.specs.declared.reply.Reply.{Reply}
use Rattle.cfdp_transactions.specs.declared.reply.Reply.TheVariants as reply
use Rattle.cfdp_texts.specs.Replies.{grant_text, labelled, line, number_text, place_text, refusal_text, reply_line, reply_text, taken_text, two_digits, word}

-- numbers ----------------------------------------------------------------------------

long_len : (n : ℕ) → n < 2 ^ 64 → length (decimal n) ≤ 20
long_len n fits = length-decimal-le 20 n (omega arith) (omega arith) fits

number_len : (n : ℕ) → n < 2 ^ 32 → length (number_text n) ≤ 10
unfolding number_text
number_len n fits = length-decimal-le 10 n (omega arith) (omega arith) (omega arith)

octet_len : (n : ℕ) → n < 256 → length (number_text n) ≤ 3
unfolding number_text
octet_len n fits = length-decimal-le 3 n (omega arith) (omega arith) (omega arith)

labelled_len : (label : List ℕ) (n : ℕ) → length (labelled label n) ≡ length label + length (number_text n)
unfolding labelled
labelled_len label n = length-append label (number_text n)

digits_len : (octets : List ℕ) → length (encode_lower octets) ≡ 2 * length octets
unfolding encode_with
digits_len [] = refl
digits_len (octet ∷ octets) = let later = digits_len octets in omega (arith, later)

two_len : (n : ℕ) → length (two_digits n) ≡ 2
unfolding two_digits
two_len n = digits_len (n ∷ [])

name_len : (id : TransactionId) → id.source < 2 ^ 64 → id.number < 2 ^ 64 → length (transaction_name id) ≤ 41
name_len id source number = omega (arith, length-append (decimal id.source) (47 ∷ decimal id.number), long_len id.source source, long_len id.number number)

-- replies ----------------------------------------------------------------------------

abbrev pub IsNarrowPlace : Place → Type 0
IsNarrowPlace place.Destination = ⊤
IsNarrowPlace (place.Request number) = number < 256

abbrev pub IsNarrowRefusal : Refusal → Type 0
IsNarrowRefusal (refusal.BadPath at) = IsNarrowPlace at
IsNarrowRefusal (refusal.Conflict id) = (id.source < 2 ^ 64) × (id.number < 2 ^ 64)
IsNarrowRefusal (refusal.WouldFail number status) = number < 256
IsNarrowRefusal (refusal.TooLong steps) = steps < 2 ^ 32
IsNarrowRefusal (refusal.NoRoom blocks spare) = (blocks < 2 ^ 32) × (spare < 2 ^ 32)
IsNarrowRefusal why = ⊤

abbrev pub IsNarrow : Reply → Type 0
IsNarrow (reply.Admitted blocks steps) = (blocks < 2 ^ 32) × (steps < 2 ^ 32)
IsNarrow (reply.Refused why) = IsNarrowRefusal why
IsNarrow (reply.Faulted condition) = condition < 256
IsNarrow (reply.Taken outcome) = ⊥
IsNarrow stated = ⊤

place_len : (at : Place) → IsNarrowPlace at → length (place_text at) ≤ 50
place_len place.Destination narrow = omega arith
place_len (place.Request number) narrow = omega (arith, labelled_len (codes "bad-path ") number, octet_len number narrow)

failure_len : (number octet : ℕ) → number < 256 → length (labelled (codes "would-fail ") number ++ word (two_digits octet)) ≤ 50
failure_len number octet narrow =
    omega (
      arith,
      length-append (labelled (codes "would-fail ") number) (word (two_digits octet)),
      labelled_len (codes "would-fail ") number,
      octet_len number narrow,
      two_len octet,
    )

refusal_len : (why : Refusal) → IsNarrowRefusal why → length (refusal_text why) ≤ 50
refusal_len refusal.TooManyRequests narrow = omega arith
refusal_len (refusal.BadPath at) narrow = place_len at narrow
refusal_len (refusal.Conflict id) narrow = omega (arith, length-append (codes "conflict ") (transaction_name id), name_len id narrow.0 narrow.1)
refusal_len refusal.DestinationNotAllowed narrow = omega arith
refusal_len (refusal.WouldFail number status) narrow = failure_len number (octet_of status) narrow
refusal_len (refusal.TooLong steps) narrow = omega (arith, labelled_len (codes "too-long ") steps, number_len steps narrow)
refusal_len (refusal.NoRoom blocks spare) narrow =
    omega (
      arith,
      length-append (labelled (codes "no-room ") blocks) (labelled (codes " ") spare),
      labelled_len (codes "no-room ") blocks,
      labelled_len (codes " ") spare,
      number_len blocks narrow.0,
      number_len spare narrow.1,
    )

grant_len : (blocks steps : ℕ) → blocks < 2 ^ 32 → steps < 2 ^ 32 → length (grant_text blocks steps) ≤ 58
grant_len blocks steps b s =
    omega (
      arith,
      length-append (codes "admitted ") (labelled (codes "blocks ") blocks ++ labelled (codes " steps ") steps),
      length-append (labelled (codes "blocks ") blocks) (labelled (codes " steps ") steps),
      length-append (codes "admitted " ++ labelled (codes "blocks ") blocks) (labelled (codes " steps ") steps),
      length-append (codes "admitted ") (labelled (codes "blocks ") blocks),
      labelled_len (codes "blocks ") blocks,
      labelled_len (codes " steps ") steps,
      number_len blocks b,
      number_len steps s,
    )

-- with the name of a transaction in conflict
reply_len : (stated : Reply) → IsNarrow stated → length (reply_text stated) ≤ 58
reply_len (reply.Admitted blocks steps) narrow = grant_len blocks steps narrow.0 narrow.1
reply_len (reply.Refused why) narrow = omega (arith, length-append (codes "refused ") (refusal_text why), refusal_len why narrow)
reply_len (reply.Faulted condition) narrow = omega (arith, labelled_len (codes "faulted ") condition, octet_len condition narrow)
reply_len (reply.Performed status) narrow = omega (arith, length-append (codes "performed ") (two_digits (octet_of status)), two_len (octet_of status))
reply_len (reply.Taken outcome) narrow = absurd narrow
reply_len reply.Stored narrow = omega arith
reply_len reply.Dropped narrow = omega arith
reply_len reply.Complete narrow = omega arith
reply_len reply.Waiting narrow = omega arith
reply_len reply.Installed narrow = omega arith
reply_len reply.Done narrow = omega arith
reply_len reply.Cancelled narrow = omega arith
reply_len reply.Duplicate narrow = omega arith
reply_len reply.Unknown narrow = omega arith
reply_len reply.Idle narrow = omega arith
reply_len reply.NotForUs narrow = omega arith
reply_len reply.TableFull narrow = omega arith
reply_len reply.Memory narrow = omega arith
reply_len reply.JournalFull narrow = omega arith

line_len : (id : TransactionId) (text : List ℕ) → id.source < 2 ^ 64 → id.number < 2 ^ 64 → length (line (transaction_name id ++ word text)) ≤ 43 + length text
line_len id text source number = omega (
  arith,
  length-append (transaction_name id ++ word text) (10 ∷ []),
  length-append (transaction_name id) (word text),
  name_len id source number,
)

pub reply_line_len : (id : TransactionId) (stated : Reply) → id.source < 2 ^ 64 → id.number < 2 ^ 64 → IsNarrow stated → length (reply_line id stated) ≤ 101
reply_line_len id stated source number narrow = omega (arith, line_len id (reply_text stated) source number, reply_len stated narrow)

taken_len : (octets : List ℕ) (condition : ℕ) → condition < 2 ^ 32 → length (taken_text octets condition) ≤ max 16 (9 + 2 * length octets)
taken_len [] condition narrow = omega (arith, labelled_len (codes "ended ") condition, number_len condition narrow)
taken_len (octet ∷ octets) condition narrow = omega (arith, length-append (codes "finished ") (encode_lower (octet ∷ octets)), digits_len (octet ∷ octets))

pub taken_line_len : (id : TransactionId) (octets : List ℕ) (condition : ℕ) → id.source < 2 ^ 64 → id.number < 2 ^ 64 → condition < 2 ^ 32 →
    length (line (transaction_name id ++ word (taken_text octets condition))) ≤ max 101 (52 + 2 * length octets)
taken_line_len id octets condition source number narrow = omega (
  arith,
  line_len id (taken_text octets condition) source number,
  taken_len octets condition narrow,
)
