-- Lengths of what is written, and that there is room for it.
use Rattle.std.proofs.Common.{◌≡◌, ℕ, ◌+◌, ◌*◌, ◌≤◌, ◌<◌, List, ◌++◌, length, take, get_or, Bool, Some, ap, arith}
use Rattle.std.specs.List.{flat_map}
use Rattle.std.proofs.lemmas.List.{length-append}
use Rattle.std.proofs.lemmas.List.Folds.{length-flat_map-take}
use Rattle.byteorder.specs.Endian.{big_bytes}
use Rattle.byteorder.specs.Numbers.{length-bytes_high_first}
use Rattle.cfdp_pdus.specs.declared.header.Header.{Header}
use Rattle.cfdp_pdus.specs.Values.{FileDataFields, FinishedFields}
use Rattle.cfdp_pdus.specs.declared.eof.Eof.{Eof}
use Rattle.cfdp_pdus.specs.Bits.{fss}
use Rattle.cfdp_pdus.specs.Canonical.{fault_location, finished_field, response_field, pdu_octets, names_octets, eof_field, eof_location, file_data_field}

pub location_len : (id_len entity : ℕ) → length (fault_location id_len (Some entity)) ≡ id_len + 2
location_len id_len entity = omega (arith, length-bytes_high_first id_len entity)

pub finished_len : (header : Header) (finished : FinishedFields) → length (finished_field header finished) ≡ 2
    + (length (flat_map response_field finished.responses) + length (fault_location header.id_len finished.fault))
unfolding finished_field
finished_len header finished = omega (arith, length-append (flat_map response_field finished.responses) (fault_location header.id_len finished.fault))

-- what is before an item, and the item, are no longer than the whole
pub item_fits : {X : Type 0} (f : X → List ℕ) (xs : List X) (i : ℕ) (x : X) → x ≡ get_or xs i x → i < length xs → length (flat_map f (take i xs))
    + length (f x) ≤ length (flat_map f xs)
item_fits {X = X} f xs i x is lt =
    let same : length (f x) ≡ length (f (get_or xs i x)) = ap (λ (y : X). length (f y)) is in
    omega (arith, same, length-flat_map-take f xs i x lt)

-- a whole PDU is as long as its header and its data field
pub pdu_len : (file_data : Bool) (header : Header) (field : List ℕ)
    → length (pdu_octets file_data header field) ≡ 4 + 2 * header.id_len + header.number_len + length field
pdu_len file_data header field =
    let source = big_bytes header.id_len header.source in
    let number = big_bytes header.number_len header.number in
    let destination = big_bytes header.id_len header.destination in
    omega (
      arith,
      length-append (names_octets header) field,
      length-append source (number ++ destination),
      length-append number destination,
      length-bytes_high_first header.id_len header.source,
      length-bytes_high_first header.number_len header.number,
      length-bytes_high_first header.id_len header.destination,
    )

-- where there was no room for a data field of some length, there was none for the PDU
pub no_room : (file_data : Bool) (header : Header) (field : List ℕ) (len have capacity : ℕ) → len ≤ length field
    → capacity < have + (4 + 2 * header.id_len + header.number_len + len)
    → have + length (pdu_octets file_data header field) ≤ capacity → ⊥
no_room file_data header field len have capacity fits full room = omega (arith, pdu_len file_data header field)

pub eof_len : (header : Header) (eof : Eof) → length (eof_field header eof) ≡ 6 + (fss header.large + length (eof_location header eof))
unfolding eof_field
eof_len header eof =
    omega (
      arith,
      length-append (big_bytes (fss header.large) eof.size) (eof_location header eof),
      length-bytes_high_first (fss header.large) eof.size,
    )

pub file_data_len : (large : Bool) (file_data : FileDataFields) → length (file_data_field large file_data) ≡ fss large + length file_data.octets
unfolding file_data_field
file_data_len large file_data =
    omega (
      arith,
      length-append (big_bytes (fss large) file_data.offset) file_data.octets,
      length-bytes_high_first (fss large) file_data.offset,
    )
