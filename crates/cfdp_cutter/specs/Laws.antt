-- What is true of each stream that is cut into PDUs.
--     PiecesDoNotMatter     what is cut of a piece, and then of what is after that with the next piece, is what is cut
--                           of both
--     NoneIsLost            the PDUs and what is after them are the stream
--     EachIsWhole           each PDU is one by its own header, and what is after them begins with none
--     LittleIsKept          what begins a PDU that is not whole is shorter than the longest PDU
use Rattle.std.specs.Prelude.{◌≡◌, ◌<◌, ℕ, List, [], ◌++◌, length}
use Rattle.std.specs.List.{AllByRecursion, flat_map}
use Rattle.cfdp_crc.specs.Laws.{AreOctets}
use Rattle.cfdp_cutter.specs.Cutting.{Open, Whole, cut, first_pdu, followed, longest_pdu}

abbrev pub PiecesDoNotMatter : Type 0
PiecesDoNotMatter = (piece more : List ℕ) → cut (piece ++ more) ≡ followed (cut piece) (cut ((cut piece).rest ++ more))

abbrev pub NoneIsLost : Type 0
NoneIsLost = (stream : List ℕ) → stream ≡ flat_map (λ pdu. pdu) (cut stream).pdus ++ (cut stream).rest

abbrev pub EachIsWhole : Type 0
EachIsWhole =
    (stream : List ℕ)
    → AllByRecursion (λ pdu. first_pdu pdu ≡ Whole pdu []) (cut stream).pdus
    × ((pdu rest : List ℕ) → first_pdu (cut stream).rest ≡ Whole pdu rest → ⊥)

abbrev pub LittleIsKept : Type 0
LittleIsKept = (begun : List ℕ) → AreOctets begun → first_pdu begun ≡ Open → length begun < longest_pdu
