-- What the marks and colours of a picture mean.
--     kind_of_directive     the kind of a PDU by its directive code (CCSDS 727.0-B-5 §5.2)
--     kind_in_words         a kind in words
--     letter_of             the letter in a mark;  none for file data
--     outline_of            the outline of a mark, as the data of a path: a box that points down, a triangle for file
--                           data, a disc for what is no PDU
--     way_opening           the beginning of a mark, with its class
--     phase_words, phase_letter      a phase in a word, and its first letter
use Rattle.std.specs.Prelude.{ℕ, ◌==◌, if◌then◌else◌, List, [], codes}
use Rattle.cfdp_pdus.specs.Codes.{eof_code, finished_code, ack_code, metadata_code, nak_code, prompt_code, keep_alive_code}
use Rattle.cfdp_draw.specs.declared.mark_kinds.MarkKind.{MarkKind}
use Rattle.cfdp_draw.specs.declared.mark_kinds.MarkKind.TheVariants.{Metadata, FileData, Eof, Nak, Ack, Finished, KeepAlive, Prompt, NoPdu, Timer, Cancel}
use Rattle.cfdp_draw.specs.declared.mark_kinds.Direction.{Direction}
use Rattle.cfdp_draw.specs.declared.mark_kinds.Direction.TheVariants.{Came, Dropped, Sent}
use Rattle.cfdp_draw.specs.declared.mark_kinds.DrawnPhase.{DrawnPhase}
use Rattle.cfdp_draw.specs.declared.mark_kinds.DrawnPhase.TheVariants.{Held, Receiving, Awaiting, Waiting, Closed}

abbrev pub kind_of_directive : ℕ → MarkKind
kind_of_directive code =
    if code == eof_code then Eof
    else if code == finished_code then Finished
    else if code == ack_code then Ack
    else if code == metadata_code then Metadata
    else if code == nak_code then Nak
    else if code == prompt_code then Prompt
    else if code == keep_alive_code then KeepAlive
    else NoPdu

unfoldable pub kind_in_words : MarkKind → List ℕ
kind_in_words Metadata = codes "Metadata"
kind_in_words FileData = codes "File Data"
kind_in_words Eof = codes "EOF"
kind_in_words Nak = codes "NAK"
kind_in_words Ack = codes "ACK"
kind_in_words Finished = codes "Finished"
kind_in_words KeepAlive = codes "Keep Alive"
kind_in_words Prompt = codes "Prompt"
kind_in_words NoPdu = codes "no PDU"
kind_in_words Timer = codes "timer"
kind_in_words Cancel = codes "cancel"

unfoldable pub letter_of : MarkKind → List ℕ
letter_of Metadata = codes "M"
letter_of FileData = []
letter_of Eof = codes "E"
letter_of Nak = codes "N"
letter_of Ack = codes "A"
letter_of Finished = codes "F"
letter_of KeepAlive = codes "K"
letter_of Prompt = codes "P"
letter_of NoPdu = codes "?"
letter_of Timer = codes "T"
letter_of Cancel = codes "C"

unfoldable pub outline_of : MarkKind → List ℕ
outline_of FileData = codes "M0 2h6l-3 11z"
outline_of Timer = codes "M0 7a7 7 0 1 1 14 0a7 7 0 1 1-14 0z"
outline_of Cancel = codes "M0 7a7 7 0 1 1 14 0a7 7 0 1 1-14 0z"
outline_of _ = codes "M0 0h14v10l-7 4l-7-4z"

unfoldable pub way_opening : Direction → List ℕ
way_opening Came = codes "<g class=\"came\" transform=\"translate("
way_opening Dropped = codes "<g class=\"dropped\" transform=\"translate("
way_opening Sent = codes "<g class=\"sent\" transform=\"translate("

unfoldable pub phase_words : DrawnPhase → List ℕ
phase_words Held = codes "held"
phase_words Receiving = codes "receiving"
phase_words Awaiting = codes "awaiting"
phase_words Waiting = codes "waiting"
phase_words Closed = codes "closed"

unfoldable pub phase_letter : DrawnPhase → List ℕ
phase_letter Held = codes "h"
phase_letter Receiving = codes "r"
phase_letter Awaiting = codes "a"
phase_letter Waiting = codes "w"
phase_letter Closed = codes "c"
