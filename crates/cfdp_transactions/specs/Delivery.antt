-- The delivery of a transaction's file: file data, the EOF, and checks for what is missing (CCSDS 727.0-B-5, copy file
-- and timer procedures).
--     turned, turns W k e phase eof complete      an entry that moves to another phase;  the world after it
--     is_right_checksum e sum           the octets have the EOF's checksum, or it is not looked at
--     whole W k e checksum              all octets are there: Executing, where the checksum is right
--     storing, stores W k e received    an entry for which what came is staged, its blocks being taken;
--                                       the world after it
--     limit phase c e                   where octets may end
--     stored, after_eof                 what follows once they are staged: in Awaiting they may have been the last
--     data_came, data_at                file data;  for an entry that takes data
--     eof_came, eof_without_error       the EOF;  without an error, for an entry in Receiving
--     checked, check_at                 a check;  of an entry by its phase
use Rattle.std.specs.Prelude.{ℕ, ◌+◌, ◌-◌, min, Bool, true, not, ◌||◌, ◌==◌, if◌then◌else◌, nat_lt, nat_le, [], ◌∷◌, length, Option, Some, None}
use Rattle.cfdp_actions.specs.Filestore.{Filestore, staged_in, blocks_of, Stages}
use Rattle.cfdp_transactions.specs.Config.{Config}
use Rattle.cfdp_checksum.specs.Checksum.{checksum}
use Rattle.cfdp_pdus.specs.Values.{FileDataFields}
use Rattle.cfdp_pdus.specs.declared.eof.Eof.{Eof}
use Rattle.cfdp_pdus.specs.Codes.{no_error, file_checksum_failure, file_size_error, check_limit_reached, null_checksum_type}
use Rattle.cfdp_transactions.specs.Received.{Received, kept_with, staged_of, pieces, is_whole}
use Rattle.cfdp_transactions.specs.Entry.{Phase, Awaiting, Executing, Done, is_live, is_receiving, takes_data, Entry, has_file, spend, awaited}
use Rattle.cfdp_transactions.specs.Events.{Reply}
use Rattle.cfdp_transactions.specs.World.{World, bound, change_at}
use Rattle.cfdp_transactions.specs.Ending.{ends}

abbrev pub turned : Entry → Phase → Option Eof → Bool → Entry
turned e phase eof complete = record e { phase = phase; eof = eof; complete = complete }

abbrev pub turns : World → ℕ → Entry → Phase → Option Eof → Bool → World
turns W k e phase eof complete = change_at W k [] (turned e phase eof complete)

-- the null checksum is not looked at
abbrev pub is_right_checksum : Entry → ℕ → Bool
is_right_checksum e sum = (e.metadata.checksum_type == null_checksum_type) || (checksum (staged_of e.received) == sum)

abbrev pub whole : World → ℕ → Entry → ℕ → World × Reply
whole W k e sum =
    if is_right_checksum e sum then (turns W k e (Executing 0) e.eof true, Reply.Complete)
    else (ends W k e file_checksum_failure, Reply.Faulted file_checksum_failure)

-- file data ----------------------------------------------------------------------

abbrev pub storing : Filestore → Entry → Received → Entry
storing F e received = record e {
  received = received;
  blocks_spent = spend e.blocks_spent (blocks_of (length received) - blocks_of (length (staged_in F e.slot))) 0;
}

abbrev pub stores : World → ℕ → Entry → Received → World
stores W k e received = change_at W k (Stages e.slot (staged_of received) ∷ []) (storing W.filestore e received)

-- where octets may end: at the bound; in Awaiting at the EOF's size too
abbrev pub limit : Phase → Config → Entry → ℕ
limit (Awaiting checks) c e = min (bound c e.metadata) (awaited e.eof)
limit phase c e = bound c e.metadata

-- in Awaiting, what came may have been the last
abbrev pub after_eof : Option Eof → World → ℕ → Entry → World × Reply
after_eof None W k e = (W, Reply.Stored)
after_eof (Some eof) W k e = if is_whole eof.size e.received then whole W k e eof.checksum else (W, Reply.Stored)

abbrev pub stored : Phase → World → ℕ → Entry → World × Reply
stored (Awaiting checks) W k e = after_eof e.eof W k e
stored phase W k e = (W, Reply.Stored)

abbrev pub data_at : World → ℕ → Entry → FileDataFields → World × Reply
data_at W k e piece =
    let received = kept_with e.received piece.offset piece.octets in
    if length piece.octets == 0 then (W, Reply.Stored)
    else if nat_lt (limit e.phase W.config e) (piece.offset + length piece.octets)
    then (ends W k e file_size_error, Reply.Faulted file_size_error)
    else if nat_lt 32 (pieces received) then (W, Reply.Dropped)
    else stored e.phase (stores W k e received) k (storing W.filestore e received)

abbrev pub data_came : World → ℕ → FileDataFields → Option Entry → World × Reply
data_came W k piece None = (W, Reply.Unknown)
data_came W k piece (Some e) = if takes_data e.phase then data_at W k e piece else (W, Reply.Idle)

-- the EOF ------------------------------------------------------------------------

-- of an entry in Receiving
abbrev pub eof_without_error : World → ℕ → Entry → Eof → World × Reply
eof_without_error W k e eof =
    if length e.items == 0 then (turns W k e Done e.eof true, Reply.Done)
    else if not (has_file e.metadata) then (turns W k e (Executing 0) e.eof true, Reply.Complete)
    else if nat_lt (bound W.config e.metadata) eof.size || nat_lt eof.size (length e.received)
    then (ends W k e file_size_error, Reply.Faulted file_size_error)
    else if not (is_whole eof.size e.received) then (turns W k e (Awaiting 0) (Some eof) e.complete, Reply.Waiting)
    else whole W k e eof.checksum

abbrev pub eof_came : World → ℕ → Eof → Option Entry → World × Reply
eof_came W k eof None = (W, Reply.Unknown)
eof_came W k eof (Some e) =
    if not (is_live e.phase) then (W, Reply.Idle)
    else if not (eof.condition == no_error) then (
      ends W k (record e { ended_by_eof = true }) eof.condition,
      Reply.Faulted eof.condition,
    )
    else if not (is_receiving e.phase) then (W, Reply.Duplicate)
    else eof_without_error W k e eof

-- checks -------------------------------------------------------------------------

abbrev pub check_at : Phase → World → ℕ → Entry → World × Reply
check_at (Awaiting checks) W k e =
    if nat_le W.config.checks (checks + 1) then (ends W k e check_limit_reached, Reply.Faulted check_limit_reached)
    else (turns W k e (Awaiting (checks + 1)) e.eof e.complete, Reply.Waiting)
check_at phase W k e = (W, Reply.Idle)

abbrev pub checked : World → ℕ → Option Entry → World × Reply
checked W k None = (W, Reply.Unknown)
checked W k (Some e) = check_at e.phase W k e
