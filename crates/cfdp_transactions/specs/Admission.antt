-- The admission of a transaction by its Metadata PDU (CCSDS 727.0-B-5 §5.2.5, copy file procedures).
--     new_entry                 an entry of the table, with nothing received and nothing spent
--     proposal_of               what the verdict judges
--     metadata_came
use Rattle.std.specs.Prelude.{ℕ, pos, Bool, false, not, ◌&&◌, ◌||◌, ◌==◌, if◌then◌else◌, nat_lt, nat_le, List, [], ◌∷◌, ◌++◌, length, Option, Some, None}
use Rattle.cfdp_actions.specs.Actions.{Item}
use Rattle.cfdp_transactions.specs.Config.{Config}
use Rattle.cfdp_pdus.specs.Values.{MetadataFields}
use Rattle.cfdp_pdus.specs.declared.header.Header.{Header}
use Rattle.cfdp_pdus.specs.Codes.{unsupported_checksum_type, modular_checksum_type, null_checksum_type}
use Rattle.cfdp_verifier.specs.declared.refusal.Refusal.TheVariants.{TooManyRequests}
use Rattle.cfdp_verifier.specs.Verdict.{Proposal, Verdict, Refuse, Grant, verdict}
use Rattle.cfdp_transactions.specs.Entry.{Phase, Receiving, Refused, Ended, Entry, has_file}
use Rattle.cfdp_transactions.specs.Events.{Reply}
use Rattle.cfdp_transactions.specs.World.{World, spare_blocks, leases_of, free_slot, bound}

abbrev pub new_entry : Header → MetadataFields → Phase → ℕ → List Item → ℕ → ℕ → Entry
new_entry h m phase slot items blocks steps = record {
  header = h;
  metadata = m;
  phase = phase;
  eof = None;
  complete = false;
  installed = false;
  ended_by_eof = false;
  received = [];
  slot = slot;
  items = items;
  statuses = [];
  blocks_granted = blocks;
  steps_granted = steps;
  blocks_spent = pos 0;
  steps_spent = 0;
}

-- one that never was live
abbrev pub refused_entry : Header → MetadataFields → Phase → Entry
refused_entry h m phase = new_entry h m phase 0 [] 0 0

abbrev pub with_new : World → Entry → World
with_new W e = record W { table = W.table ++ e ∷ [] }

abbrev pub proposal_of : Config → MetadataFields → Proposal
proposal_of c m = record {
  destination = if has_file m then Some m.destination_name else None;
  bound = bound c m;
  requests = m.requests;
}

abbrev pub judged : World → Header → MetadataFields → Verdict → World × Reply
judged W h m (Refuse r) = (with_new W (refused_entry h m Refused), Reply.Refused r)
judged W h m (Grant items blocks steps) = (
  with_new W (new_entry h m Receiving (free_slot W.table) items blocks steps),
  Reply.Admitted blocks steps,
)

-- the modular checksum, and the null checksum
abbrev pub is_known_checksum : ℕ → Bool
is_known_checksum type = (type == modular_checksum_type) || (type == null_checksum_type)

abbrev pub metadata_came : World → Header → MetadataFields → Option Entry → World × Reply
metadata_came W h m (Some e) = (W, Reply.Duplicate)
metadata_came W h m None =
    if nat_le 64 (length W.table) then (W, Reply.TableFull)
    else if nat_lt 64 (length m.requests) then (W, Reply.Refused TooManyRequests)
    else if has_file m && not (is_known_checksum m.checksum_type)
    then (with_new W (refused_entry h m (Ended unsupported_checksum_type)), Reply.Faulted unsupported_checksum_type)
    else judged W h m (verdict W.config.prefixes W.filestore (leases_of W.table) (spare_blocks W)
    (proposal_of W.config m))
