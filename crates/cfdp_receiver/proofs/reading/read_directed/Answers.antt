use Rattle.std.proofs.Common.{rules, ◌≡◌, sym, ap, ◌∙◌}
use Rattle.std.specs.Prelude.{Ok, None}
use Rattle.cfdp_pdus.specs.First.{Start, start_at, pdu_at}
use Rattle.cfdp_pdus.specs.Receiving.{received_of}
use Rattle.cfdp_pdus.specs.Sound.{IsSoundMetadata}
use Rattle.cfdp_receiver.specs.State.{OtherPdu}
use Rattle.cfdp_receiver.proofs.ReadPdus.{finished_input, metadata_readable}
use Rattle.cfdp_receiver.proofs.reading.read_directed.Goals as goal

pub returns-in-None-clause-ok : goal.returns-in-None-clause-ok
returns-in-None-clause-ok c now =
    let octets = c.args.octets.now in
    let start = c.in_ok-read_start-in-None.field-0 in
    let began : start_at octets ≡ Ok start = search rules in
    let none : received_of (pdu_at octets) ≡ Ok None = search rules in
    finished_input octets start now began none ∙ ap (λ (s : Start). Ok (OtherPdu now s.header)) (sym c.branch.view_is)

pub returns-in-Some-Metadata-clause-sound : goal.returns-in-Some-Metadata-clause-sound
returns-in-Some-Metadata-clause-sound c =
    let h = c.in-Some-Metadata.header in
    let m = c.in-Some-Metadata.metadata in
    let sound : IsSoundMetadata h m = search rules in
    metadata_readable h m sound
