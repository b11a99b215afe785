-- What only the proofs of the code need of `Sent`.
--     after_ack, after_naks     those after the ACK PDU;  those after the NAK PDUs
use Rattle.std.specs.Prelude.{ℕ, List, ◌++◌, map}
use Rattle.cfdp_directives.specs.Reading.{NakFields}
use Rattle.cfdp_directives.specs.Spelling.{nak_pdu, keep_alive_pdu}
use Rattle.cfdp_receiver.specs.StateMachine.{StateMachineFields, AnswerParts, finished_for}

abbrev pub nak_octets : NakFields → List ℕ
nak_octets nak = nak_pdu nak.header nak.scope nak.requests

abbrev pub after_naks : StateMachineFields → AnswerParts → List (List ℕ)
after_naks M a = map (λ keep_alive. keep_alive_pdu keep_alive.0 keep_alive.1) a.keep_alives
    ++ map (finished_for M) a.finished

abbrev pub after_ack : StateMachineFields → AnswerParts → List (List ℕ)
after_ack M a = map nak_octets a.naks ++ after_naks M a
