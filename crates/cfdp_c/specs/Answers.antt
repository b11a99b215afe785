-- What calls from C return.
--   answer_code answer  the number of an answer
--   config_answer       what is returned for a number of the configuration outside its limits
--   put_answer          what is returned for a reason for which nothing is put into the filestore
--   fault_answer        what is returned for octets that are no PDU;  unheard_answer: of any that got no reply
use Rattle.std.specs.Prelude.{ℕ}
use Rattle.cfdp_pdus.specs.declared.fault.PduFault.{PduFault}
use Rattle.cfdp_pdus.specs.declared.fault.PduFault.TheVariants as pdu
use Rattle.cfdp_transactions.specs.declared.config.ConfigFault.{ConfigFault}
use Rattle.cfdp_transactions.specs.declared.config.ConfigFault.TheVariants as config
use Rattle.cfdp_transactions.specs.declared.putting.NotPut.{NotPut}
use Rattle.cfdp_transactions.specs.declared.putting.NotPut.TheVariants as not_put
use Rattle.cfdp_entity.specs.declared.fault.NotHeard.{NotHeard}
use Rattle.cfdp_entity.specs.declared.fault.NotHeard.TheVariants as unheard
use Rattle.cfdp_c.specs.declared.answer.CallAnswer.{CallAnswer}
use Rattle.cfdp_c.specs.declared.answer.CallAnswer.TheVariants as answer

abbrev pub answer_code : CallAnswer → ℕ
answer_code answer.Done = 0
answer_code answer.NoEngine = 1
answer_code answer.HasEngine = 2
answer_code answer.Memory = 3
answer_code answer.TooShort = 4
answer_code answer.Nothing = 5
answer_code answer.BadBlocks = 16
answer_code answer.BadCap = 17
answer_code answer.BadChecks = 18
answer_code answer.BadPath = 6
answer_code answer.HasTransactions = 7
answer_code answer.Exists = 8
answer_code answer.NoParent = 9
answer_code answer.FilestoreFull = 10
answer_code answer.TooManyPrefixes = 20
answer_code answer.BadHandler = 21
answer_code answer.BadNakMode = 22
answer_code answer.BadInterval = 23
answer_code answer.BadLimit = 24
answer_code answer.BadLongestNak = 25
answer_code answer.NotOurs = 32
answer_code answer.Truncated = 33
answer_code answer.BadVersion = 34
answer_code answer.CrcNotSupported = 35
answer_code answer.LengthMismatch = 36
answer_code answer.BadDirective = 37
answer_code answer.BadTlv = 38
answer_code answer.RequestTooLong = 39
answer_code answer.BadCrc = 40

-- a journal is no part of the engine
abbrev pub config_answer : ConfigFault → CallAnswer
config_answer config.BadBlocks = answer.BadBlocks
config_answer config.BadCap = answer.BadCap
config_answer config.BadChecks = answer.BadChecks
config_answer config.BadJournal = answer.BadChecks

abbrev pub put_answer : NotPut → CallAnswer
put_answer not_put.HasTransactions = answer.HasTransactions
put_answer not_put.Exists = answer.Exists
put_answer not_put.NoParent = answer.NoParent
put_answer not_put.NoRoom = answer.FilestoreFull
put_answer not_put.Memory = answer.Memory

abbrev pub fault_answer : PduFault → CallAnswer
fault_answer pdu.Truncated = answer.Truncated
fault_answer pdu.BadVersion = answer.BadVersion
fault_answer pdu.CrcNotSupported = answer.CrcNotSupported
fault_answer pdu.LengthMismatch = answer.LengthMismatch
fault_answer pdu.BadDirective = answer.BadDirective
fault_answer pdu.BadTlv = answer.BadTlv
fault_answer pdu.RequestTooLong = answer.RequestTooLong
fault_answer pdu.Memory = answer.Memory

abbrev pub unheard_answer : NotHeard → CallAnswer
unheard_answer (unheard.Fault fault) = fault_answer fault
unheard_answer unheard.NotOurs = answer.NotOurs
