-- The management information base of a receiver, as C gives it.
--   handler_in, nak_mode_in   the fault handler of a number;  when lost segments are asked for
--   interval_in               an interval that may be left out
--   mib_in fields             all of it, or the first number that says nothing
--   mib_answer                what is returned for a value that is out of range
--   opened fields W           all of it, or why there is no receiver over an entity of this world
use Rattle.std.specs.Prelude.{ℕ, not, ◌==◌, nat_lt, if◌then◌else◌, List, [], ◌∷◌, Option, Some, None, Result, Ok, Err}
use Rattle.cfdp_receiver.specs.declared.mib.Handler.{Handler}
use Rattle.cfdp_receiver.specs.declared.mib.Handler.TheVariants.{Cancel, Ignore, Abandon}
use Rattle.cfdp_receiver.specs.declared.mib.Mib.{Mib}
use Rattle.cfdp_receiver.specs.declared.mib.MibFault.{MibFault}
use Rattle.cfdp_receiver.specs.declared.mib.MibFault.TheVariants as fault
use Rattle.cfdp_receiver.specs.declared.mib.NakMode.{NakMode}
use Rattle.cfdp_receiver.specs.declared.mib.NakMode.TheVariants.{Deferred, Immediate}
use Rattle.cfdp_receiver.specs.StateMachine.{mib_fault}
use Rattle.cfdp_tlv.specs.Reading.{◌>>=◌}
use Rattle.cfdp_transactions.specs.Entry.{Entry}
use Rattle.cfdp_transactions.specs.World.{World}
use Rattle.cfdp_c.specs.declared.answer.CallAnswer.{CallAnswer}
use Rattle.cfdp_c.specs.declared.answer.CallAnswer.TheVariants.{BadHandler, BadNakMode, BadInterval, BadLimit, BadLongestNak, HasTransactions}
use Rattle.cfdp_c.specs.declared.mib.MibFields.{MibFields}

abbrev pub handler_in : ℕ → Result Handler CallAnswer
handler_in number =
    if number == 1 then Ok Cancel else if number == 2 then Ok Ignore else if number == 3 then Ok Abandon
    else Err BadHandler

abbrev pub nak_mode_in : ℕ → Result NakMode CallAnswer
nak_mode_in number = if number == 1 then Ok Deferred else if number == 2 then Ok Immediate else Err BadNakMode

abbrev pub interval_in : ℕ → Option ℕ
interval_in ticks = if ticks == 0 then None else Some ticks

abbrev pub mib_of_fields : MibFields → Handler → Handler → Handler → Handler → NakMode → Mib
mib_of_fields fields ack nak check inactivity nak_mode = record {
  ack = record { interval = fields.ack_interval; limit = fields.ack_limit; at_limit = ack };
  nak = record { interval = fields.nak_interval; limit = fields.nak_limit; at_limit = nak };
  check = record { interval = fields.check_interval; at_limit = check };
  inactivity = record { interval = fields.inactivity_interval; at_limit = inactivity };
  keep_alive = interval_in fields.keep_alive_interval;
  nak_mode = nak_mode;
  has_crc = not (fields.has_crc == 0);
  longest_nak = fields.longest_nak;
  most_ahead = interval_in fields.most_ahead;
}

-- the number of octets fits the standard's longest PDU
abbrev pub sized : MibFields → Mib → Result Mib CallAnswer
sized fields mib = if nat_lt fields.longest_nak 65536 then Ok mib else Err BadLongestNak

abbrev pub mib_in : MibFields → Result Mib CallAnswer
mib_in fields =
    handler_in fields.ack_handler >>= λ ack.
    handler_in fields.nak_handler >>= λ nak.
    handler_in fields.check_handler >>= λ check.
    handler_in fields.inactivity_handler >>= λ inactivity.
    nak_mode_in fields.nak_mode >>= λ nak_mode.
    sized fields (mib_of_fields fields ack nak check inactivity nak_mode)

abbrev pub mib_answer : MibFault → CallAnswer
mib_answer fault.Interval = BadInterval
mib_answer fault.Limit = BadLimit
mib_answer fault.LongestNak = BadLongestNak

abbrev pub without_fault : Mib → Option MibFault → Result Mib CallAnswer
without_fault mib None = Ok mib
without_fault mib (Some why) = Err (mib_answer why)

abbrev pub without_entries : Mib → List Entry → Result Mib CallAnswer
without_entries mib [] = Ok mib
without_entries mib (entry ∷ entries) = Err HasTransactions

abbrev pub opened : MibFields → World → Result Mib CallAnswer
opened fields W =
    mib_in fields >>= λ mib. without_fault mib (mib_fault mib) >>= λ mib. without_entries mib W.table
