-- What a live receiving entity makes of its inputs. Which inputs there are, `cfdp_run` says: after a PDU, and after
-- each timer that is served, all work is done and each outcome is taken.
--     Out                       the PDUs that are sent, in order; the lines of indications and refusals, one after the
--                               other; whether a transaction ended, so that the filestore may have changed
--     nothing, with_more        neither PDU nor line;  two of them, one after the other
--     is_end indication         a transaction finished or was abandoned
--     refusal_line became       the line of a refusal of a transaction, and nothing if there was none
--     made_of_answer mib a      what an answer makes: its PDUs have a CRC where `mib` says so
--     made R inputs             what inputs make, one after the other
--     MakesOut R inputs N before after  the inputs lead from R to N, and what they make comes after what there was
use Rattle.std.specs.Prelude.{◌≡◌, ℕ, Bool, true, false, ◌||◌, List, [], ◌∷◌, ◌++◌, map}
use Rattle.std.specs.List.{list_any}
use Rattle.cfdp_receiver.specs.declared.indication.Became.{Became}
use Rattle.cfdp_receiver.specs.declared.indication.Became.TheVariants.{Replied}
use Rattle.cfdp_receiver.specs.declared.indication.Indication.{Indication}
use Rattle.cfdp_receiver.specs.declared.indication.Indication.TheVariants.{TransactionFinished, Abandoned}
use Rattle.cfdp_receiver.specs.declared.mib.Mib.{Mib}
use Rattle.cfdp_receiver.specs.State.{AnswerFields, Input, State}
use Rattle.cfdp_receiver.specs.Sent.{as_sent}
use Rattle.cfdp_receiver.specs.Turning.{turn}
use Rattle.cfdp_run.specs.Playing.{after_turn, after_turns}
use Rattle.cfdp_reports.specs.Reports.{answer_pdus, indication_lines}
use Rattle.cfdp_texts.specs.Replies.{reply_line}
use Rattle.cfdp_transactions.specs.declared.reply.Reply.TheVariants.{Refused}

pub record Out : Type 0 where
  pub sent : List (List ℕ)
  pub reported : List ℕ
  pub ended : Bool

abbrev pub nothing : Out
nothing = record { sent = []; reported = []; ended = false }

abbrev pub with_more : Out → Out → Out
with_more a b = record { sent = a.sent ++ b.sent; reported = a.reported ++ b.reported; ended = a.ended || b.ended }

abbrev pub is_end : Indication → Bool
is_end (TransactionFinished id end) = true
is_end (Abandoned id condition) = true
is_end indication = false

abbrev pub refusal_line : Became → List ℕ
refusal_line (Replied id (Refused refusal)) = reply_line id (Refused refusal)
refusal_line became = []

abbrev pub made_of_answer : Mib → AnswerFields → Out
made_of_answer mib a = record {
  sent = map (as_sent mib) (answer_pdus a);
  reported = indication_lines a.indications ++ refusal_line a.became;
  ended = list_any is_end a.indications;
}

abbrev pub made_of : State → Input → Out
made_of R i = made_of_answer R.mib (turn R i).1

abbrev pub made : State → List Input → Out
made R [] = nothing
made R (i ∷ is) = with_more (made_of R i) (made (after_turn R i) is)

pub record MakesOut (R : State) (inputs : List Input) (N : State) (before after : Out) : Type 0 where
  pub ends : N ≡ after_turns R inputs
  pub makes : after ≡ with_more before (made R inputs)
