-- What a worker does with what it is sent.
--     event_in octets           the event of a PDU's octets: none, where they spell no PDU, or one that is no event
--     is_passed_over            a PDU without an event
--     passed_over messages      how many of the messages are that
--     AreSteps                  Steps, and at most this many
--     Brings message es         the events of a message
--     BringAll messages es      those of all, in order
--     BeginAll messages es      some first of these
use Rattle.std.specs.Prelude.{◌≡◌, ℕ, ◌+◌, ◌≤◌, Bool, false, if◌then◌else◌, IsTrue, List, [], ◌∷◌, ◌++◌, length, Option, None, Result, Ok, Err}
use Rattle.std.specs.Option.{is_none, option_to_list}
use Rattle.std.specs.List.{AllByRecursion}
use Rattle.std.specs.Arc.{arc_value}
use Rattle.cfdp_pdus.specs.declared.fault.PduFault.{PduFault}
use Rattle.cfdp_transactions.specs.declared.event.Event.{Event}
use Rattle.cfdp_transactions.specs.Beside.{is_step}
use Rattle.cfdp_transactions.specs.Events.{event_at}
use Rattle.cfdp_transactions.specs.MostSettled.{most_settled}
pub use Rattle.cfdp_engine.specs.declared.message.Message.{Message}
use Rattle.cfdp_engine.specs.declared.message.Message.TheVariants as messages

abbrev pub event_read : Result (Option Event) PduFault → Option Event
event_read (Ok event) = event
event_read (Err fault) = None

abbrev pub event_in : List ℕ → Option Event
event_in octets = event_read (event_at octets)

abbrev pub is_passed_over : Message → Bool
is_passed_over (messages.Pdu octets) = is_none (event_in octets.items)
is_passed_over message = false

abbrev pub passed_over : List Message → ℕ
passed_over [] = 0
passed_over (m ∷ ms) = (if is_passed_over m then 1 else 0) + passed_over ms

pub record AreSteps (most : ℕ) (es : List Event) : Type 0 where
  pub steps : AllByRecursion (λ e. IsTrue (is_step e)) es
  pub few : length es ≤ most

abbrev pub Brings : Message → List Event → Type 0
Brings (messages.Pdu octets) es = es ≡ option_to_list (event_in octets.items)
Brings (messages.Event event) es = es ≡ arc_value event ∷ []
Brings messages.Run es = AreSteps most_settled es

-- the first message's events, and then those of the others
abbrev pub BringAll : List Message → List Event → Type 0
BringAll [] es = es ≡ []
BringAll (m ∷ ms) es = (first : List Event) × (others : List Event) × (es ≡ first ++ others) × Brings m first
    × BringAll ms others

pub record BeginAll (ms : List Message) (es : List Event) : Type 0 where
  pub more : List Event
  pub bring : BringAll ms (es ++ more)
