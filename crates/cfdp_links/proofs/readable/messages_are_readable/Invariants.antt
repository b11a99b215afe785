use Rattle.std.proofs.Common.{List, drop, map}
use Rattle.std.specs.List.{AllByRecursion}
use Rattle.cfdp_transactions.specs.declared.event.Event.{Event}
use Rattle.cfdp_transactions.specs.Writable.{IsReadable}
use Rattle.cfdp_engine.specs.Working.{BringAll}
use Rattle.cfdp_links.specs.Linked.{IsHeard}
use Rattle.cfdp_links.specs.Links.{said_of}
use Rattle.cfdp_links.proofs.readable.messages_are_readable.Given as goal

abbrev pub invariant-loop-message : goal.invariant-loop-message
invariant-loop-message l = record {
  heard : AllByRecursion IsHeard (map said_of (drop l.message-index l.messages));
  rest : ((events : List Event) → BringAll (drop l.message-index l.messages) events → AllByRecursion IsReadable events)
      → (events : List Event) → BringAll l.messages events → AllByRecursion IsReadable events;
}
