-- What is true of each world that an entity comes to: whatever comes next that was read, its outcomes can be written.
--
--   OnlyWritable W          from events that may have been read, only outcomes come that fit a Finished PDU
--                           (CCSDS 727.0-B-5 §5.2.3)
--   only_writable_prop      that it is a fact
use Rattle.std.specs.Prelude.{List}
use Rattle.std.proofs.Props.{props}
use Rattle.std.specs.List.{AllByRecursion, AllByRecursion-prop}
use Rattle.cfdp_transactions.specs.declared.event.Event.{Event}
use Rattle.cfdp_transactions.specs.declared.reply.Reply.{Reply}
use Rattle.cfdp_transactions.specs.declared.reply.Reply.TheVariants as replied
use Rattle.cfdp_transactions.specs.Next.{replies}
use Rattle.cfdp_transactions.specs.World.{World}
use Rattle.cfdp_transactions.specs.Writable.{IsReadable, FitsReply}

abbrev pub OnlyWritable : World → Type 0
OnlyWritable W = (events : List Event) → AllByRecursion IsReadable events → AllByRecursion FitsReply (replies W events)

fits_prop : (reply : Reply) → IsProp (FitsReply reply)
fits_prop (replied.Taken outcome) = Prim.hlevel props
fits_prop reply = Prim.hlevel props

fit_prop : (replies : List Reply) → IsProp (AllByRecursion FitsReply replies)
fit_prop replies = AllByRecursion-prop FitsReply fits_prop replies

pub only_writable_prop : (W : World) → IsProp (OnlyWritable W)
only_writable_prop W = Prim.hlevel fit_prop
