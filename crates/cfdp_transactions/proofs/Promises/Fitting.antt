-- Outcomes that can always be written.
use Rattle.std.proofs.Common.{[], ◌∷◌, ap, sym, subst}
use Rattle.cfdp_transactions.specs.declared.event.Event.{Event}
use Rattle.cfdp_transactions.specs.declared.reply.Reply.{Reply}
use Rattle.cfdp_transactions.specs.declared.reply.Reply.TheVariants as replied
use Rattle.cfdp_transactions.specs.Needs.{Follows}
use Rattle.cfdp_transactions.specs.Next.{next}
use Rattle.cfdp_transactions.specs.World.{World}
use Rattle.cfdp_transactions.specs.Writable.{IsReadable, FitsReply}
use Rattle.cfdp_transactions.specs.Fitting.{OnlyWritable}

pub writable_next : (W : World) (event : Event) → OnlyWritable W → IsReadable event → OnlyWritable (next W event).0
writable_next W event h r = λ events rs. (h (event ∷ events) (r, rs)).1

-- the world after a call
pub writable_after : (W : World) (event : Event) (reply : Reply) (V : World) → OnlyWritable W → IsReadable event → Follows W event reply V
    → OnlyWritable V
writable_after W event replied.Memory V h r f = subst OnlyWritable (sym f) h
writable_after W event reply V h r f = subst OnlyWritable (ap (λ x. x.0) f) (writable_next W event h r)

-- its reply
pub fits_reply : (W : World) (event : Event) (reply : Reply) (V : World) → OnlyWritable W → IsReadable event → Follows W event reply V
    → FitsReply reply
fits_reply W event (replied.Taken outcome) V h r f = subst FitsReply (ap (λ x. x.1) f) (h (event ∷ []) (r, tt)).0
fits_reply W event reply V h r f = tt
