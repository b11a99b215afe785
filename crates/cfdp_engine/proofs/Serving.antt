-- What a worker hands in, message after message.
use Rattle.std.proofs.Common.{◌≡◌, ℕ, ◌+◌, List, [], ◌∷◌, ◌++◌, min, ◌-◌, ◌^◌, refl, ap, sym, ◌∙◌, subst, append_assoc, append-nil, arith}
use Rattle.std.specs.Prelude.{true, false, if◌then◌else◌}
use Rattle.std.specs.Option.{option_to_list}
use Rattle.std.specs.Arc.{arc_value}
use Rattle.cfdp_transactions.specs.declared.event.Event.{Event}
use Rattle.cfdp_engine.specs.Seats.{Seated, Receipt}
use Rattle.cfdp_engine.specs.Sharing.{IsReceived, AddsReceipts, receipt_events}
use Rattle.cfdp_engine.specs.Working.{Message, Brings, BringAll, BeginAll, event_in, is_passed_over, passed_over}
use Rattle.cfdp_engine.specs.code.Working.{BeginsOne}
use Rattle.cfdp_engine.specs.declared.message.Message.TheVariants as messages

receipt_events-append : (rs qs : List Receipt) → receipt_events (rs ++ qs) ≡ receipt_events rs ++ receipt_events qs
receipt_events-append [] qs = refl
receipt_events-append (r ∷ rs) qs = ap (λ (es : List Event). r.event ∷ es) (receipt_events-append rs qs)

-- nothing more
pub adds_none : (P : List Event → Type 0) (s : Seated) → P [] → AddsReceipts P s s
adds_none P s p = record { added = []; number = refl; receipts = sym (append-nil s.receipts); events = p }

-- and then some more
pub adds_both : (P Q R : List Event → Type 0) (old mid new : Seated) → ((es fs : List Event) → P es → Q fs → R (es ++ fs)) → AddsReceipts P old mid →
    AddsReceipts Q mid new →
    AddsReceipts R old new
adds_both P Q R old mid new joined a b = record {
  added = a.added ++ b.added;
  number = b.number ∙ a.number;
  receipts = b.receipts ∙ ap (λ (rs : List Receipt). rs ++ b.added) a.receipts ∙ append_assoc old.receipts a.added b.added;
  events = subst R (sym (receipt_events-append a.added b.added)) (joined (receipt_events a.added) (receipt_events b.added) a.events b.events);
}

-- one receipt
pub adds_one : (P : List Event → Type 0) (old new : Seated) (index : ℕ) (event : Event) → IsReceived old new index event → P (event ∷ []) →
    AddsReceipts P old new
adds_one P old new index event r p = record {
  added = record { place = index; event = event; reply = r.reply } ∷ [];
  number = r.number;
  receipts = r.receipts;
  events = p;
}

-- messages -----------------------------------------------------------------------

pub bring_more : (ms : List Message) (m : Message) (es first : List Event) → BringAll ms es → Brings m first → BringAll (ms ++ m ∷ []) (es ++ first)
bring_more [] m es first all one = (first, [], rw (all, append-nil) refl, one, refl)
bring_more (n ∷ ms) m es first all one =
    (all.0, all.1 ++ first, ap (λ (xs : List Event). xs ++ first) all.2 ∙ append_assoc all.0 all.1 first, all.3, bring_more ms m all.1 first all.4 one)

pub begin_more : (ms : List Message) (m : Message) (es first : List Event) → BringAll ms es → BeginsOne m first → BeginAll (ms ++ m ∷ []) (es ++ first)
begin_more ms m es first all one = record {
  more = one.more;
  bring = subst (BringAll (ms ++ m ∷ [])) (sym (append_assoc es first one.more))
      (bring_more ms m es (first ++ one.more) all one.brings);
}

-- some list begins with nothing
begins_none : (m : Message) → BeginsOne m []
begins_none (messages.Pdu octets) = record { more = option_to_list (event_in octets.items); brings = refl }
begins_none (messages.Event event) = record { more = arc_value event ∷ []; brings = refl }
begins_none messages.Run = record { more = []; brings = record { steps = tt; few = omega arith } }

pub adds_nothing : (m : Message) (old new : Seated) → new ≡ old → AddsReceipts (BeginsOne m) old new
adds_nothing m old new same = rw same (adds_none (BeginsOne m) old (begins_none m))

pub all_more : (ms : List Message) (m : Message) (old mid new : Seated) → AddsReceipts (BringAll ms) old mid → AddsReceipts (Brings m) mid new →
    AddsReceipts (BringAll (ms ++ m ∷ [])) old new
all_more ms m old mid new before one = adds_both (BringAll ms) (Brings m) (BringAll (ms ++ m ∷ [])) old mid new
    (λ es fs all here. bring_more ms m es fs all here) before one

pub all_begun : (ms : List Message) (m : Message) (old mid new : Seated) → AddsReceipts (BringAll ms) old mid → AddsReceipts (BeginsOne m) mid new →
    AddsReceipts (BeginAll (ms ++ m ∷ [])) old new
all_begun ms m old mid new before one = adds_both (BringAll ms) (BeginsOne m) (BeginAll (ms ++ m ∷ [])) old mid new
    (λ es fs all here. begin_more ms m es fs all here) before one

-- PDUs without an event
passed_more : (ms : List Message) (m : Message) → passed_over (ms ++ m ∷ []) ≡ passed_over ms + (if is_passed_over m then 1 else 0)
passed_more [] m = omega arith
passed_more (n ∷ ms) m = let h = passed_more ms m in omega arith

pub passed_one : (ms : List Message) (m : Message) (before now : ℕ) → is_passed_over m ≡ true → before ≡ min (passed_over ms) (2 ^ 64 - 1) → now
    ≡ min (before + 1) (2 ^ 64 - 1)
    → now ≡ min (passed_over (ms ++ m ∷ [])) (2 ^ 64 - 1)
passed_one ms m before now one old new = rw (passed_more ms m, one) (omega arith)

pub passed_none : (ms : List Message) (m : Message) (before : ℕ) → is_passed_over m ≡ false → before ≡ min (passed_over ms) (2 ^ 64 - 1) → before
    ≡ min (passed_over (ms ++ m ∷ [])) (2 ^ 64 - 1)
passed_none ms m before none old = rw (passed_more ms m, none) (omega arith)
