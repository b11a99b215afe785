-- What is true of a receiver at all times stays true.
use Rattle.std.specs.Prelude.{slice_get, is_some}
use Rattle.std.proofs.Common.{◌≡◌, List, [], refl, sym, ap, subst}
use Rattle.cfdp_sessions.specs.Sessions.{AreDistinct}
use Rattle.cfdp_transactions.specs.Entry.{Entry}
use Rattle.cfdp_transactions.specs.Headline.{NextIsSound, NextIsPromised}
use Rattle.cfdp_transactions.specs.Sound.{Sound}
use Rattle.cfdp_transactions.specs.World.{World, index_in}
use Rattle.cfdp_receiver.specs.declared.mib.Mib.{Mib}
use Rattle.cfdp_receiver.specs.State.{State, Input, begin, now_of}
use Rattle.cfdp_receiver.specs.Handing as Handing
use Rattle.cfdp_receiver.specs.Laws.{touched}
use Rattle.cfdp_receiver.specs.StateMachine.{StateMachineFields, AnswerParts}
use Rattle.cfdp_receiver.specs.code.StateMachine.{IsWholeReceiver, Turns, at_moment}
use Rattle.cfdp_receiver.specs.Turning as Turning
use Rattle.cfdp_receiver.proofs.Distinct.{Apart, apart_by}
use Rattle.cfdp_receiver.proofs.Places.{places_by}
use Rattle.cfdp_receiver.proofs.SessionsAreKnown.{Laws, known_after}
use Rattle.cfdp_receiver.proofs.NaksAskOnce.{ends_stay_there, none_listed}
use Rattle.cfdp_receiver.proofs.TurnShapes.{shape}
use Rattle.cfdp_receiver.proofs.LateTurns.{IsAtMoment, turned_state}

pub whole_begin : (mib : Mib) (W : World) → W.table ≡ [] → IsWholeReceiver (begin mib W)
whole_begin mib W none = record {
  known = λ id. ap (λ (t : List Entry). is_some (slice_get t (index_in id t))) none;
  places = λ id s e. absurd cc;
  over = λ id closed. refl;
  ends = none_listed W none;
}

pub whole_after : Laws → NextIsSound → NextIsPromised → (R : State) (i : Input) → Sound R.world → AreDistinct R.sessions → IsWholeReceiver R →
    IsWholeReceiver (Turning.after_input R i)
whole_after laws next_sound promised R i sound distinct whole =
    let apart : Apart R.sessions R.closed = record { distinct = distinct; over = whole.over } in
    record {
      known = known_after laws next_sound promised R i sound distinct whole.known;
      places = places_by (Handing.later (now_of i) R) (touched R i) (Turning.parts R i) (shape R i) whole.places;
      over = (apart_by (Handing.later (now_of i) R) (touched R i) (Turning.parts R i) (shape R i) apart).over;
      ends = ends_stay_there R i whole.ends;
    }

pub whole_turn : (M N : StateMachineFields) (a : AnswerParts) (i : Input) → IsAtMoment M.state i → IsWholeReceiver (Turning.after_input M.state i) →
    Turns (at_moment (now_of i) M) N a i → IsWholeReceiver N.state
whole_turn M N a i moment whole t = subst IsWholeReceiver (sym (turned_state M N a i moment t)) whole
