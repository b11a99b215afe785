-- A worked run, which the check computes: the middle of a file comes, then its EOF PDU, with a wrong checksum. Of the two pieces that are asked for
-- the channel loses the first. In the second round it loses the NAK PDU, and in the third it brings the piece; the outcome is handed out, and the
-- Finished PDU is lost. In the fourth round that is sent again and acknowledged, and the session is closed. So 3 PDUs are lost in 4 rounds, and both
-- limits are 4. In a second run a NAK PDU holds one request: of the two NAK PDUs in its first round the channel loses one.
use Rattle.std.specs.Prelude.{codes}
use Rattle.std.specs.List.{flat_map}
use Rattle.std.proofs.Common.{◌≡◌, inl, inr, ℕ, Bool, true, false, List, [], ◌∷◌, ◌++◌, Option, Some, None, refl, arith}
use Rattle.cfdp_actions.specs.Filestore.{empty_filestore, blocks_of}
use Rattle.cfdp_actions.specs.Actions.{Install}
use Rattle.cfdp_checksum.specs.Checksum.{weighed_from}
use Rattle.cfdp_pdus.specs.Canonical.{finished_field}
use Rattle.cfdp_pdus.specs.declared.eof.Eof.{Eof}
use Rattle.cfdp_retransmission.specs.Naks.{SegmentRequest}
use Rattle.cfdp_retransmission.specs.Rounds.{Asking, Sending}
use Rattle.cfdp_retransmission.specs.Timers.{restarted}
use Rattle.cfdp_sessions.specs.Closed.{no_names}
use Rattle.cfdp_sessions.specs.Sessions.{SessionFields}
use Rattle.cfdp_sessions.specs.declared.session.Stage.TheVariants.{Known, Waiting}
use Rattle.cfdp_transactions.specs.Admission.{new_entry}
use Rattle.cfdp_transactions.specs.Entry.{Entry}
use Rattle.cfdp_transactions.specs.Sound.{Sound}
use Rattle.cfdp_transactions.specs.World.{entry_of}
use Rattle.cfdp_transactions.specs.declared.phase.Phase.TheVariants.{Receiving}
use Rattle.cfdp_transactions.proofs.Examples.ExampleWords.{config, id}
use Rattle.cfdp_receiver.specs.declared.mib.Handler.TheVariants as handlers
use Rattle.cfdp_receiver.specs.declared.mib.Mib.{Mib}
use Rattle.cfdp_receiver.specs.State.{State, EofPdu, AckPdu, Finish, session_of}
use Rattle.cfdp_receiver.specs.Laws.{AreKnown}
use Rattle.cfdp_receiver.specs.Turning.{after_input, after_all}
use Rattle.cfdp_receiver.proofs.WorkedWords.{mib, header, M, D, E, data_at, finished_ack, pdu_of}
use Rattle.cfdp_progress.specs.Awaiting.{IsDelivered, WasDelivered}
use Rattle.cfdp_progress.specs.NakRounds.{NakRound, AreNakRounds, all_inputs, FirstRound, IsFirstRound, DeliveredAfterLosses}
use Rattle.cfdp_progress.specs.InAll.{EitherRound, inputs_of, IsWatched, IsEitherRound, AreEitherRounds, ClosedInAll}
use Rattle.cfdp_progress.specs.Closing.{WasClosed}

abbrev admitted : Entry
admitted = new_entry (header 5) M Receiving 0 (Install (codes "f" ∷ []) ∷ []) 2 2

abbrev known : SessionFields
known = record { header = header 5; stage = Known; timer = restarted 0; alive_at = 0; cause = None; is_abandoned = false; has_changed = false; finished = [] }

-- both limits are 4
abbrev pub patient : Mib
patient = record mib {
  ack = record { interval = 10; limit = 4; at_limit = handlers.Cancel };
  nak = record { interval = 10; limit = 4; at_limit = handlers.Cancel };
}

-- its Metadata PDU came
abbrev described : State
described = record {
  world = record { config = config; filestore = empty_filestore; table = admitted ∷ [] };
  mib = patient;
  now = 0;
  seen = 0;
  sessions = known ∷ [];
  closed = record { sources = no_names (header 5).source ∷ []; forgot = false };
}

abbrev pub sending : ℕ → ℕ → Bool → Sending
sending low high lost = record { piece = (low, (D low high).octets); is_lost = lost }

abbrev pub asking : List SegmentRequest → Bool → Asking
asking requests lost = record { requests = requests; is_lost = lost }

abbrev pub wrong : Eof
wrong = record E { checksum = 0 }

abbrev middle : State
middle = after_input described (data_at 0 4 8)

abbrev first : FirstRound
first = record {
  opening = EofPdu 1 (header 5) wrong;
  exchange = record {
    asking = asking ((0, 4) ∷ (8, 15) ∷ []) false ∷ [];
    sent = sending 0 4 true ∷ sending 8 15 false ∷ [];
    asking_again = asking ((0, 4) ∷ (8, 15) ∷ []) true ∷ [];
    sent_again = [];
  };
  rest = data_at 2 8 15 ∷ [];
}

abbrev second : EitherRound
second = record {
  moment = 12;
  is_at_limit = false;
  exchange = record { asking = asking ((0, 4) ∷ []) true ∷ []; sent = []; asking_again = asking ((0, 4) ∷ []) true ∷ []; sent_again = [] };
  is_lost = false;
  rest = [];
}

abbrev third : EitherRound
third = record {
  moment = 22;
  is_at_limit = false;
  exchange = record { asking = asking ((0, 4) ∷ []) false ∷ []; sent = sending 0 4 false ∷ []; asking_again = asking ((0, 4) ∷ []) true ∷ []; sent_again = [] };
  is_lost = true;
  rest = data_at 23 0 4 ∷ Finish 23 ∷ [];
}

abbrev fourth : EitherRound
fourth = record {
  moment = 33;
  is_at_limit = false;
  exchange = record { asking = []; sent = []; asking_again = []; sent_again = [] };
  is_lost = false;
  rest = AckPdu 34 (header 5) finished_ack ∷ [];
}

abbrev pub entry_in : Option Entry → Entry
entry_in None = admitted
entry_in (Some e) = e

abbrev pub session_in : Option SessionFields → SessionFields
session_in None = known
session_in (Some s) = s

abbrev waiting : State
waiting = after_input middle first.opening

abbrev rest : State
rest = after_all middle (first.opening ∷ first.rest)

first_is : IsFirstRound middle (id 5) first (entry_in (entry_of waiting.world (id 5))) wrong
unfolding blocks_of weighed_from
first_is = record {
  opens = record { ours = refl; named = refl; no_error = refl; session = session_in (session_of middle (id 5)); here = refl; known = refl; receiving = refl };
  awaits = record {
    session = session_in (session_of waiting (id 5));
    here = refl;
    known = refl;
    acknowledged = refl;
    core = record { checks = 0; here = refl; phase = refl; came = refl; within = omega arith; short = refl };
  };
  answered = record {
    exchanged = record {
      asks = refl;
      in_order = (sending 0 4 true ∷ [], sending 8 15 false ∷ [], refl, (refl, refl), (sending 8 15 false ∷ [], [], refl, (refl, refl), refl));
      asks_again = refl;
      in_order_again = refl;
    };
    come = refl;
    goes_on = ((λ q. refl), tt);
    once = ((λ q. refl), tt);
  };
}

abbrev after_second : State
after_second = after_all rest (inputs_of second)

abbrev after_third : State
after_third = after_all after_second (inputs_of third)

abbrev after_fourth : State
after_fourth = after_all after_third (inputs_of fourth)

first_watched : IsWatched false waiting (id 5) first.rest
unfolding blocks_of weighed_from
first_watched = record { acknowledged = ((λ c. absurd cc), tt); once = ((λ q. refl), tt); done = refl }

second_is : IsEitherRound rest (id 5) second
unfolding blocks_of weighed_from
second_is = record {
  asks = λ q. record {
    served = record { session = session_in (session_of rest (id 5)); due = refl; named = refl };
    answered = record { exchanged = record { asks = refl; in_order = refl; asks_again = refl; in_order_again = refl }; come = refl; goes_on = tt; once = tt };
  };
  closes = λ q. absurd cc;
  watched = record { acknowledged = tt; once = tt; done = refl };
}

third_is : IsEitherRound after_second (id 5) third
unfolding blocks_of weighed_from finished_field
third_is = record {
  asks = λ q. record {
    served = record { session = session_in (session_of after_second (id 5)); due = refl; named = refl };
    answered = record {
      exchanged = record { asks = refl; in_order = (sending 0 4 false ∷ [], [], refl, (refl, refl), refl); asks_again = refl; in_order_again = refl };
      come = refl;
      goes_on = ((λ x. refl), ((λ x. refl), tt));
      once = ((λ x. refl), ((λ x. refl), tt));
    };
  };
  closes = λ q. absurd cc;
  watched = record { acknowledged = ((λ c. absurd cc), ((λ c lost. absurd cc), tt)); once = ((λ x. refl), ((λ x. refl), tt)); done = refl };
}

-- its Finished PDU: file checksum failure
abbrev failed : SessionFields
failed = record {
  header = header 5;
  stage = Waiting;
  timer = restarted 23;
  alive_at = 0;
  cause = None;
  is_abandoned = false;
  has_changed = false;
  finished = pdu_of 5 (0x54 ∷ 6 ∷ 1 ∷ 2 ∷ []);
}

third_ends : after_third.sessions ≡ failed ∷ []
unfolding blocks_of weighed_from finished_field
third_ends = refl

fourth_is : IsEitherRound after_third (id 5) fourth
unfolding blocks_of weighed_from finished_field
fourth_is = record {
  asks = λ q. absurd cc;
  closes = λ q. record {
    served = record { session = failed; due = refl; named = refl };
    answered = record { comes = λ kept. refl; once = ((λ x. refl), tt) };
  };
  watched = record { acknowledged = ((λ c. absurd cc), tt); once = ((λ x. refl), tt); done = refl };
}

all_are : AreEitherRounds rest (id 5) (second ∷ third ∷ fourth ∷ [])
all_are = (second_is, (third_is, (fourth_is, tt)))

-- so the law says that the session is closed
law_applies : ClosedInAll → Sound middle.world → AreKnown middle →
    WasClosed middle (first.opening ∷ first.rest ++ flat_map inputs_of (second ∷ third ∷ fourth ∷ [])) (id 5)
unfolding blocks_of weighed_from
law_applies law sound known =
    law middle (id 5) first false (second ∷ third ∷ fourth ∷ []) (entry_in (entry_of waiting.world (id 5))) wrong sound (refl, tt) known
    (omega arith) first_is first_watched all_are
    (inr (omega arith, omega arith)) (omega arith)

closed : session_of after_fourth (id 5) ≡ None
unfolding blocks_of weighed_from finished_field
closed = refl

-- with the right checksum
delivered : IsDelivered (after_all middle (EofPdu 1 (header 5) E ∷ data_at 2 8 15 ∷ data_at 3 0 4 ∷ [])).world (id 5)
unfolding blocks_of weighed_from
delivered = record {
  entry = entry_in (entry_of (after_all middle (EofPdu 1 (header 5) E ∷ data_at 2 8 15 ∷ data_at 3 0 4 ∷ [])).world (id 5));
  here = refl;
  phase = inl refl;
}

-- ---- two NAK PDUs in a round, of which the channel loses one

-- 72 octets hold one request
abbrev narrow : State
narrow = record middle { mib = record patient { longest_nak = 72 } }

abbrev half : FirstRound
half = record {
  opening = EofPdu 1 (header 5) wrong;
  exchange = record {
    asking = asking ((0, 4) ∷ []) true ∷ asking ((8, 15) ∷ []) false ∷ [];
    sent = sending 8 15 false ∷ [];
    asking_again = asking ((0, 4) ∷ []) true ∷ asking ((8, 15) ∷ []) true ∷ [];
    sent_again = [];
  };
  rest = data_at 2 8 15 ∷ [];
}

abbrev other_half : NakRound
other_half = record {
  moment = 12;
  is_at_limit = false;
  exchange = record { asking = asking ((0, 4) ∷ []) false ∷ []; sent = sending 0 4 false ∷ []; asking_again = asking ((0, 4) ∷ []) true ∷ []; sent_again = [] };
  rest = data_at 13 0 4 ∷ [];
}

abbrev half_asked : State
half_asked = after_input narrow half.opening

abbrev half_there : State
half_there = after_all narrow (half.opening ∷ half.rest)

half_is : IsFirstRound narrow (id 5) half (entry_in (entry_of half_asked.world (id 5))) wrong
unfolding blocks_of weighed_from
half_is = record {
  opens = record { ours = refl; named = refl; no_error = refl; session = session_in (session_of narrow (id 5)); here = refl; known = refl; receiving = refl };
  awaits = record {
    session = session_in (session_of half_asked (id 5));
    here = refl;
    known = refl;
    acknowledged = refl;
    core = record { checks = 0; here = refl; phase = refl; came = refl; within = omega arith; short = refl };
  };
  answered = record {
    exchanged = record { asks = refl; in_order = (sending 8 15 false ∷ [], [], refl, (refl, refl), refl); asks_again = refl; in_order_again = refl };
    come = refl;
    goes_on = ((λ q. refl), tt);
    once = ((λ q. refl), tt);
  };
}

other_half_is : AreNakRounds half_there (id 5) (other_half ∷ [])
unfolding blocks_of weighed_from
other_half_is = (
  (λ q. record {
    served = record { session = session_in (session_of half_there (id 5)); due = refl; named = refl };
    answered = record {
      exchanged = record { asks = refl; in_order = (sending 0 4 false ∷ [], [], refl, (refl, refl), refl); asks_again = refl; in_order_again = refl };
      come = refl;
      goes_on = ((λ x. refl), tt);
      once = ((λ x. refl), tt);
    };
  }),
  tt,
)

-- so 1 PDU is lost, and the file is delivered in the second round
two_rounds : DeliveredAfterLosses → Sound narrow.world → WasDelivered narrow (half.opening ∷ half.rest ++ all_inputs (other_half ∷ [])) (id 5)
unfolding blocks_of weighed_from
two_rounds law sound =
    law narrow (id 5) half (other_half ∷ []) (entry_in (entry_of half_asked.world (id 5))) wrong sound (refl, tt) (omega arith) half_is other_half_is
    (inl (refl, tt)) (omega arith)
