-- A worked run, which the check computes: an EOF PDU comes first, with a wrong checksum. The NAK PDU of the first round is lost, and file data that comes
-- then is not kept. In the second round the Metadata PDU is lost. In the third it comes, and then the whole file, since the same NAK PDU asked for both;
-- the outcome is handed out, and then the acknowledgement of the Finished PDU comes. So 2 PDUs are lost, and the session is closed in the third round.
use Rattle.std.specs.Prelude.{max}
use Rattle.std.specs.List.{flat_map}
use Rattle.std.proofs.Common.{inr, true, false, List, [], ◌∷◌, ◌++◌, refl, sym, subst, arith}
use Rattle.cfdp_actions.specs.Filestore.{blocks_of}
use Rattle.cfdp_checksum.specs.Checksum.{weighed_from}
use Rattle.cfdp_pdus.specs.Canonical.{finished_field}
use Rattle.cfdp_transactions.specs.Entry.{Entry}
use Rattle.cfdp_transactions.specs.Next.{run, replies as replies_of}
use Rattle.cfdp_transactions.specs.Sound.{Sound}
use Rattle.cfdp_transactions.specs.World.{World, entry_of}
use Rattle.cfdp_transactions.specs.declared.event.Event.TheVariants.{Eof as EofCame}
use Rattle.cfdp_transactions.specs.declared.reply.Reply.{Reply as ReplyOf}
use Rattle.cfdp_transactions.specs.declared.reply.Reply.TheVariants as Reply
use Rattle.cfdp_transactions.proofs.Examples.ExampleWords.{id}
use Rattle.cfdp_receiver.specs.State.{State, Input, MetadataPdu, EofPdu, AckPdu, Expire, Finish, now_of, session_of}
use Rattle.cfdp_receiver.specs.Handing.{own_time, later}
use Rattle.cfdp_receiver.specs.Laws.{AreKnown}
use Rattle.cfdp_receiver.specs.Turning.{seen_after, Parts, parts_of, after_all}
use Rattle.cfdp_receiver.proofs.WorkedWords.{fresh, header, M, data_at, finished_ack}
use Rattle.cfdp_receiver.proofs.WorkedInputs.{with_entry, admitted}
use Rattle.cfdp_progress.specs.Awaiting.{TransactionAwaits}
use Rattle.cfdp_progress.specs.Closing.{WasClosed}
use Rattle.cfdp_progress.specs.HeldRounds.{HeldRound, held_inputs, IsHeldRound, AreHeldRounds, MetadataCame, MetadataComes, until_metadata, at_metadata, ClosedFromHeld}
use Rattle.cfdp_progress.specs.InAll.{IsWatched}
use Rattle.cfdp_progress.specs.NakRounds.{AreAnswered, FirstRound, IsFirstRound, naks_of_opening}
use Rattle.cfdp_progress.proofs.WorkedRun.{patient, sending, asking, wrong, entry_in, session_in}

abbrev begun : State
begun = fresh patient

abbrev nak_is_lost : HeldRound
nak_is_lost = record { opening = EofPdu 1 (header 5) wrong; is_at_limit = false; is_lost = true; rest = data_at 2 0 15 ∷ [] }

abbrev metadata_is_lost : HeldRound
metadata_is_lost = record { opening = Expire 11; is_at_limit = false; is_lost = true; rest = [] }

abbrev it_comes : HeldRound
it_comes = record { opening = Expire 21; is_at_limit = false; is_lost = false; rest = MetadataPdu 22 (header 5) M ∷ [] }

abbrev second : State
second = after_all begun (held_inputs nak_is_lost)

abbrev third : State
third = after_all second (held_inputs metadata_is_lost)

first_is : IsHeldRound begun (id 5) nak_is_lost
first_is = record {
  begins = record { ours = refl; named = refl; mode = refl; no_error = refl; none = refl; not_closed = refl; has_room = refl };
  goes_on = ((λ q. (refl, refl)), tt);
  answered = λ asked kept. absurd cc;
}

second_is : IsHeldRound second (id 5) metadata_is_lost
second_is = record {
  begins = record { session = session_in (session_of second (id 5)); due = refl; named = refl };
  goes_on = tt;
  answered = λ asked kept. absurd cc;
}

third_is : IsHeldRound third (id 5) it_comes
third_is = record {
  begins = record { session = session_in (session_of third (id 5)); due = refl; named = refl };
  goes_on = ((λ q. (refl, refl)), tt);
  answered = λ asked kept. refl;
}

two_are : AreHeldRounds begun (id 5) (nak_is_lost ∷ metadata_is_lost ∷ [])
two_are = (first_is, (λ none. (second_is, (λ q. tt))))

three_are : AreHeldRounds begun (id 5) (nak_is_lost ∷ metadata_is_lost ∷ it_comes ∷ [])
three_are = (first_is, (λ none. (second_is, (λ q. (third_is, (λ x. tt))))))

-- so the law says that it comes
law_applies : MetadataComes → MetadataCame begun (flat_map held_inputs (nak_is_lost ∷ metadata_is_lost ∷ it_comes ∷ [])) (id 5)
law_applies law =
    law begun (id 5) (nak_is_lost ∷ metadata_is_lost ∷ it_comes ∷ []) tt refl (omega arith) three_are (inr (omega arith)) (omega arith)

-- ---- what the core makes of the Metadata PDU, and of the EOF PDU after it

abbrev granted : World × ReplyOf
granted = (with_entry (header 5), Reply.Admitted 2 2)

abbrev joined_parts : State → Input → World × ReplyOf → Parts
joined_parts R i x =
    parts_of (later (now_of i) R) (run x.0 (EofCame (header 5) wrong ∷ [])) (x.1 ∷ replies_of x.0 (EofCame (header 5) wrong ∷ [])) i

abbrev joined : State → Input → World × ReplyOf → State
joined R i x = record {
  world = run x.0 (EofCame (header 5) wrong ∷ []);
  mib = R.mib;
  now = max R.now (own_time R (now_of i));
  seen = seen_after R i;
  sessions = (joined_parts R i x).sessions;
  closed = (joined_parts R i x).closed;
}

-- ---- the third round

abbrev before : List Input
before = Expire 21 ∷ []

abbrev there : State
there = at_metadata begun (nak_is_lost ∷ metadata_is_lost ∷ []) before

abbrev last : FirstRound
last = record {
  opening = MetadataPdu 22 (header 5) M;
  exchange = record {
    asking = asking ((0, 15) ∷ []) false ∷ [];
    sent = sending 0 15 false ∷ [];
    asking_again = asking ((0, 15) ∷ []) true ∷ [];
    sent_again = [];
  };
  rest = data_at 23 0 15 ∷ Finish 23 ∷ AckPdu 25 (header 5) finished_ack ∷ [];
}

abbrev known : State
known = joined there last.opening granted

abbrev entry : Entry
entry = entry_in (entry_of known.world (id 5))

awaits : TransactionAwaits known (id 5) entry wrong
unfolding blocks_of weighed_from
awaits = record {
  session = session_in (session_of known (id 5));
  here = refl;
  known = refl;
  acknowledged = refl;
  core = record { checks = 0; here = refl; phase = refl; came = refl; within = omega arith; short = refl };
}

answered : AreAnswered known (id 5) (naks_of_opening there last.opening entry) last.exchange last.rest
unfolding blocks_of weighed_from finished_field
answered = record {
  exchanged = record {
    asks = refl;
    in_order = (sending 0 15 false ∷ [], [], refl, (refl, refl), refl);
    asks_again = refl;
    in_order_again = refl;
  };
  come = refl;
  goes_on = ((λ q. refl), ((λ q. refl), ((λ q. refl), tt)));
  once = ((λ q. refl), ((λ q. refl), ((λ q. refl), tt)));
}

watched : IsWatched false known (id 5) last.rest
unfolding blocks_of weighed_from finished_field
watched = record {
  acknowledged = ((λ c. absurd cc), ((λ c kept. refl), ((λ c. absurd cc), tt)));
  once = ((λ q. refl), ((λ q. refl), ((λ q. refl), tt)));
  done = refl;
}

last_is : IsFirstRound there (id 5) last entry wrong
last_is = record {
  opens = record {
    ours = refl;
    named = refl;
    mode = refl;
    session = session_in (session_of there (id 5));
    here = refl;
    eof = wrong;
    held = refl;
  };
  awaits = subst (λ (x : World × ReplyOf). TransactionAwaits (joined there last.opening x) (id 5) entry wrong) (sym admitted) awaits;
  answered =
      subst (λ (x : World × ReplyOf). AreAnswered (joined there last.opening x) (id 5) (naks_of_opening there last.opening entry) last.exchange last.rest)
      (sym admitted) answered;
}

-- so the law says that the session is closed
all_of_it : ClosedFromHeld → Sound begun.world → AreKnown begun →
    WasClosed begun (until_metadata (nak_is_lost ∷ metadata_is_lost ∷ []) before ++ (last.opening ∷ last.rest ++ [])) (id 5)
unfolding blocks_of weighed_from
all_of_it law sound are_known =
    law begun (id 5) (nak_is_lost ∷ metadata_is_lost ∷ []) before 22 (header 5) M last false [] entry wrong sound tt are_known refl (omega arith)
    two_are refl refl last_is
    (subst (λ (x : World × ReplyOf). IsWatched false (joined there last.opening x) (id 5) last.rest) (sym admitted) watched) tt
    (inr (omega arith, omega arith, omega arith)) (omega arith)
