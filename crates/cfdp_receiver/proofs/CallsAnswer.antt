-- What the calls of a receiver do.
use Rattle.std.specs.Prelude.{slice_get, map, is_some, IfSome, IfNone, IfOk, OnErr, Result, Ok, Err}
use Rattle.std.proofs.Common.{◌≡◌, ℕ, zero, suc, ◌<◌, List, [], ◌∷◌, length, true, false, Option, Some, None, refl, sym, ap, subst, ◌∙◌, arith}
use Rattle.cfdp_sessions.specs.Sessions.{SessionFields}
use Rattle.cfdp_transactions.specs.Entry.{Entry, name_of}
use Rattle.cfdp_transactions.specs.World.{World}
use Rattle.cfdp_transactions.specs.declared.reply.Reply.{Reply}
use Rattle.cfdp_receiver.specs.State.{State, Input, ClockMoved, now_of}
use Rattle.cfdp_receiver.specs.Handing.{events_of}
use Rattle.cfdp_receiver.specs.declared.reading.Dropped.{Dropped}
use Rattle.cfdp_receiver.specs.StateMachine.{StateMachineFields, AnswerParts, answer_in, turn_after}
use Rattle.cfdp_receiver.specs.code.Heard.{input_of}
use Rattle.cfdp_receiver.specs.code.StateMachine.{IsWholeReceiver, Turns, at_moment, silent}
use Rattle.cfdp_receiver.specs.declared.indication.Became.TheVariants.{Nothing, TooFarAhead}
use Rattle.cfdp_receiver.specs.declared.reading.Directed.{Directed}
use Rattle.cfdp_receiver.specs.declared.reading.Directed.TheVariants as directed
use Rattle.cfdp_receiver.specs.Turning as Turning
use Rattle.cfdp_receiver.proofs.LateTurns.{IsAtMoment, turned, turns_by}
use Rattle.cfdp_receiver.proofs.OwnTime.{clock_moved, near_zero, no_moment, not_taken_stays, taken_else}
use Rattle.cfdp_receiver.proofs.StaysWhole.{whole_turn}

-- ---- the moment

-- an input as it is said to the machine, once the moment was handed in, and as it came
pub moved : (M L N : StateMachineFields) (a : AnswerParts) (now : ℕ) (i : ℕ → Input) → ((R : State) (x y : ℕ) → events_of R (i x) ≡ events_of R (i y)) →
    ((R : State) (V : World) (rs : List Reply) (x y : ℕ) → Turning.parts_of R V rs (i x) ≡ Turning.parts_of R V rs (i y)) →
    L ≡ at_moment now M → Turns L N a (i L.state.now) → Turns (at_moment now M) N a (i now)
moved M L N a now i events parts later t =
    let K = at_moment now M in
    let s = subst (λ (X : StateMachineFields). Turns X N a (i X.state.now)) later t in
    turns_by K N a (i now) (events_of K.state (i K.state.now)) (λ (V : World) (rs : List Reply). Turning.parts_of K.state V rs (i K.state.now))
    (events K.state now K.state.now) (λ (V : World) (rs : List Reply). parts K.state V rs now K.state.now) s.world s.mib s.now s.sessions s.closed s.answer

-- an input without a moment
pub at_no_moment : (M : StateMachineFields) → at_moment 0 M ≡ M
at_no_moment M = ap (λ (S : State). record M { state = S }) (no_moment M.state)

-- ---- the clock is moved

abbrev pub clocked : StateMachineFields → ℕ → StateMachineFields
clocked M now = record M { state = record M.state { seen = now } }

pub moves_clock : (M N : StateMachineFields) (a : AnswerParts) (now : ℕ) → N ≡ clocked M now → a ≡ silent Nothing →
    Turning.turn M.state (ClockMoved now) ≡ (N.state, answer_in N a)
moves_clock M N a now is said =
    (taken_else M.state (ClockMoved now)).0 (near_zero M.state)
    ∙ ap (λ (S : State). (S, Turning.quiet Nothing)) (clock_moved M.state now)
    ∙ sym (ap (λ (X : StateMachineFields). (X.state, answer_in X a)) is ∙ ap (λ (x : AnswerParts). ((clocked M now).state, answer_in (clocked M now) x)) said)

pub moves_whole : (M N : StateMachineFields) (now : ℕ) → IsWholeReceiver (Turning.after_input M.state (ClockMoved now)) → N ≡ clocked M now →
    IsWholeReceiver N.state
moves_whole M N now whole is = subst IsWholeReceiver (clock_moved M.state now ∙ sym (ap (λ (X : StateMachineFields). X.state) is)) whole

-- ---- a turn is made

-- the machine and the answer once the turn has its number
pub ended : (M N L : StateMachineFields) (a b : AnswerParts) (i : Input) (turn : ℕ) → L ≡ record N { turns = turn } → b ≡ record a { turn = turn } →
    Turning.turn M.state i ≡ (N.state, answer_in N a) → Turning.turn M.state i ≡ (L.state, answer_in L b)
ended M N L a b i turn machine answer t =
    t ∙ sym (ap (λ (X : StateMachineFields). (X.state, answer_in X b)) machine ∙ ap (λ (x : AnswerParts). (N.state, answer_in N x)) answer)

pub whole_ended : (N L : StateMachineFields) (turn : ℕ) → L ≡ record N { turns = turn } → IsWholeReceiver N.state → IsWholeReceiver L.state
whole_ended N L turn machine whole = subst (λ (X : StateMachineFields). IsWholeReceiver X.state) (sym machine) whole

-- ---- an input that is not taken

pub not_taken : (M : StateMachineFields) (a : AnswerParts) (i : Input) → Turning.is_too_far M.state (now_of i) ≡ true → a ≡ silent TooFarAhead →
    Turning.turn M.state i ≡ (M.state, answer_in M a)
not_taken M a i far said = not_taken_stays M.state i far ∙ ap (λ (x : AnswerParts). (M.state, answer_in M x)) (sym said)

abbrev pub counted_by : StateMachineFields → StateMachineFields
counted_by M = record M { turns = turn_after M.turns }

abbrev pub not_taken_by : StateMachineFields → AnswerParts
not_taken_by M = record (silent TooFarAhead) { turn = turn_after M.turns }

-- the turn is counted all the same
pub nothing_taken : (M L : StateMachineFields) (a : AnswerParts) (i : Input) → Turning.is_too_far M.state (now_of i) ≡ true → L ≡ counted_by M →
    a ≡ not_taken_by M → Turning.turn M.state i ≡ (L.state, answer_in L a)
nothing_taken M L a i far machine said = ended M M L (silent TooFarAhead) a i (turn_after M.turns) machine said (not_taken M (silent TooFarAhead) i far refl)

-- the moment of what was read
pub read_at : (now : ℕ) (d : Directed) → now_of (input_of now d) ≡ now
read_at now (directed.Metadata h m) = refl
read_at now (directed.Eof h eof) = refl
read_at now (directed.Ack h ack) = refl
read_at now (directed.Prompt h prompt) = refl
read_at now (directed.Other h) = refl

-- ---- calls that may be out of memory

pub turned_where_ok : {E : Type 0} (M N : StateMachineFields) (i : Input) (result : Result AnswerParts E) → IsAtMoment M.state i →
    Turning.is_too_far M.state (now_of i) ≡ false → IfOk result (λ a. Turns (at_moment (now_of i) M) N a i) →
    IfOk result (λ a. Turning.turn M.state i ≡ (N.state, answer_in N a))
turned_where_ok M N i (Ok a) moment near t = turned M N a i moment near t
turned_where_ok M N i (Err why) moment near t = tt

pub whole_where_ok : {E : Type 0} (M N : StateMachineFields) (i : Input) (result : Result AnswerParts E) → IsAtMoment M.state i → IsWholeReceiver M.state →
    IsWholeReceiver (Turning.after_input M.state i) →
    IfOk result (λ a. Turns (at_moment (now_of i) M) N a i) → OnErr result (N ≡ M) → IsWholeReceiver N.state
whole_where_ok M N i (Ok a) moment before after t same = whole_turn M N a i moment after t
whole_where_ok M N i (Err why) moment before after t same = subst (λ (X : StateMachineFields). IsWholeReceiver X.state) (sym same) before

-- ---- what is asked

some_at : (ss : List SessionFields) (index : ℕ) → index < length ss → is_some (slice_get ss index) ≡ true
some_at [] index here = absurd (omega arith)
some_at (s ∷ ss) zero here = refl
some_at (s ∷ ss) (suc index) here = some_at ss index (omega arith)

pub some_there : (found : Option ℕ) (ss : List SessionFields) (first : Option SessionFields) → IfSome found (λ index. first ≡ slice_get ss index) →
    IfSome found (λ index. index < length ss) → IfNone found (first ≡ None) → is_some found ≡ is_some first
some_there None ss first some here none = sym (ap is_some none)
some_there (Some index) ss first some here none = sym (ap is_some some ∙ some_at ss index here)

pub none_named : (es : List Entry) → is_some (slice_get (map name_of es) 0) ≡ false → es ≡ []
none_named [] none = refl
none_named (e ∷ es) none = absurd cc

-- ---- octets that come

pub heard_ok : {E : Type 0} (read : Result Input Dropped) (M N : StateMachineFields) (i : Input) (result : Result AnswerParts E) → read ≡ Ok i →
    IfOk result (λ a. Turning.turn M.state i ≡ (N.state, answer_in N a)) →
    IfOk result (λ a. (x : Input) × (read ≡ Ok x) × (Turning.turn M.state x ≡ (N.state, answer_in N a)))
heard_ok read M N i (Ok a) is t = (i, is, t)
heard_ok read M N i (Err why) is t = tt
