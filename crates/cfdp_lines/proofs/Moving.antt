-- How a run moves on, stops and breaks off.
use Rattle.std.proofs.Common.{◌≡◌, ℕ, ◌+◌, ◌<◌, ◌≤◌, Bool, true, false, List, [], ◌∷◌, ◌++◌, Option, Some, None, length, refl, sym, ap, ◌∙◌, append_assoc, arith, length-append, rules}
use Rattle.std.proofs.lemmas.List.{append-nil}
use Rattle.std.proofs.lemmas.List.Elements.{All-append}
use Rattle.cfdp_lines.specs.Lines.{is_newline, is_overlong, line_limit, lines_of, settled_lines, IsOneLine}
use Rattle.cfdp_lines.specs.Report.{Report, report, and_then_report, wrote, stopped_at, empty_report, line_answer}
use Rattle.cfdp_lines.specs.Session.{LineReading, line_reading, lines_by, report_at, Moves, StopsBad}
use Rattle.cfdp_lines.specs.code.Session.{Breaks, Runs, RunsBad, Finishes, FinishesBad, FinishesLost}
use Rattle.std.proofs.KnownBytes.{Appends-nil, Appends-trans}
use Rattle.std.specs.Io.KnownBytes.{Appends, Keeps}
use Rattle.cfdp_streams.specs.Streams.{LostWithin}
use Rattle.cfdp_lines.proofs.LineLemmas.{lines_by-newline, lines_of-last, lines_by-begun, settled_lines-none}

wrote-wrote : (a b : List ℕ) (r : Report) → wrote a (wrote b r) ≡ wrote (a ++ b) r
wrote-wrote a b r = simp append_assoc

-- an overlong line is bad
line_answer-overlong : {State : Type 0} (answer : State → List ℕ → Option (State × List ℕ)) (state : State) (line : List ℕ)
    → line_limit < length line → line_answer answer state line ≡ None
line_answer-overlong answer state line h = let over : is_overlong line ≡ true = search rules in rw over refl

report-overlong : {State : Type 0} (answer : State → List ℕ → Option (State × List ℕ)) (n : ℕ) (state : State) (line : List ℕ)
    (others lines : List (List ℕ)) → lines ≡ line ∷ others → line_limit < length line
    → report answer n state lines ≡ stopped_at n
report-overlong answer n state line others lines are h =
    rw are (ap (λ o. and_then_report n o (λ after. report answer (n + 1) after others)) (line_answer-overlong answer state line h))

module _ (State : Type 0) (answer : State → List ℕ → Option (State × List ℕ)) where
  -- nothing moves nowhere
  pub Moves-none : (here : LineReading State) → Moves answer here here [] []
  Moves-none here = record { goes_on = λ ends rest. refl }

  -- some octets, and then others
  pub Moves-then : (p q r : LineReading State) (a b v w : List ℕ) → Moves answer p q a v → Moves answer q r b w
      → Moves answer p r (a ++ b) (v ++ w)
  Moves-then p q r a b v w f g = record {
    goes_on = λ ends rest.
        ap (report_at answer ends p) (append_assoc a b rest) ∙ f.goes_on ends (b ++ rest) ∙ ap (wrote v) (g.goes_on ends rest)
        ∙ wrote-wrote v w (report_at answer ends r rest);
  }

  pub Moves-then_stops : (p q : LineReading State) (a b v w : List ℕ) (n : ℕ) → Moves answer p q a v → StopsBad answer q b w n
      → StopsBad answer p (a ++ b) (v ++ w) n
  Moves-then_stops p q a b v w n f g = record {
    stops = λ ends rest.
        ap (report_at answer ends p) (append_assoc a b rest) ∙ f.goes_on ends (b ++ rest) ∙ ap (wrote v) (g.stops ends rest)
        ∙ wrote-wrote v w (stopped_at n);
  }

  pub Moves-then_breaks : (p q : LineReading State) (a b v w : List ℕ) → Moves answer p q a v → Breaks answer q b w
      → Breaks answer p (a ++ b) (v ++ w)
  Moves-then_breaks p q a b v w f g = record {
    begins = λ rest.
        let later = g.begins rest in (
          later.0,
          ap (λ (octets : List ℕ). (report_at answer true p octets).text) (append_assoc a b rest)
              ∙ ap (λ (r : Report). r.text) (f.goes_on true (b ++ rest))
              ∙ ap (λ (text : List ℕ). v ++ text) later.1
              ∙ sym (append_assoc v w later.0),
        );
  }

  -- what follows a bad line makes no difference
  pub StopsBad-before : (p : LineReading State) (a b w : List ℕ) (n : ℕ) → StopsBad answer p a w n → StopsBad answer p (a ++ b) w n
  StopsBad-before p a b w n f = record {
    stops = λ ends rest. ap (report_at answer ends p) (append_assoc a b rest) ∙ f.stops ends (b ++ rest);
  }

  -- a run may have written less
  pub Breaks-shorter : (p : LineReading State) (a v w : List ℕ) → Breaks answer p a (v ++ w) → Breaks answer p a v
  Breaks-shorter p a v w f = record {
    begins = λ rest. let later = f.begins rest in (w ++ later.0, later.1 ∙ append_assoc v w later.0);
  }

  -- a run that wrote nothing more may break off anywhere
  pub Breaks-none : (p : LineReading State) (a : List ℕ) → Breaks answer p a []
  Breaks-none p a = record { begins = λ rest. ((report_at answer true p (a ++ rest)).text, refl) }

  -- octets of the line
  pub Moves-gather : (n : ℕ) (state : State) (line octets : List ℕ)
      → Moves answer (line_reading n state line) (line_reading n state (line ++ octets)) octets []
  Moves-gather n state line octets = record {
    goes_on = λ ends rest. ap (λ (s : List ℕ). report answer n state (lines_by ends s)) (sym (append_assoc line octets rest));
  }

  -- the end of a line
  line_ended : (ends : Bool) (n : ℕ) (state : State) (line rest : List ℕ) (octet : ℕ) → IsOneLine line → is_newline octet ≡ true
      → report_at answer ends (line_reading n state line) (octet ∷ rest)
      ≡ and_then_report n (line_answer answer state line) (λ after. report answer (n + 1) after (lines_by ends rest))
  line_ended ends n state line rest octet h e = ap (report answer n state) (lines_by-newline ends line rest octet h e)

  pub Moves-newline : (n : ℕ) (state after : State) (line text : List ℕ) (octet : ℕ) → IsOneLine line → is_newline octet ≡ true
      → line_answer answer state line ≡ Some (after, text)
      → Moves answer (line_reading n state line) (line_reading (n + 1) after []) (octet ∷ []) text
  Moves-newline n state after line text octet h e a = record {
    goes_on = λ ends rest.
        line_ended ends n state line rest octet h e
        ∙ ap (λ (o : Option (State × List ℕ)). and_then_report n o (λ later. report answer (n + 1) later (lines_by ends rest))) a;
  }

  pub StopsBad-newline : (n : ℕ) (state : State) (line : List ℕ) (octet : ℕ) → IsOneLine line → is_newline octet ≡ true
      → line_answer answer state line ≡ None → StopsBad answer (line_reading n state line) (octet ∷ []) [] n
  StopsBad-newline n state line octet h e a = record {
    stops = λ ends rest.
        line_ended ends n state line rest octet h e
        ∙ ap (λ (o : Option (State × List ℕ)). and_then_report n o (λ later. report answer (n + 1) later (lines_by ends rest))) a;
  }

  -- too many octets
  pub StopsBad-overlong : (n : ℕ) (state : State) (line octets : List ℕ) → IsOneLine line → IsOneLine octets
      → line_limit < length line + length octets → StopsBad answer (line_reading n state line) octets [] n
  StopsBad-overlong n state line octets h e full =
      let longer = line ++ octets in
      let one_line : IsOneLine longer = All-append (λ (x : ℕ). is_newline x ≡ false) line octets h e in
      let long : line_limit < length longer = omega (arith, length-append line octets) in
      record {
        stops = λ ends rest.
            let begun = lines_by-begun ends longer rest one_line long in
            let over : line_limit < length (longer ++ begun.more) = omega (arith, length-append longer begun.more) in
            ap (λ (s : List ℕ). report answer n state (lines_by ends s)) (sym (append_assoc line octets rest))
            ∙ report-overlong answer n state (longer ++ begun.more) begun.others (lines_by ends (longer ++ rest)) begun.are over;
      }

  -- a report from the line of a number on names no line before it
  bad_line-later : (n m : ℕ) (state : State) (lines : List (List ℕ)) → (report answer n state lines).bad_line ≡ Some m → n ≤ m
  bad_line-later n m state [] e = absurd cc
  bad_line-later n m state (line ∷ lines) e =
      let later : State → Report = λ after. report answer (n + 1) after lines in
      elim (line_answer answer state line) as (λ o. (and_then_report n o later).bad_line ≡ Some m → n ≤ m) [
        | None ↦ λ same. let is : n ≡ m = cc in omega (arith, is)
        | Some answered ↦ λ same. let more = bad_line-later (n + 1) m answered.0 lines same in omega (arith, more)
      ]
      e

  -- octets that end a line which is not bad show no bad line of its number
  and_then-good : (n : ℕ) (o : Option (State × List ℕ)) (lines : List (List ℕ)) → (o ≡ None → ⊥)
      → and_then_report n o (λ after. report answer (n + 1) after lines) ≡ wrote [] (stopped_at n) → ⊥
  and_then-good n None lines good e = good refl
  and_then-good n (Some answered) lines good e =
      let more = bad_line-later (n + 1) n answered.0 lines (ap (λ (r : Report). r.bad_line) e) in absurd (omega (arith, more))

  pub StopsBad-good_line : (n : ℕ) (state : State) (line rest : List ℕ) (octet : ℕ) → IsOneLine line → is_newline octet ≡ true
      → (line_answer answer state line ≡ None → ⊥) → StopsBad answer (line_reading n state []) (line ++ octet ∷ rest) [] n → ⊥
  StopsBad-good_line n state line rest octet h e good stops =
      and_then-good n (line_answer answer state line) (lines_of rest) good
      (sym (line_ended true n state line rest octet h e)
      ∙ ap (λ (s : List ℕ). report answer n state (lines_of s)) (sym (append-nil (line ++ octet ∷ rest)))
      ∙ stops.stops true [])

  -- octets of a line that is not too long show no bad line
  pub StopsBad-open : (n : ℕ) (state : State) (octets : List ℕ) → IsOneLine octets → length octets ≤ line_limit
      → StopsBad answer (line_reading n state []) octets [] n → ⊥
  StopsBad-open n state octets h short stops =
      let none : settled_lines (octets ++ []) ≡ [] = ap settled_lines (append-nil octets) ∙ settled_lines-none octets h short in
      let same : empty_report ≡ wrote [] (stopped_at n) = sym (ap (report answer n state) none) ∙ stops.stops false [] in
      let lines : None ≡ Some n = ap (λ (r : Report). r.bad_line) same in
      absurd cc

  pub report_at-last : (n : ℕ) (state : State) (line : List ℕ) → IsOneLine line → 0 < length line
      → report_at answer true (line_reading n state line) [] ≡ and_then_report n (line_answer answer state line) (λ after. empty_report)
  report_at-last n state line h few =
      ap (λ (octets : List ℕ). report answer n state (lines_of octets)) (append-nil line)
      ∙ ap (report answer n state) (lines_of-last line h few)

  -- some octets, others, and those after which make no difference

  pub Runs-none : (here : LineReading State) (old : Option (List ℕ)) → Runs answer here here [] old old
  Runs-none here old = record { written = []; moves = Moves-none here; appended = Appends-nil old }

  pub Runs-then : (p q r : LineReading State) (a b : List ℕ) (x y z : Option (List ℕ)) → Runs answer p q a x y → Runs answer q r b y z
      → Runs answer p r (a ++ b) x z
  Runs-then p q r a b x y z f g = record {
    written = f.written ++ g.written;
    moves = Moves-then p q r a b f.written g.written f.moves g.moves;
    appended = Appends-trans x y z f.written g.written f.appended g.appended;
  }

  pub Runs-then_bad : (p q : LineReading State) (a b c : List ℕ) (n : ℕ) (x y z : Option (List ℕ)) → Runs answer p q a x y
      → RunsBad answer q b n y z → RunsBad answer p (a ++ b ++ c) n x z
  Runs-then_bad p q a b c n x y z f g = record {
    written = f.written ++ g.written;
    stops = StopsBad-before p (a ++ b) c (f.written ++ g.written) n (Moves-then_stops p q a b f.written g.written n f.moves g.stops);
    appended = Appends-trans x y z f.written g.written f.appended g.appended;
  }

  -- the end of the script, with what the writer says

  pub Finishes-last : (n : ℕ) (state after : State) (line text : List ℕ) (old new : Option (List ℕ)) → IsOneLine line
      → 0 < length line → line_answer answer state line ≡ Some (after, text) → Appends old new text
      → Finishes answer (line_reading n state line) old new
  Finishes-last n state after line text old new h few a p = record {
    written = text;
    is = report_at-last n state line h few ∙ ap (λ (o : Option (State × List ℕ)). and_then_report n o (λ later. empty_report)) a;
    appended = p;
  }

  pub FinishesBad-last : (n : ℕ) (state : State) (line : List ℕ) (old new : Option (List ℕ)) → IsOneLine line
      → 0 < length line → line_answer answer state line ≡ None → Keeps old new → FinishesBad answer (line_reading n state line) n old new
  FinishesBad-last n state line old new h few a k = record {
    is = report_at-last n state line h few ∙ ap (λ (o : Option (State × List ℕ)). and_then_report n o (λ later. empty_report)) a;
    kept = k;
  }

  pub FinishesLost-last : (n : ℕ) (state after : State) (line text : List ℕ) (old new : Option (List ℕ)) → IsOneLine line
      → 0 < length line → line_answer answer state line ≡ Some (after, text) → LostWithin text old new
      → FinishesLost answer (line_reading n state line) old new
  FinishesLost-last n state after line text old new h few a lost =
      let whole : report_at answer true (line_reading n state line) [] ≡ wrote text empty_report =
      report_at-last n state line h few ∙ ap (λ (o : Option (State × List ℕ)). and_then_report n o (λ later. empty_report)) a in
      record {
        written = lost.written;
        begins = (lost.begins.0, ap (λ (r : Report). r.text) whole ∙ append-nil text ∙ lost.begins.1);
        appended = lost.appended;
      }
