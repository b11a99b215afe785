-- A loop over the octets that a run is fed with: up to the next line end at once.
use Rattle.std.proofs.Common.{◌≡◌, ℕ, ◌+◌, ◌<◌, ◌≤◌, ◌==◌, true, false, List, [], ◌∷◌, ◌++◌, Option, None, length, take, drop, get_or, sym, ap, subst, ◌∙◌, append_assoc, arith, length-take}
use Rattle.std.proofs.lemmas.List.{append-nil, drop_more, take_more, take-append-drop, get_or-take}
use Rattle.std.proofs.lemmas.List.Elements.{All-from_get_or}
use Rattle.std.proofs.KnownBytes.{Appends-trans}
use Rattle.std.specs.Io.KnownBytes.{Appends}
use Rattle.cfdp_lines.specs.Answers.{AnswersLine, Adds}
use Rattle.cfdp_lines.specs.Lines.{is_newline, line_limit, IsOneLine}
use Rattle.cfdp_lines.specs.Report.{line_answer}
use Rattle.cfdp_lines.specs.Session.{LineReading, line_reading, Moves, StopsBad}
use Rattle.cfdp_lines.specs.code.Session.{Breaks, RunsBad, RunsPart, RunsLost}
use Rattle.cfdp_streams.specs.Streams.{LostWithin}
use Rattle.cfdp_streams.specs.code.Streams.{Spills}
use Rattle.cfdp_streams.proofs.Streaming.{Appends-more_or_lost}
use Rattle.cfdp_lines.proofs.Moving.{Moves-then, Moves-then_stops, Moves-then_breaks, StopsBad-before, StopsBad-good_line, Breaks-none, Breaks-shorter, Moves-gather, Moves-newline, StopsBad-newline, StopsBad-overlong}
use Rattle.std.proofs.lemmas.Bool.{false_from_ne_true}

-- octets before the first newline
pub one_line-before : (octets : List ℕ) (at : ℕ) → at ≤ length octets
    → ((k : ℕ) → 0 ≤ k → k < at → (get_or octets k 0 == 10) ≡ true → ⊥) → IsOneLine (take at octets)
one_line-before octets at le none =
    All-from_get_or (λ (x : ℕ). is_newline x ≡ false) (take at octets) 0
    (λ i lt. let inside : i < at = omega (arith, length-take at octets) in
    ap is_newline (get_or-take at octets i 0 inside) ∙ false_from_ne_true (get_or octets i 0 == 10) (none i (omega arith) inside))

-- octets among which there is none
pub one_line-whole : (octets : List ℕ) → ((k : ℕ) → 0 ≤ k → k < length octets → (get_or octets k 0 == 10) ≡ true → ⊥)
    → IsOneLine octets
one_line-whole octets none =
    All-from_get_or (λ (x : ℕ). is_newline x ≡ false) octets 0
    (λ i lt. false_from_ne_true (get_or octets i 0 == 10) (none i (omega arith) lt))

module _ (State : Type 0) (answer : State → List ℕ → Option (State × List ℕ)) where
  -- octets without a newline
  pub Adds-gather : (n : ℕ) (state : State) (line octets text : List ℕ)
      → Adds answer (line_reading n state line) (line_reading n state (line ++ octets)) octets text text
  Adds-gather n state line octets text = record {
    text = [];
    moves = Moves-gather State answer n state line octets;
    appended = sym (append-nil text);
  }

  -- octets up to a newline, with it
  pub Adds-line : (n : ℕ) (state after : State) (line octets before text : List ℕ) (at : ℕ)
      → IsOneLine (line ++ take at octets) → at < length octets → is_newline (get_or octets at 0) ≡ true
      → AnswersLine (line_answer answer) state after (line ++ take at octets) before text
      → Adds answer (line_reading n state line) (line_reading (n + 1) after []) (take (at + 1) octets) before text
  Adds-line n state after line octets before text at h lt e a =
      rw (take_more octets at 0 lt) record {
        text = a.text;
        moves = Moves-then State answer (line_reading n state line) (line_reading n state (line ++ take at octets)) (line_reading (n + 1) after [])
            (take at octets) (get_or octets at 0 ∷ []) [] a.text
            (Moves-gather State answer n state line (take at octets))
            (Moves-newline State answer n state after (line ++ take at octets) a.text (get_or octets at 0) h e a.answered);
        appended = a.appended;
      }

  -- too many octets before the next newline
  pub Stops-overlong : (n : ℕ) (state : State) (line octets : List ℕ) (at : ℕ) → IsOneLine line → IsOneLine (take at octets)
      → line_limit < length line + length (take at octets) → StopsBad answer (line_reading n state line) octets [] n
  Stops-overlong n state line octets at h e full =
      subst (λ (s : List ℕ). StopsBad answer (line_reading n state line) s [] n) (take-append-drop at octets)
      (StopsBad-before State answer (line_reading n state line) (take at octets) (drop at octets) [] n
      (StopsBad-overlong State answer n state line (take at octets) h e full))

  -- a line that is bad
  pub Stops-line : (n : ℕ) (state : State) (line octets : List ℕ) (at : ℕ)
      → IsOneLine (line ++ take at octets) → at < length octets → is_newline (get_or octets at 0) ≡ true
      → line_answer answer state (line ++ take at octets) ≡ None
      → StopsBad answer (line_reading n state line) octets [] n
  Stops-line n state line octets at h lt e bad =
      let stops : StopsBad answer (line_reading n state line) (take (at + 1) octets) [] n =
      rw (take_more octets at 0 lt)
      (Moves-then_stops State answer (line_reading n state line) (line_reading n state (line ++ take at octets)) (take at octets) (get_or octets at 0 ∷ [])
      [] [] n (Moves-gather State answer n state line (take at octets))
      (StopsBad-newline State answer n state (line ++ take at octets) (get_or octets at 0) h e bad)) in
      subst (λ (s : List ℕ). StopsBad answer (line_reading n state line) s [] n) (take-append-drop (at + 1) octets)
      (StopsBad-before State answer (line_reading n state line) (take (at + 1) octets) (drop (at + 1) octets) [] n stops)

  -- octets whose first line is not bad
  pub Stops-good_line : (n : ℕ) (state : State) (octets : List ℕ) (at : ℕ)
      → IsOneLine (take at octets) → at < length octets → is_newline (get_or octets at 0) ≡ true
      → (line_answer answer state (take at octets) ≡ None → ⊥)
      → StopsBad answer (line_reading n state []) octets [] n → ⊥
  Stops-good_line n state octets at h lt e good stops =
      let cut : take at octets ++ get_or octets at 0 ∷ drop (at + 1) octets ≡ octets =
      ap (λ (rest : List ℕ). take at octets ++ rest) (sym (drop_more octets at 0 lt)) ∙ take-append-drop at octets in
      StopsBad-good_line State answer n state (take at octets) (drop (at + 1) octets) (get_or octets at 0) h e good
      (subst (λ (s : List ℕ). StopsBad answer (line_reading n state []) s [] n) (sym cut) stops)

  -- some of a piece was run; of its text some was written, and the rest is held back
  pub record Fed (from here : LineReading State) (piece rest held : List ℕ) (old new : Option (List ℕ)) : Type 0 where
    pub done : List ℕ
    pub text : List ℕ
    pub written : List ℕ
    pub cut : piece ≡ done ++ rest
    pub moves : Moves answer from here done text
    pub whole : text ≡ written ++ held
    pub appended : Appends old new written

  pub Fed-adds : (from here there : LineReading State) (piece rest front back held later : List ℕ) (old new : Option (List ℕ))
      → Fed from here piece rest held old new → front ++ back ≡ rest → Adds answer here there front held later
      → Fed from there piece back later old new
  Fed-adds from here there piece rest front back held later old new f e a = record {
    done = f.done ++ front;
    text = f.text ++ a.text;
    written = f.written;
    cut = f.cut ∙ ap (λ (s : List ℕ). f.done ++ s) (sym e) ∙ sym (append_assoc f.done front back);
    moves = Moves-then State answer from here there f.done front f.text a.text f.moves a.moves;
    whole = ap (λ (s : List ℕ). s ++ a.text) f.whole ∙ append_assoc f.written held a.text
        ∙ ap (λ (s : List ℕ). f.written ++ s) (sym a.appended);
    appended = f.appended;
  }

  pub Fed-spills : (from here : LineReading State) (piece rest held later : List ℕ) (old new newer : Option (List ℕ))
      → Fed from here piece rest held old new → Spills held later new newer → Fed from here piece rest later old newer
  Fed-spills from here piece rest held later old new newer f s = record {
    done = f.done;
    text = f.text;
    written = f.written ++ s.written;
    cut = f.cut;
    moves = f.moves;
    whole = f.whole ∙ ap (λ (t : List ℕ). f.written ++ t) s.whole ∙ sym (append_assoc f.written s.written later);
    appended = Appends-trans old new newer f.written s.written f.appended s.appended;
  }

  -- what was held back was written: all of the text was
  whole_text : (from here : LineReading State) (piece rest held : List ℕ) (old new newer : Option (List ℕ)) (f : Fed from here piece rest held old new)
      → Appends new newer held → Appends old newer f.text
  whole_text from here piece rest held old new newer f a =
      subst (λ (s : List ℕ). Appends old newer s) (sym f.whole) (Appends-trans old new newer f.written held f.appended a)

  pub Fed-stops : (from here : LineReading State) (piece rest held : List ℕ) (n : ℕ) (old new newer : Option (List ℕ))
      → Fed from here piece rest held old new → Appends new newer held → StopsBad answer here rest [] n
      → RunsBad answer from piece n old newer
  Fed-stops from here piece rest held n old new newer f a b = record {
    written = f.text;
    stops = subst (λ (s : List ℕ). StopsBad answer from s f.text n) (sym f.cut)
        (subst (λ (t : List ℕ). StopsBad answer from (f.done ++ rest) t n) (append-nil f.text)
        (Moves-then_stops State answer from here f.done rest f.text [] n f.moves b));
    appended = whole_text from here piece rest held old new newer f a;
  }

  breaks_off : (from here : LineReading State) (piece rest held : List ℕ) (old new : Option (List ℕ)) (f : Fed from here piece rest held old new)
      → Breaks answer from piece f.text
  breaks_off from here piece rest held old new f =
      subst (λ (s : List ℕ). Breaks answer from s f.text) (sym f.cut)
      (Breaks-shorter State answer from (f.done ++ rest) f.text []
      (Moves-then_breaks State answer from here f.done rest f.text [] f.moves (Breaks-none State answer here rest)))

  pub Fed-part : (from here : LineReading State) (piece rest held : List ℕ) (old new newer : Option (List ℕ))
      → Fed from here piece rest held old new → Appends new newer held → RunsPart answer from piece old newer
  Fed-part from here piece rest held old new newer f a = record {
    written = f.text;
    breaks = breaks_off from here piece rest held old new f;
    appended = whole_text from here piece rest held old new newer f a;
  }

  pub Fed-lost : (from here : LineReading State) (piece rest held : List ℕ) (old new newer : Option (List ℕ))
      → Fed from here piece rest held old new → LostWithin held new newer → RunsLost answer from piece old newer
  Fed-lost from here piece rest held old new newer f l =
      let parts : f.text ≡ (f.written ++ l.written) ++ l.begins.0 =
      f.whole ∙ ap (λ (s : List ℕ). f.written ++ s) l.begins.1 ∙ sym (append_assoc f.written l.written l.begins.0) in
      record {
        written = f.written ++ l.written;
        breaks = Breaks-shorter State answer from piece (f.written ++ l.written) l.begins.0
            (subst (λ (t : List ℕ). Breaks answer from piece t) parts (breaks_off from here piece rest held old new f));
        appended = Appends-more_or_lost old new newer f.written l.written f.appended l.appended;
      }
