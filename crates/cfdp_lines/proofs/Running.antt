-- A run's loop over the pieces that a reader gives.
use Rattle.std.proofs.Common.{◌≡◌, ℕ, ◌+◌, ◌-◌, ◌<◌, ◌≤◌, nat_lt, true, false, List, [], ◌++◌, Option, Some, None, length, take, refl, sym, ap, ◌∙◌, append_assoc, arith, length-append, rules}
use Rattle.std.specs.Prelude.{if◌then◌else◌}
use Rattle.std.proofs.lemmas.List.{append-nil}
use Rattle.std.proofs.Math.Seq.{take-append_seam, take-append-add}
use Rattle.std.proofs.KnownBytes.{Appends-kept, Appends-trans, Consumes-nil, Consumes-trans, Keeps-refl}
use Rattle.std.specs.Io.KnownBytes.{Keeps, Consumes, IsAtEnd}
use Rattle.cfdp_lines.specs.Lines.{line_limit, input_limit, lines_of, settled_lines, IsOneLine}
use Rattle.cfdp_lines.specs.Report.{Report, report, wrote, empty_report, stopped_at, script_report, limited_report}
use Rattle.cfdp_lines.specs.Session.{LineReading, line_reading, report_at, StopsBad}
use Rattle.cfdp_lines.specs.code.Session.{Runs, RunsBad, RunsPart, RunsLost, Finishes, FinishesBad, FinishesLost}
use Rattle.cfdp_streams.specs.Streams.{KeptOrLost, Begins, ReadsOff, ReadsAtMost}
use Rattle.cfdp_lines.specs.Outcome.{WholeRun, BadRun, LongRun, PartRun, LostRun}
use Rattle.cfdp_lines.proofs.LineLemmas.{settled_lines-none}
use Rattle.cfdp_streams.proofs.Streaming.{Appends-more_or_lost, KeptOrLost-same}
use Rattle.cfdp_lines.proofs.Moving.{Moves-then_breaks, Runs-none, Runs-then, Runs-then_bad}

-- one piece read after others

ReadsOff-consumed : (a b : Option (List ℕ)) (x : List ℕ) → Consumes a b x → ReadsOff a b x
ReadsOff-consumed None b x p = tt
ReadsOff-consumed (Some a) None x p = absurd p
ReadsOff-consumed (Some a) (Some b) x p = p

ReadsOff-kept_or_lost : (a b c : Option (List ℕ)) (x : List ℕ) → Consumes a b x → KeptOrLost b c → ReadsOff a c x
ReadsOff-kept_or_lost None b c x p k = tt
ReadsOff-kept_or_lost (Some a) None c x p k = absurd p
ReadsOff-kept_or_lost (Some a) (Some b) None x p k = (b, p)
ReadsOff-kept_or_lost (Some a) (Some b) (Some c) x p k = p ∙ ap (λ (s : List ℕ). x ++ s) (sym k)

-- all was read
Consumes-all : (a : List ℕ) (b : Option (List ℕ)) (x : List ℕ) → Consumes (Some a) b x → IsAtEnd b → a ≡ x
Consumes-all a None x p e = absurd p
Consumes-all a (Some b) x p e = p ∙ ap (λ (s : List ℕ). x ++ s) e ∙ append-nil x

-- what was read begins the input
Consumes-begun : (a : List ℕ) (b : Option (List ℕ)) (x : List ℕ) → Consumes (Some a) b x → Begins a x
Consumes-begun a None x p = absurd p
Consumes-begun a (Some b) x p = (b, p)

module _ (State : Type 0) (answer : State → List ℕ → Option (State × List ℕ)) where
  -- some pieces were read and run, and this many octets may still come
  pub record Running (start : State) (here : LineReading State) (left : ℕ) (input unread old new : Option (List ℕ)) : Type 0 where
    pub octets : List ℕ
    pub consumed : Consumes input unread octets
    pub runs : Runs answer (line_reading 1 start []) here octets old new
    pub within : length octets + left ≡ input_limit

  pub Running-none : (start : State) (input old : Option (List ℕ)) → Running start (line_reading 1 start []) input_limit input input old old
  Running-none start input old = record {
    octets = [];
    consumed = Consumes-nil input;
    runs = Runs-none State answer (line_reading 1 start []) old;
    within = refl;
  }

  -- a piece was read and run
  pub Running-more : (start : State) (here there : LineReading State) (left later : ℕ) (input unread rest old new newer : Option (List ℕ))
      (piece : List ℕ) → Running start here left input unread old new → Consumes unread rest piece
      → Runs answer here there piece new newer → length piece + later ≡ left → Running start there later input rest old newer
  Running-more start here there left later input unread rest old new newer piece r c g fits = record {
    octets = r.octets ++ piece;
    consumed = Consumes-trans input unread rest r.octets piece r.consumed c;
    runs = Runs-then State answer (line_reading 1 start []) here there r.octets piece old new newer r.runs g;
    within = omega (arith, length-append r.octets piece, r.within);
  }

  -- what is reported of the octets read so far, if nothing follows them
  report_so_far : (start : State) (here : LineReading State) (octets written : List ℕ)
      → (rest : List ℕ) → report_at answer true (line_reading 1 start []) (octets ++ rest) ≡ wrote written (report_at answer true here rest)
      → Begins (script_report answer start (octets ++ rest)).text written
  report_so_far start here octets written rest e = ((report_at answer true here rest).text, ap (λ (r : Report). r.text) e)

  begun_by : (start : State) (octets written : List ℕ) → Begins (script_report answer start (octets ++ [])).text written
      → Begins (script_report answer start octets).text written
  begun_by start octets written b = rw append-nil at b

  -- the reader failed, or the writer is as it was and the run is out of memory
  pub Running-fails : (start : State) (here : LineReading State) (left most : ℕ) (input unread rest old new newer : Option (List ℕ))
      → Running start here left input unread old new → KeptOrLost unread rest → Keeps new newer → input_limit ≤ most
      → PartRun answer start most input rest old newer
  Running-fails start here left most input unread rest old new newer r k w enough = record {
    octets = r.octets;
    written = r.runs.written;
    read = ReadsOff-kept_or_lost input unread rest r.octets r.consumed k;
    within = omega (arith, r.within);
    begins = begun_by start r.octets r.runs.written (report_so_far start here r.octets r.runs.written [] (r.runs.moves.goes_on true []));
    appended = Appends-kept old new newer r.runs.written r.runs.appended w;
  }

  -- the same, when a piece was read that was not run
  pub Running-stops : (start : State) (here : LineReading State) (left most : ℕ) (input unread rest old new newer : Option (List ℕ))
      (piece : List ℕ) → Running start here left input unread old new → Consumes unread rest piece → Keeps new newer
      → length piece + input_limit ≤ left + most → PartRun answer start most input rest old newer
  Running-stops start here left most input unread rest old new newer piece r c w fits = record {
    octets = r.octets ++ piece;
    written = r.runs.written;
    read = ReadsOff-consumed input rest (r.octets ++ piece) (Consumes-trans input unread rest r.octets piece r.consumed c);
    within = omega (arith, length-append r.octets piece, r.within);
    begins = report_so_far start here r.octets r.runs.written piece (r.runs.moves.goes_on true piece);
    appended = Appends-kept old new newer r.runs.written r.runs.appended w;
  }

  -- a piece was read and run in part

  pub Running-part : (start : State) (here : LineReading State) (left : ℕ) (input unread rest old new newer : Option (List ℕ))
      (piece : List ℕ) → Running start here left input unread old new → Consumes unread rest piece
      → RunsPart answer here piece new newer → length piece ≤ left → PartRun answer start input_limit input rest old newer
  Running-part start here left input unread rest old new newer piece r c g fits =
      let breaks = Moves-then_breaks State answer (line_reading 1 start []) here r.octets piece r.runs.written g.written r.runs.moves g.breaks in
      record {
        octets = r.octets ++ piece;
        written = r.runs.written ++ g.written;
        read = ReadsOff-consumed input rest (r.octets ++ piece) (Consumes-trans input unread rest r.octets piece r.consumed c);
        within = omega (arith, length-append r.octets piece, r.within);
        begins = begun_by start (r.octets ++ piece) (r.runs.written ++ g.written) (breaks.begins []);
        appended = Appends-trans old new newer r.runs.written g.written r.runs.appended g.appended;
      }

  pub Running-lost : (start : State) (here : LineReading State) (left : ℕ) (input unread rest old new newer : Option (List ℕ))
      (piece : List ℕ) → Running start here left input unread old new → Consumes unread rest piece
      → RunsLost answer here piece new newer → length piece ≤ left → LostRun answer start input_limit input rest old newer
  Running-lost start here left input unread rest old new newer piece r c g fits =
      let breaks = Moves-then_breaks State answer (line_reading 1 start []) here r.octets piece r.runs.written g.written r.runs.moves g.breaks in
      record {
        octets = r.octets ++ piece;
        written = r.runs.written ++ g.written;
        read = ReadsOff-consumed input rest (r.octets ++ piece) (Consumes-trans input unread rest r.octets piece r.consumed c);
        within = omega (arith, length-append r.octets piece, r.within);
        begins = begun_by start (r.octets ++ piece) (r.runs.written ++ g.written) (breaks.begins []);
        appended = Appends-more_or_lost old new newer r.runs.written g.written r.runs.appended g.appended;
      }

  -- a bad line

  reads_at_most : (start : State) (here : LineReading State) (left : ℕ) (input unread rest old new : Option (List ℕ)) (piece : List ℕ)
      → Running start here left input unread old new → Consumes unread rest piece → length piece ≤ left
      → ReadsAtMost input_limit input rest
  reads_at_most start here left input unread rest old new piece r c fits = record {
    octets = r.octets ++ piece;
    read = ReadsOff-consumed input rest (r.octets ++ piece) (Consumes-trans input unread rest r.octets piece r.consumed c);
    within = omega (arith, length-append r.octets piece, r.within);
  }

  -- a line that is bad whatever follows is one of those that are run
  limited_report-bad : (start : State) (read more written : List ℕ) (n : ℕ) → length read ≤ input_limit
      → StopsBad answer (line_reading 1 start []) read written n
      → limited_report answer start (read ++ more) ≡ wrote written (stopped_at n)
  limited_report-bad start read more written n fits bad =
      let later : ℕ = input_limit - length read in
      let limit : input_limit ≡ length read + later = omega arith in
      let cut : take input_limit (read ++ more) ≡ read ++ take later more =
      ap (λ (k : ℕ). take k (read ++ more)) limit ∙ take-append-add read more later in
      elim (nat_lt input_limit (length (read ++ more)))
      as (λ b. report answer 1 start (if b then settled_lines (take input_limit (read ++ more)) else lines_of (read ++ more)) ≡ wrote written (stopped_at n)) [
        | true ↦ ap (λ (s : List ℕ). report answer 1 start (settled_lines s)) cut ∙ bad.stops false (take later more)
        | false ↦ bad.stops true more
      ]

  pub Running-bad : (start : State) (here : LineReading State) (left n : ℕ) (input unread rest old new newer : Option (List ℕ))
      (piece : List ℕ) → Running start here left input unread old new → Consumes unread rest piece
      → RunsBad answer here piece n new newer → length piece ≤ left → BadRun answer start n input rest old newer
  Running-bad start here left n None unread rest old new newer piece r c g fits =
      (reads_at_most start here left None unread rest old new piece r c fits, tt)
  Running-bad start here left n (Some input) unread rest old new newer piece r c g fits =
      let bad = Runs-then_bad State answer (line_reading 1 start []) here r.octets piece [] n old new newer r.runs g in
      let stops : StopsBad answer (line_reading 1 start []) (r.octets ++ piece) bad.written n = rw append-nil at bad.stops in
      let begun = Consumes-begun input rest (r.octets ++ piece) (Consumes-trans (Some input) unread rest r.octets piece r.consumed c) in
      let whole : script_report answer start input ≡ wrote bad.written (stopped_at n) =
      ap (script_report answer start) begun.1 ∙ stops.stops true begun.0 in
      let limited : limited_report answer start input ≡ wrote bad.written (stopped_at n) =
      ap (limited_report answer start) begun.1
      ∙ limited_report-bad start (r.octets ++ piece) begun.0 bad.written n (omega (arith, length-append r.octets piece, r.within)) stops in (
        reads_at_most start here left (Some input) unread rest old new piece r c fits,
        rw (whole, limited) (refl, refl, rw append-nil bad.appended),
      )

  -- the end of the input

  whole_report : (start : State) (here : LineReading State) (input octets written : List ℕ) (r : Report) → input ≡ octets
      → ((rest : List ℕ) → report_at answer true (line_reading 1 start []) (octets ++ rest) ≡ wrote written (report_at answer true here rest))
      → report_at answer true here [] ≡ r → script_report answer start input ≡ wrote written r
  whole_report start here input octets written r e g f =
      ap (script_report answer start) (e ∙ sym (append-nil octets)) ∙ g [] ∙ ap (wrote written) f

  pub Running-whole : (start : State) (here : LineReading State) (left : ℕ) (input unread rest old new newer : Option (List ℕ))
      → Running start here left input unread old new → Consumes unread rest [] → IsAtEnd rest
      → Finishes answer here new newer → WholeRun answer start input old newer
  Running-whole start here left None unread rest old new newer r c e f = tt
  Running-whole start here left (Some input) unread rest old new newer r c e f =
      let all : input ≡ r.octets =
      Consumes-all input rest (r.octets ++ []) (Consumes-trans (Some input) unread rest r.octets [] r.consumed c) e ∙ append-nil r.octets in
      let whole : script_report answer start input ≡ wrote r.runs.written (wrote f.written empty_report) =
      whole_report start here input r.octets r.runs.written (wrote f.written empty_report) all (r.runs.moves.goes_on true) f.is in
      rw whole (
        omega (arith, ap length all, r.within),
        refl,
        rw append-nil (Appends-trans old new newer r.runs.written f.written r.runs.appended f.appended),
      )

  -- a script within the limit is run whole
  limited_report-whole : (start : State) (input : List ℕ) → length input ≤ input_limit
      → limited_report answer start input ≡ script_report answer start input
  limited_report-whole start input fits = let short : nat_lt input_limit (length input) ≡ false = search rules in rw short refl

  pub Running-ends_bad : (start : State) (here : LineReading State) (left n : ℕ) (input unread rest old new newer : Option (List ℕ))
      → Running start here left input unread old new → Consumes unread rest [] → IsAtEnd rest
      → FinishesBad answer here n new newer → BadRun answer start n input rest old newer
  Running-ends_bad start here left n None unread rest old new newer r c e f =
      (reads_at_most start here left None unread rest old new [] r c (omega arith), tt)
  Running-ends_bad start here left n (Some input) unread rest old new newer r c e f =
      let all : input ≡ r.octets =
      Consumes-all input rest (r.octets ++ []) (Consumes-trans (Some input) unread rest r.octets [] r.consumed c) e ∙ append-nil r.octets in
      let whole : script_report answer start input ≡ wrote r.runs.written (stopped_at n) =
      whole_report start here input r.octets r.runs.written (stopped_at n) all (r.runs.moves.goes_on true) f.is in
      let limited : limited_report answer start input ≡ wrote r.runs.written (stopped_at n) =
      limited_report-whole start input (omega (arith, ap length all, r.within)) ∙ whole in (
        reads_at_most start here left (Some input) unread rest old new [] r c (omega arith),
        rw (whole, limited) (refl, refl, rw append-nil (Appends-kept old new newer r.runs.written r.runs.appended f.kept)),
      )

  pub Running-ends_lost : (start : State) (here : LineReading State) (left : ℕ) (input unread rest old new newer : Option (List ℕ))
      → Running start here left input unread old new → Consumes unread rest []
      → FinishesLost answer here new newer → LostRun answer start input_limit input rest old newer
  Running-ends_lost start here left input unread rest old new newer r c f =
      record {
        octets = r.octets ++ [];
        written = r.runs.written ++ f.written;
        read = ReadsOff-consumed input rest (r.octets ++ []) (Consumes-trans input unread rest r.octets [] r.consumed c);
        within = omega (arith, length-append r.octets [], r.within);
        begins = (
          f.begins.0,
          ap (λ (s : Report). s.text) (r.runs.moves.goes_on true []) ∙ ap (λ (s : List ℕ). r.runs.written ++ s) f.begins.1
              ∙ sym (append_assoc r.runs.written f.written f.begins.0),
        );
        appended = Appends-more_or_lost old new newer r.runs.written f.written r.runs.appended f.appended;
      }

  -- one octet more than there may be

  limited_report-long : (start : State) (read more : List ℕ) → length read ≡ input_limit → 0 < length more
      → limited_report answer start (read ++ more) ≡ report answer 1 start (settled_lines read)
  limited_report-long start read more full some =
      let longer : input_limit < length (read ++ more) = omega (arith, length-append read more) in
      let over : nat_lt input_limit (length (read ++ more)) ≡ true = search rules in
      let cut : take input_limit (read ++ more) ≡ read = ap (λ (k : ℕ). take k (read ++ more)) (sym full) ∙ take-append_seam read more in
      rw (over, cut) refl

  -- nothing is settled of the line that is being read
  settled_report : (start : State) (here : LineReading State) (octets written : List ℕ)
      → report_at answer false (line_reading 1 start []) (octets ++ []) ≡ wrote written (report_at answer false here [])
      → IsOneLine here.line → length here.line ≤ line_limit
      → report answer 1 start (settled_lines octets) ≡ wrote written empty_report
  settled_report start here octets written e one_line fits =
      ap (λ (s : List ℕ). report answer 1 start (settled_lines s)) (sym (append-nil octets)) ∙ e
      ∙ ap (λ (s : List ℕ). wrote written (report answer here.number here.state (settled_lines s))) (append-nil here.line)
      ∙ ap (λ (lines : List (List ℕ)). wrote written (report answer here.number here.state lines)) (settled_lines-none here.line one_line fits)

  pub Running-long : (start : State) (here : LineReading State) (input unread rest old new : Option (List ℕ)) (piece : List ℕ)
      → Running start here 0 input unread old new → Consumes unread rest piece → 0 < length piece
      → IsOneLine here.line → length here.line ≤ line_limit → LongRun answer start input old new
  Running-long start here None unread rest old new piece r c some one_line fits = tt
  Running-long start here (Some input) unread rest old new piece r c some one_line fits =
      let begun = Consumes-begun input rest (r.octets ++ piece) (Consumes-trans (Some input) unread rest r.octets piece r.consumed c) in
      let same : input ≡ r.octets ++ (piece ++ begun.0) = begun.1 ∙ append_assoc r.octets piece begun.0 in
      let full : length r.octets ≡ input_limit = omega (arith, r.within) in
      let more : 0 < length (piece ++ begun.0) = omega (arith, length-append piece begun.0) in
      let limited : limited_report answer start input ≡ wrote r.runs.written empty_report =
      ap (limited_report answer start) same
      ∙ limited_report-long start r.octets (piece ++ begun.0) full more
      ∙ settled_report start here r.octets r.runs.written (r.runs.moves.goes_on false []) one_line fits in (
        omega (arith, ap length same, length-append r.octets (piece ++ begun.0)),
        rw limited refl,
        rw limited (rw append-nil r.runs.appended),
      )

  -- nothing was read
  pub PartRun-none : (start : State) (most : ℕ) (input old : Option (List ℕ)) → input_limit ≤ most
      → PartRun answer start most input input old old
  PartRun-none start most input old enough =
      Running-fails start (line_reading 1 start []) input_limit most input input input old old old (Running-none start input old) (KeptOrLost-same input)
      (Keeps-refl old) enough
