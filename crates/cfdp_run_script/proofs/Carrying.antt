-- A script of which octets come: its lines one after the other, each by its definition.
use Rattle.std.proofs.Common.{◌≡◌, ◌≢◌, ℕ, ◌+◌, ◌<◌, true, false, List, [], ◌∷◌, ◌++◌, length, take, drop, get_or, refl, ap, sym, ◌∙◌, append_assoc, arith, length-append}
use Rattle.std.specs.Prelude.{Option, Some, None, Ok, Err, if◌then◌else◌}
use Rattle.std.proofs.lemmas.Bool.{lt-ltb}
use Rattle.std.proofs.lemmas.List.{append-nil, take-append-drop, drop_more, take_more}
use Rattle.std.proofs.lemmas.List.Elements.{All-append}
use Rattle.cfdp_lines.specs.Answers.{AnswersLine, Adds}
use Rattle.cfdp_lines.specs.Cutting.{IsTooLong}
use Rattle.cfdp_lines.specs.Lines.{is_newline, line_limit, is_overlong, is_comment, lines_of, IsOneLine}
use Rattle.cfdp_lines.specs.Report.{and_then_report, empty_report, line_answer, stopped_at}
use Rattle.cfdp_lines.specs.Session.{line_reading, lines_by, report_at, StopsBad}
use Rattle.cfdp_lines.specs.Words.{words_of}
use Rattle.cfdp_lines.proofs.Feeding.{Adds-line, Stops-line}
use Rattle.cfdp_lines.proofs.LineLemmas.{lines_by-newline, lines_by-begun, lines_of-last}
use Rattle.cfdp_lines.proofs.Moving.{report_at-last}
use Rattle.cfdp_run.specs.Commands.{texts_say}
use Rattle.cfdp_run.specs.Scripts.{ScriptStage, Step, ok_in, answer, line_step, said_step, mib_of, progress_of, why_by, why_from}
use Rattle.cfdp_run.specs.Stops.{ScriptEnd, IsWrong, NoMemory, stop_of}
use Rattle.cfdp_run.specs.declared.stop.ScriptStop.{ScriptStop as StopValue}
use Rattle.cfdp_run.specs.declared.wrong.Wrong.TheVariants.{TooLong}
use Rattle.cfdp_run_script.specs.Sessions.{EndsScript, ScriptGoesOn, StopsFor, why_at}
use Rattle.cfdp_run_script.specs.Steps.{Leads, StopsScript}

-- a line that ends within some octets, and what comes after them
pub cut_at : (line octets rest : List ℕ) (at : ℕ) → at < length octets →
    line ++ (octets ++ rest) ≡ (line ++ take at octets) ++ (get_or octets at 0 ∷ (drop (at + 1) octets ++ rest))
cut_at line octets rest at within =
    let cut : take at octets ++ (get_or octets at 0 ∷ drop (at + 1) octets) ≡ octets =
    ap (λ (r : List ℕ). take at octets ++ r) (sym (drop_more octets at 0 within)) ∙ take-append-drop at octets in
    ap (λ (o : List ℕ). line ++ (o ++ rest)) (sym cut)
    ∙ ap (λ (o : List ℕ). line ++ o) (append_assoc (take at octets) (get_or octets at 0 ∷ drop (at + 1) octets) rest)
    ∙ sym (append_assoc line (take at octets) (get_or octets at 0 ∷ (drop (at + 1) octets ++ rest)))

-- the same up to its end
cut_after : (line octets rest : List ℕ) (at : ℕ) → at < length octets →
    line ++ (take (at + 1) octets ++ rest) ≡ (line ++ take at octets) ++ (get_or octets at 0 ∷ rest)
cut_after line octets rest at within =
    ap (λ (o : List ℕ). line ++ (o ++ rest)) (take_more octets at 0 within)
    ∙ ap (λ (o : List ℕ). line ++ o) (append_assoc (take at octets) (get_or octets at 0 ∷ []) rest)
    ∙ sym (append_assoc line (take at octets) (get_or octets at 0 ∷ rest))

module _ (files : List ℕ → Option (List ℕ)) where
  -- a line that is too long, and a comment, are reported in any case
  answered : (s : ScriptStage) (line : List ℕ) → line_answer (answer files) s line ≡ answer files s line
  answered s line =
      elim (is_overlong line) as (λ b. (if b then None else if is_comment line then Some (s, []) else ok_in (said_step files s (if b then Err TooLong
      else if is_comment line then Ok None else texts_say (mib_of s) (progress_of s) (words_of line))))
      ≡ ok_in (said_step files s (if b then Err TooLong else if is_comment line then Ok None else texts_say (mib_of s) (progress_of s) (words_of line)))) [
        | true ↦ refl
        | false ↦ elim (is_comment line) as (λ b. (if b then Some (s, []) else ok_in
            (said_step files s (if b then Ok None else texts_say (mib_of s) (progress_of s) (words_of line))))
            ≡ ok_in (said_step files s (if b then Ok None else texts_say (mib_of s) (progress_of s) (words_of line)))) [
              | true ↦ refl
              | false ↦ refl
            ]
      ]

  answers : (s after : ScriptStage) (line before text : List ℕ) → Leads (line_step files s line) after before text →
      AnswersLine (line_answer (answer files)) s after line before text
  answers s after line before text d = record { text = d.text; answered = answered s line ∙ ap ok_in d.does; appended = d.appended }

  -- ---- a line ends

  pub adds : (n : ℕ) (s after : ScriptStage) (line octets before text : List ℕ) (at : ℕ) → IsOneLine (line ++ take at octets) → at < length octets →
      is_newline (get_or octets at 0) ≡ true → Leads (line_step files s (line ++ take at octets)) after before text →
      Adds (answer files) (line_reading n s line) (line_reading (n + 1) after []) (take (at + 1) octets) before text
  adds n s after line octets before text at one within newline d =
      Adds-line ScriptStage (answer files) n s after line octets before text at one within newline (answers s after (line ++ take at octets) before text d)

  pub goes_on : (n : ℕ) (s after : ScriptStage) (line octets before text : List ℕ) (at : ℕ) → IsOneLine (line ++ take at octets) → at < length octets →
      is_newline (get_or octets at 0) ≡ true → Leads (line_step files s (line ++ take at octets)) after before text →
      ScriptGoesOn files (line_reading n s line) (line_reading (n + 1) after []) (take (at + 1) octets)
  goes_on n s after line octets before text at one within newline d = record {
    same = λ ends rest.
        let first = line ++ take at octets in
        ap (λ (o : List ℕ). why_from files s (lines_by ends o)) (cut_after line octets rest at within)
        ∙ ap (why_from files s) (lines_by-newline ends first rest (get_or octets at 0) one newline)
        ∙ ap (λ (step : Step). why_by step (λ next. why_from files next (lines_by ends rest))) d.does;
  }

  pub goes_nowhere : (n : ℕ) (s : ScriptStage) (line octets : List ℕ) → ScriptGoesOn files (line_reading n s line) (line_reading n s (line ++ octets)) octets
  goes_nowhere n s line octets = record {
    same = λ ends rest. ap (λ (o : List ℕ). why_from files s (lines_by ends o)) (sym (append_assoc line octets rest));
  }

  -- ---- the script stops

  why_first : (s : ScriptStage) (line : List ℕ) (lines : List (List ℕ)) (why : ScriptEnd) → line_step files s line ≡ Err why → why_from files s (line ∷ lines)
      ≡ Some why
  why_first s line lines why e = ap (λ (step : Step). why_by step (λ next. why_from files next lines)) e

  pub stops_at : (n : ℕ) (s : ScriptStage) (line octets : List ℕ) (at : ℕ) (why : StopValue) → IsOneLine (line ++ take at octets) → at < length octets →
      is_newline (get_or octets at 0) ≡ true → StopsScript (line_step files s (line ++ take at octets)) why → stop_of why ≢ NoMemory →
      StopsBad (answer files) (line_reading n s line) octets [] n
  stops_at n s line octets at why one within newline stops known =
      Stops-line ScriptStage (answer files) n s line octets at one within newline (answered s (line ++ take at octets) ∙ ap ok_in (stops known))

  pub stops_for : (n : ℕ) (s : ScriptStage) (line octets : List ℕ) (at : ℕ) (why : StopValue) → IsOneLine (line ++ take at octets) → at < length octets →
      is_newline (get_or octets at 0) ≡ true → StopsScript (line_step files s (line ++ take at octets)) why → StopsFor files (line_reading n s line) octets why
  stops_for n s line octets at why one within newline stops = record {
    stops = λ ends rest known.
        let first = line ++ take at octets in
        let later = drop (at + 1) octets ++ rest in
        ap (λ (o : List ℕ). why_from files s (lines_by ends o)) (cut_at line octets rest at within)
        ∙ ap (why_from files s) (lines_by-newline ends first later (get_or octets at 0) one newline)
        ∙ why_first s first (lines_by ends later) (stop_of why) (stops known);
  }

  too_long : (s : ScriptStage) (line : List ℕ) → line_limit < length line → line_step files s line ≡ Err (IsWrong TooLong)
  too_long s line long = let over : is_overlong line ≡ true = lt-ltb line_limit (length line) long in rw over refl

  -- too many octets before a newline
  pub long_for : (n : ℕ) (s : ScriptStage) (line octets : List ℕ) (why : StopValue) → (stop_of why ≢ NoMemory → IsTooLong line octets) →
      (stop_of why ≢ NoMemory → stop_of why ≡ IsWrong TooLong) → StopsFor files (line_reading n s line) octets why
  long_for n s line octets why long is = record {
    stops = λ ends rest known.
        let over = long known in
        let part = take over.count octets in
        let more = drop over.count octets in
        let front = line ++ part in
        let one : IsOneLine front = All-append (λ (x : ℕ). is_newline x ≡ false) line part over.goes_on.one_line over.one_line in
        let longer : line_limit < length front = omega (arith, length-append line part, over.long) in
        let all : line ++ (octets ++ rest) ≡ front ++ (more ++ rest) =
        ap (λ (o : List ℕ). line ++ (o ++ rest)) (sym (take-append-drop over.count octets))
        ∙ ap (λ (o : List ℕ). line ++ o) (append_assoc part more rest) ∙ sym (append_assoc line part (more ++ rest)) in
        let first = lines_by-begun ends front (more ++ rest) one longer in
        let longest : line_limit < length (front ++ first.more) = omega (arith, length-append front first.more, longer) in
        ap (λ (o : List ℕ). why_from files s (lines_by ends o)) all
        ∙ ap (why_from files s) first.are
        ∙ why_first s (front ++ first.more) first.others (IsWrong TooLong) (too_long s (front ++ first.more) longest)
        ∙ ap Some (sym (is known));
  }

  -- ---- the script ends

  pub ends_line : (n : ℕ) (s after : ScriptStage) (line before text : List ℕ) → IsOneLine line → 0 < length line → Leads
      (line_step files s line) after before text →
      EndsScript files (line_reading n s line) before text
  ends_line n s after line before text one few d = record {
    written = d.text;
    is = report_at-last ScriptStage (answer files) n s line one few
        ∙ ap (λ (o : Option (ScriptStage × List ℕ)). and_then_report n o (λ later. empty_report)) (answered s line ∙ ap ok_in d.does);
    appended = d.appended;
  }

  only : (line : List ℕ) → IsOneLine line → 0 < length line → lines_by true (line ++ []) ≡ line ∷ []
  only line one few = ap lines_of (append-nil line) ∙ lines_of-last line one few

  pub goes_well : (n : ℕ) (s after : ScriptStage) (line before text : List ℕ) → IsOneLine line → 0 < length line → Leads
      (line_step files s line) after before text →
      why_at files true (line_reading n s line) [] ≡ None
  goes_well n s after line before text one few d =
      ap (why_from files s) (only line one few) ∙ ap (λ (step : Step). why_by step (λ next. why_from files next [])) d.does

  pub stops_last : (n : ℕ) (s : ScriptStage) (line : List ℕ) (why : StopValue) → IsOneLine line → 0 < length line → StopsScript (line_step files s line) why →
      stop_of why ≢ NoMemory → report_at (answer files) true (line_reading n s line) [] ≡ stopped_at n
  stops_last n s line why one few stops known =
      report_at-last ScriptStage (answer files) n s line one few
      ∙ ap (λ (o : Option (ScriptStage × List ℕ)). and_then_report n o (λ later. empty_report)) (answered s line ∙ ap ok_in (stops known))

  pub why_last : (n : ℕ) (s : ScriptStage) (line : List ℕ) (why : StopValue) → IsOneLine line → 0 < length line → StopsScript (line_step files s line) why →
      stop_of why ≢ NoMemory → why_at files true (line_reading n s line) [] ≡ Some (stop_of why)
  why_last n s line why one few stops known = ap (why_from files s) (only line one few) ∙ why_first s line [] (stop_of why) (stops known)
