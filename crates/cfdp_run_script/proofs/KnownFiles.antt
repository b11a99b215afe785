-- A script of which octets come, where the files are known.
use Rattle.std.proofs.Common.{◌≡◌, ◌≢◌, ℕ, ◌+◌, ◌<◌, true, List, [], ◌++◌, length, take, subst, ◌∙◌}
use Rattle.std.specs.Prelude.{Some, None, IfSome}
use Rattle.cfdp_lines.specs.Answers.{Adds}
use Rattle.cfdp_lines.specs.Cutting.{EndsLine, IsTooLong}
use Rattle.cfdp_lines.specs.Lines.{IsOneLine}
use Rattle.cfdp_lines.specs.Report.{stopped_at}
use Rattle.cfdp_lines.specs.Session.{line_reading, report_at, StopsBad}
use Rattle.cfdp_lines.proofs.Feeding.{Adds-gather, Stops-overlong}
use Rattle.cfdp_run.specs.Scripts.{ScriptStage, answer, line_step}
use Rattle.cfdp_run.specs.Stops.{IsWrong, NoMemory, stop_of}
use Rattle.cfdp_run.specs.declared.stop.ScriptStop.{ScriptStop as StopValue}
use Rattle.cfdp_run.specs.declared.wrong.Wrong.TheVariants.{TooLong}
use Rattle.cfdp_run_script.specs.Sessions.{EndsScript, ScriptGoesOn, StopsFor, why_at}
use Rattle.cfdp_run_script.specs.Steps.{Leads, StopsScript}
use Rattle.cfdp_run_script.proofs.Carrying as carrying
use Rattle.cfdp_run_script.proofs.Steps.{Known}

-- ---- a line ends

whole_line : (line octets ended : List ℕ) (at : ℕ) → EndsLine line octets at ended → IsOneLine (line ++ take at octets)
whole_line line octets ended at ends = subst IsOneLine ends.whole ends.one_line

pub adds : (known : Known) (n : ℕ) (s after : ScriptStage) (line octets ended given before text : List ℕ) (at : ℕ) → EndsLine line octets at ended →
    given ≡ ended → IfSome known (λ map. Leads (line_step map s given) after before text) →
    IfSome known (λ map. Adds (answer map) (line_reading n s line) (line_reading (n + 1) after []) (take (at + 1) octets) before text)
adds None n s after line octets ended given before text at ends same d = tt
adds (Some map) n s after line octets ended given before text at ends same d =
    carrying.adds map n s after line octets before text at (whole_line line octets ended at ends) ends.within ends.newline
    (subst (λ (l : List ℕ). Leads (line_step map s l) after before text) (same ∙ ends.whole) d)

pub goes_on : (known : Known) (n : ℕ) (s after : ScriptStage) (line octets ended given before text : List ℕ) (at : ℕ) → EndsLine line octets at ended →
    given ≡ ended → IfSome known (λ map. Leads (line_step map s given) after before text) →
    IfSome known (λ map. ScriptGoesOn map (line_reading n s line) (line_reading (n + 1) after []) (take (at + 1) octets))
goes_on None n s after line octets ended given before text at ends same d = tt
goes_on (Some map) n s after line octets ended given before text at ends same d =
    carrying.goes_on map n s after line octets before text at (whole_line line octets ended at ends) ends.within ends.newline
    (subst (λ (l : List ℕ). Leads (line_step map s l) after before text) (same ∙ ends.whole) d)

pub stops : (known : Known) (n : ℕ) (s : ScriptStage) (line octets ended given : List ℕ) (at : ℕ) (why : StopValue) → EndsLine line octets at ended →
    given ≡ ended → IfSome known (λ map. StopsScript (line_step map s given) why) → stop_of why ≢ NoMemory →
    IfSome known (λ map. StopsBad (answer map) (line_reading n s line) octets [] n)
stops None n s line octets ended given at why ends same d not_memory = tt
stops (Some map) n s line octets ended given at why ends same d not_memory =
    carrying.stops_at map n s line octets at why (whole_line line octets ended at ends) ends.within ends.newline
    (subst (λ (l : List ℕ). StopsScript (line_step map s l) why) (same ∙ ends.whole) d) not_memory

pub stops_for : (known : Known) (n : ℕ) (s : ScriptStage) (line octets ended given : List ℕ) (at : ℕ) (why : StopValue) → EndsLine line octets at ended →
    given ≡ ended → IfSome known (λ map. StopsScript (line_step map s given) why) →
    IfSome known (λ map. StopsFor map (line_reading n s line) octets why)
stops_for None n s line octets ended given at why ends same d = tt
stops_for (Some map) n s line octets ended given at why ends same d =
    carrying.stops_for map n s line octets at why (whole_line line octets ended at ends) ends.within ends.newline
    (subst (λ (l : List ℕ). StopsScript (line_step map s l) why) (same ∙ ends.whole) d)

-- ---- octets of a line that does not end

pub gathers : (known : Known) (n : ℕ) (s : ScriptStage) (line octets text : List ℕ) →
    IfSome known (λ map. Adds (answer map) (line_reading n s line) (line_reading n s (line ++ octets)) octets text text)
gathers None n s line octets text = tt
gathers (Some map) n s line octets text = Adds-gather ScriptStage (answer map) n s line octets text

pub goes_nowhere : (known : Known) (n : ℕ) (s : ScriptStage) (line octets : List ℕ) →
    IfSome known (λ map. ScriptGoesOn map (line_reading n s line) (line_reading n s (line ++ octets)) octets)
goes_nowhere None n s line octets = tt
goes_nowhere (Some map) n s line octets = carrying.goes_nowhere map n s line octets

-- too many octets before a newline

pub long : (known : Known) (n : ℕ) (s : ScriptStage) (line octets : List ℕ) → IsTooLong line octets →
    IfSome known (λ map. StopsBad (answer map) (line_reading n s line) octets [] n)
long None n s line octets over = tt
long (Some map) n s line octets over = Stops-overlong ScriptStage (answer map) n s line octets over.count over.goes_on.one_line over.one_line over.long

pub long_for : (known : Known) (n : ℕ) (s : ScriptStage) (line octets : List ℕ) (why : StopValue) → (stop_of why ≢ NoMemory → IsTooLong line octets) →
    (stop_of why ≢ NoMemory → stop_of why ≡ IsWrong TooLong) → IfSome known (λ map. StopsFor map (line_reading n s line) octets why)
long_for None n s line octets why over is = tt
long_for (Some map) n s line octets why over is = carrying.long_for map n s line octets why over is

-- ---- the script ends

pub ends : (known : Known) (n : ℕ) (s after : ScriptStage) (line given before text : List ℕ) → IsOneLine line → 0 < length line → given ≡ line →
    IfSome known (λ map. Leads (line_step map s given) after before text) → IfSome known (λ map. EndsScript map (line_reading n s line) before text)
ends None n s after line given before text one few same d = tt
ends (Some map) n s after line given before text one few same d =
    carrying.ends_line map n s after line before text one few (subst (λ (l : List ℕ). Leads (line_step map s l) after before text) same d)

pub ends_well : (known : Known) (n : ℕ) (s after : ScriptStage) (line given before text : List ℕ) → IsOneLine line → 0 < length line → given ≡ line →
    IfSome known (λ map. Leads (line_step map s given) after before text) → IfSome known (λ map. why_at map true (line_reading n s line) [] ≡ None)
ends_well None n s after line given before text one few same d = tt
ends_well (Some map) n s after line given before text one few same d =
    carrying.goes_well map n s after line before text one few (subst (λ (l : List ℕ). Leads (line_step map s l) after before text) same d)

pub ends_stopped : (known : Known) (n : ℕ) (s : ScriptStage) (line given : List ℕ) (why : StopValue) → IsOneLine line → 0 < length line → given ≡ line →
    IfSome known (λ map. StopsScript (line_step map s given) why) → stop_of why ≢ NoMemory →
    IfSome known (λ map. report_at (answer map) true (line_reading n s line) [] ≡ stopped_at n)
ends_stopped None n s line given why one few same d not_memory = tt
ends_stopped (Some map) n s line given why one few same d not_memory =
    carrying.stops_last map n s line why one few (subst (λ (l : List ℕ). StopsScript (line_step map s l) why) same d) not_memory

pub ends_why : (known : Known) (n : ℕ) (s : ScriptStage) (line given : List ℕ) (why : StopValue) → IsOneLine line → 0 < length line → given ≡ line →
    IfSome known (λ map. StopsScript (line_step map s given) why) → stop_of why ≢ NoMemory →
    IfSome known (λ map. why_at map true (line_reading n s line) [] ≡ Some (stop_of why))
ends_why None n s line given why one few same d not_memory = tt
ends_why (Some map) n s line given why one few same d not_memory =
    carrying.why_last map n s line why one few (subst (λ (l : List ℕ). StopsScript (line_step map s l) why) same d) not_memory
