-- What the lines of `links` say: only what may be handed in.
use Rattle.std.proofs.Common.{◌≡◌, ◌≢◌, ℕ, suc, ◌+◌, true, false, if◌then◌else◌, List, [], ◌∷◌, ◌++◌, length, map, drop, get_or, ◌<◌, Option, Some, None, Result, Ok, Err, sym, ap, ◌∙◌, subst}
use Rattle.std.proofs.Math.Seq.{drop-cons}
use Rattle.std.specs.Prelude.{⊤}
use Rattle.std.specs.List.{AllByRecursion}
use Rattle.cfdp_commands.specs.Commands.{Command, SaysPdu, command_in}
use Rattle.cfdp_commands.specs.Commands as command
use Rattle.cfdp_lines.specs.Lines.{is_overlong, is_comment, lines_of}
use Rattle.cfdp_lines.specs.declared.faults.LinkFault.{LinkFault}
use Rattle.cfdp_links.specs.Linked.{IsBadFile, IsHeard}
use Rattle.cfdp_links.specs.Links.{Said, Reading, Files, said_by, link_said, link_answer, read_then, read_from, file_said, files_from, link_files}
use Rattle.cfdp_commands.specs.Replay.{ReplayStage, configured, protected, without_text}
use Rattle.cfdp_lines.specs.Report.{line_answer}
use Rattle.cfdp_commands.proofs.Handing.{local_readable}

-- ---- lines

-- what a line says, if it is not bad
AreHeard : Option (ReplayStage × List Said) → Type 0
AreHeard None = ⊤
AreHeard (Some answered) = AllByRecursion IsHeard answered.1

without_text-heard : (next : Option ReplayStage) → AreHeard (without_text next)
unfolding AreHeard
without_text-heard None = tt
without_text-heard (Some stage) = tt

said_by-heard : (stage : ReplayStage) (said : Command) → AreHeard (said_by stage said)
unfolding AreHeard
said_by-heard stage (command.Config entity blocks cap checks journal) = without_text-heard (configured stage entity blocks cap checks journal)
said_by-heard stage (command.Protect octets) = without_text-heard (protected stage octets)
said_by-heard stage (command.Pdu octets) = (tt, tt)
said_by-heard stage (command.Local which id) = (local_readable which id, tt)
said_by-heard stage command.Run = (tt, tt)
said_by-heard stage command.ListAll = tt

link_said-heard : (stage : ReplayStage) (said : Option (Option Command)) → AreHeard (link_said stage said)
unfolding AreHeard
link_said-heard stage None = tt
link_said-heard stage (Some None) = tt
link_said-heard stage (Some (Some said)) = said_by-heard stage said

line_answer-heard : (stage : ReplayStage) (line : List ℕ) → AreHeard (line_answer link_answer stage line)
unfolding AreHeard
line_answer-heard stage line =
    elim (is_overlong line) as (λ long. AreHeard (if long then None else if is_comment line then Some (stage, []) else link_answer stage line)) [
      | true ↦ tt
      | false ↦ elim (is_comment line) as (λ comment. AreHeard (if comment then Some (stage, []) else link_answer stage line)) [
        | true ↦ tt
        | false ↦ link_said-heard stage (command_in line)
      ]
    ]

-- a PDU that came is never bad
pub pdu_said : (stage : ReplayStage) (said : Option (Option Command)) → SaysPdu said → link_said stage said ≢ None
pdu_said stage None pdu none = pdu
pdu_said stage (Some None) pdu none = pdu
pdu_said stage (Some (Some (command.Config entity blocks cap checks journal))) pdu none = pdu
pdu_said stage (Some (Some (command.Protect octets))) pdu none = pdu
pdu_said stage (Some (Some (command.Pdu octets))) pdu none = absurd cc
pdu_said stage (Some (Some (command.Local which id))) pdu none = pdu
pdu_said stage (Some (Some command.Run)) pdu none = pdu
pdu_said stage (Some (Some command.ListAll)) pdu none = pdu

-- ---- files

heard_more : (said more : List Said) → AllByRecursion IsHeard said → AllByRecursion IsHeard more → AllByRecursion IsHeard (said ++ more)
heard_more [] more h k = k
heard_more (one ∷ said) more h k = (h.0, heard_more said more h.1 k)

-- of a file without a bad line
abbrev pub IsHeardOf : Result Reading ℕ → Type 0
IsHeardOf (Ok reading) = AllByRecursion IsHeard reading.said
IsHeardOf (Err line) = ⊤

read_then-heard : (number : ℕ) (said : List Said) (answered : Option (ReplayStage × List Said)) (later : Reading → Result Reading ℕ)
    → AllByRecursion IsHeard said → AreHeard answered
    → ((after : Reading) → AllByRecursion IsHeard after.said → IsHeardOf (later after)) → IsHeardOf (read_then number said answered later)
unfolding AreHeard
read_then-heard number said None later h k goes = tt
read_then-heard number said (Some answered) later h k goes =
    goes (record { stage = answered.0; said = said ++ answered.1 }) (heard_more said answered.1 h k)

read_from-heard : (number : ℕ) (reading : Reading) (lines : List (List ℕ)) → AllByRecursion IsHeard reading.said
    → IsHeardOf (read_from number reading lines)
read_from-heard number reading [] heard = heard
read_from-heard number reading (line ∷ lines) heard =
    read_then-heard number reading.said (line_answer link_answer reading.stage line) (λ after. read_from (number + 1) after lines) heard
    (line_answer-heard reading.stage line) (λ after h. read_from-heard (number + 1) after lines h)

pub file_heard : (stage : ReplayStage) (script : List ℕ) (reading : Reading) → file_said stage script ≡ Ok reading → AllByRecursion IsHeard reading.said
file_heard stage script reading read =
    subst IsHeardOf read (read_from-heard 1 (record { stage = stage; said = [] }) (lines_of script) tt)

-- a bad line in the file that comes next is the first one
pub bad_following : {X : Type 0} (octets : X → List ℕ) (file : ℕ) (stage : ReplayStage) (said : List (List Said)) (all : List X) (one : X)
    (script : List ℕ) (fault : LinkFault) → file < length all → one ≡ get_or all file one → script ≡ octets one
    → files_from file stage said (map octets (drop file all)) ≡ link_files (map octets all)
    → ((more : List (List ℕ)) → IsBadFile (files_from file stage said (script ∷ more)) fault) → IsBadFile (link_files (map octets all)) fault
bad_following octets file stage said all one script fault within at is reads bad =
    let rest = map octets (drop (suc file) all) in
    let first : script ∷ rest ≡ map octets (drop file all) =
    ap (λ (s : List ℕ). s ∷ rest) (is ∙ ap octets at) ∙ sym (ap (map octets) (drop-cons all file one within)) in
    subst (λ (read : Result Files (ℕ × ℕ)). IsBadFile read fault) (ap (files_from file stage said) first ∙ reads) (bad rest)

-- one file more, of which only what may be handed in is said
pub heard_following : {X : Type 0} (said : X → List Said) (files more : List X) (file : X) → more ≡ files ++ file ∷ []
    → AllByRecursion IsHeard (said file) → AllByRecursion (λ f. AllByRecursion IsHeard (said f)) files
    → AllByRecursion (λ f. AllByRecursion IsHeard (said f)) more
heard_following {X = X} said files more file grown last before =
    subst (AllByRecursion (λ f. AllByRecursion IsHeard (said f))) (sym grown) (all_following files before)
  where
    all_following : (fs : List X) → AllByRecursion (λ f. AllByRecursion IsHeard (said f)) fs
        → AllByRecursion (λ f. AllByRecursion IsHeard (said f)) (fs ++ file ∷ [])
    all_following [] known = (last, tt)
    all_following (f ∷ fs) known = (known.0, all_following fs known.1)
