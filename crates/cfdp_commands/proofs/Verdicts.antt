-- Which lines `protect` are bad, and which are not.
use Rattle.std.proofs.Common.{◌≡◌, ◌≢◌, ◌∙◌, sym, ap, ℕ, ◌<◌, nat_lt, true, List, length, Option, Some, None, Result, Err, ◌↔◌, refl, rules}
use Rattle.std.proofs.lemmas.Option.{none-some}
use Rattle.std.specs.Prelude.{option_map}
use Rattle.cfdp_paths.specs.Paths.{Path, path_of}
use Rattle.cfdp_paths.specs.Faults.{fault_of}
use Rattle.cfdp_paths.specs.declared.fault.PathFault.{PathFault}
use Rattle.cfdp_paths.proofs.Faulty.{fault_exactly}
use Rattle.cfdp_transactions.specs.Config.{Config}
use Rattle.cfdp_lines.specs.declared.faults.LineFault.{LineFault}
use Rattle.cfdp_lines.specs.declared.faults.LineFault.TheVariants.{Bad, Memory}
use Rattle.cfdp_commands.specs.Commands.{Command, Protect, SaysPdu, protect_by}
use Rattle.cfdp_commands.specs.Commands as command
use Rattle.cfdp_commands.specs.Replay.{ReplayStage, line_answered, protected, with_prefix}
use Rattle.cfdp_commands.specs.Stages.{stage_by}
use Rattle.cfdp_commands.specs.declared.setup.SetupProgress.{SetupProgress}
use Rattle.cfdp_commands.specs.declared.setup.SetupProgress.TheVariants.{First, Open, Closed}
use Rattle.cfdp_commands.proofs.PathLengths.{no_path-long}

-- ---- what a line says

-- octets that spell no path
no_path : (octets : List ℕ) → path_of octets ≡ None → protect_by (Some octets) ≡ None
no_path octets none = ap (option_map (λ path. Protect octets)) none

-- more octets than a path has
pub protect_by-long : (octets : Option (List ℕ)) → ((some : List ℕ) → octets ≡ Some some → 776 < length some) → protect_by octets ≡ None
protect_by-long None long = refl
protect_by-long (Some octets) long = no_path octets (no_path-long octets (long octets refl))

-- octets with a fault, and without one
pub protect_by-faulty : (octets : List ℕ) (fault : PathFault) → Some fault ≡ fault_of octets → protect_by (Some octets) ≡ None
protect_by-faulty octets fault faulty = no_path octets ((fault_exactly octets).0 (λ none. none-some fault (sym none ∙ sym faulty)))

pub protect_by-good : (octets : List ℕ) → fault_of octets ≡ None → protect_by (Some octets) ≡ Some (Protect octets)
protect_by-good octets good = elim (path_of octets) as (λ o. path_of octets ≡ o → option_map (λ path. Protect octets) o ≡ Some (Protect octets)) [
  | None ↦ λ none. absurd ((fault_exactly octets).1 none good)
  | Some path ↦ λ some. refl
] refl

-- a line of which no command was read is bad exactly if it says none: only a PDU's octets take memory, which is never bad
module _ {A T U : Type 0} (answer : Option (Option Command) → Option A) (bad_is : answer None ≡ None)
    (pdu_is : (said : Option (Option Command)) → SaysPdu said → answer said ≢ None) where
  pub unread : (said : Option (Option Command)) (fault : LineFault) →
      (◌≡◌ {A = Result T LineFault} (Err fault) (Err Bad)) ↔ (said ≡ None) →
      (◌≡◌ {A = Result T LineFault} (Err fault) (Err Memory) → SaysPdu said) →
      (◌≡◌ {A = Result U LineFault} (Err fault) (Err Bad)) ↔ (answer said ≡ None)
  unread said Bad bad memory = (λ e. ap answer (bad.0 refl) ∙ bad_is, λ none. refl)
  unread said Memory bad memory = (λ e. absurd cc, λ none. absurd (pdu_is said (memory refl) none))

pub pdu_answered : (stage : ReplayStage) (said : Option (Option Command)) → SaysPdu said → line_answered stage said ≢ None
pdu_answered stage None pdu none = pdu
pdu_answered stage (Some None) pdu none = pdu
pdu_answered stage (Some (Some (command.Config entity blocks cap checks journal))) pdu none = pdu
pdu_answered stage (Some (Some (command.Protect octets))) pdu none = pdu
pdu_answered stage (Some (Some (command.Pdu octets))) pdu none = absurd cc
pdu_answered stage (Some (Some (command.Local which id))) pdu none = pdu
pdu_answered stage (Some (Some command.Run)) pdu none = pdu
pdu_answered stage (Some (Some command.ListAll)) pdu none = pdu

-- ---- what a setup does

-- no event came yet
pub protected-open : (progress : SetupProgress) (config : Config) (octets : List ℕ) → progress ≢ Closed
    → protected (stage_by progress config) octets ≡ with_prefix config (path_of octets)
protected-open First config octets before = refl
protected-open Open config octets before = refl
protected-open Closed config octets before = absurd (before refl)

-- a path that may be protected
pub with_prefix-good : (config : Config) (path : Option Path) → length config.prefixes < 8 → path ≢ None → with_prefix config path ≢ None
with_prefix-good config None few some e = some refl
with_prefix-good config (Some path) few some e =
    let room : nat_lt (length config.prefixes) 8 ≡ true = search rules in absurd (cc (rw room at e))
