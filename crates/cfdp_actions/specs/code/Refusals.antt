-- What only the proofs of the code need of `Refusals`.
--     file_refusal, directory_refusal    why a file, or a directory, may not go, by what is at its path
--     joint_refusal                      why two files may not be joined, by what is at their paths
use Rattle.std.specs.Prelude.{Bool, true, false, Option, Some, None}
use Rattle.cfdp_status.specs.declared.action.Action.{Action}
use Rattle.cfdp_status.specs.declared.status.Status.{Status}
use Rattle.cfdp_status.specs.declared.status.Status.TheVariants.{NotAllowed}
use Rattle.cfdp_actions.specs.declared.kind.Kind.{Kind}
use Rattle.cfdp_actions.specs.declared.kind.Kind.TheVariants as kind

-- where nothing exists the action has its own answer
abbrev pub file_refusal : Action → Option Status → Option Kind → Option Status
file_refusal action absent None = absent
file_refusal action absent (Some kind.Directory) = Some (NotAllowed action)
file_refusal action absent (Some kind.File) = None

-- nor where it has entries
abbrev pub directory_refusal : Action → Option Status → Option Kind → Bool → Option Status
directory_refusal action absent None entries = absent
directory_refusal action absent (Some kind.File) entries = Some (NotAllowed action)
directory_refusal action absent (Some kind.Directory) true = Some (NotAllowed action)
directory_refusal action absent (Some kind.Directory) false = None

-- the two answers where nothing is at the first path, or at the second
abbrev pub joint_refusal : Action → Status × Status → Option Kind → Option Kind → Option Status
joint_refusal action absent None _ = Some absent.0
joint_refusal action absent (Some a) None = Some absent.1
joint_refusal action absent (Some kind.Directory) (Some b) = Some (NotAllowed action)
joint_refusal action absent (Some kind.File) (Some kind.Directory) = Some (NotAllowed action)
joint_refusal action absent (Some kind.File) (Some kind.File) = None
