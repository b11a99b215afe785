-- Which numbers a configuration takes.
use Rattle.std.proofs.Common.{◌≡◌, ℕ, List, [], ◌∷◌, Option, Some, None, refl, arith}
use Rattle.cfdp_commands.specs.Commands.{config_by}
use Rattle.cfdp_lines.proofs.Answering.{NotFew, too_few}

pub config_by-none : (numbers : Option (List ℕ)) → NotFew numbers → config_by numbers ≡ None
config_by-none None h = refl
config_by-none (Some []) h = refl
config_by-none (Some (a ∷ [])) h = refl
config_by-none (Some (a ∷ b ∷ [])) h = refl
config_by-none (Some (a ∷ b ∷ c ∷ [])) h = refl
config_by-none (Some (a ∷ b ∷ c ∷ d ∷ [])) h = refl
config_by-none (Some (a ∷ b ∷ c ∷ d ∷ e ∷ [])) h = too_few (a ∷ b ∷ c ∷ d ∷ e ∷ []) (omega arith) h
config_by-none (Some (a ∷ b ∷ c ∷ d ∷ e ∷ f ∷ numbers)) h = refl
