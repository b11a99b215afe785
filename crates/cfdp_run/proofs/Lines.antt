-- The numbers of a line `config`, and the words of a line `expect` one after the other.
use Rattle.std.proofs.Common.{◌≡◌, ℕ, List, [], ◌∷◌, ◌++◌, Option, Some, None, Err, flat_map, refl, ap, sym, append-nil, arith}
use Rattle.std.specs.List.{join_with_byte}
use Rattle.cfdp_lines.proofs.Answering.{NotFew, too_few}
use Rattle.cfdp_texts.specs.Replies.{word}
use Rattle.cfdp_run.specs.declared.run_commands.HeadProgress.{HeadProgress}
use Rattle.cfdp_run.specs.declared.words.FirstWord.TheVariants.{Config}
use Rattle.cfdp_run.specs.declared.wrong.Wrong.TheVariants.{Expected}
use Rattle.cfdp_run.specs.Commands.{config_in}

pub config_in-none : (how_far : HeadProgress) (numbers : Option (List ℕ)) → NotFew numbers → config_in how_far numbers ≡ Err (Expected Config)
config_in-none how_far None h = refl
config_in-none how_far (Some []) h = refl
config_in-none how_far (Some (a ∷ [])) h = refl
config_in-none how_far (Some (a ∷ b ∷ [])) h = refl
config_in-none how_far (Some (a ∷ b ∷ c ∷ [])) h = refl
config_in-none how_far (Some (a ∷ b ∷ c ∷ d ∷ [])) h = refl
config_in-none how_far (Some (a ∷ b ∷ c ∷ d ∷ e ∷ [])) h = too_few (a ∷ b ∷ c ∷ d ∷ e ∷ []) (omega arith) h
config_in-none how_far (Some (a ∷ b ∷ c ∷ d ∷ e ∷ f ∷ numbers)) h = refl

pub line_first : (text : List ℕ) (texts : List (List ℕ)) → join_with_byte 32 (text ∷ texts) ≡ text ++ flat_map word texts
line_first text [] = sym (append-nil text)
line_first text (next ∷ texts) = ap (λ (later : List ℕ). text ++ 32 ∷ later) (line_first next texts)
