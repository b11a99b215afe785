-- What `clap` makes of the program's commands.
use Rattle.std.proofs.Common.{◌≡◌, ℕ, max, true, List, [], ◌∷◌, Option, Some, None, codes, refl, ap, ap₂, ◌∙◌}
use Rattle.std.specs.Option.{IsSomeAnd}
use Rattle.clap.specs.declared.builder.arg.Arg.{Arg}
use Rattle.clap.specs.declared.builder.range.ValueRange.{ValueRange}
use Rattle.clap.specs.Words.{App, Shape, Rule, is_simple, is_simple_and_free, new_app, new_rule, rule_of, takes, with_subcommand}
use Rattle.clap.specs.Simple.{on_top, new_shape, with_rule}
use Rattle.clap.proofs.OnLiterals.{clap_on_literals}
use Rattle.cfdp_command_line.specs.Words.{file_rule, files_rule, links_shape, program, replay_shape}

-- the command `replay` that is built is the one of the definition
pub replay_is : (empty made : App) (rule : Rule) → empty ≡ new_app (codes "replay") → rule ≡ new_rule (codes "FILE")
    → made ≡ with_rule empty rule → made.top ≡ replay_shape
replay_is empty made rule e r m = ap (λ (a : App). a.top) (m ∙ ap₂ with_rule e r)

-- from one to four values
pub range_is : (range : Option ValueRange) (least most : ℕ) → least ≡ 1 → most ≡ 4
    → IsSomeAnd range (λ r. r ≡ record { start_inclusive = least; end_inclusive = max most least })
    → range ≡ Some (record { start_inclusive = 1; end_inclusive = 4 })
range_is None least most l m is = absurd is
range_is (Some range) least most l m is = ap Some (is ∙ (λ i. record { start_inclusive = l i; end_inclusive = max (m i) (l i) }))

-- an argument that has to be there once to four times
pub files_rule_is : (arg needed several : Arg) → rule_of arg ≡ file_rule → needed ≡ record arg { required = true }
    → several ≡ record needed { num_vals = several.num_vals } → several.num_vals ≡ Some (record { start_inclusive = 1; end_inclusive = 4 })
    → rule_of several ≡ files_rule
files_rule_is arg needed several r n s v =
    ap rule_of (s ∙ ap₂ (λ (a : Arg) o. record a { num_vals = o }) n v)
    ∙ ap (λ (rule : Rule). record rule { required = true; range = Some (record { start_inclusive = 1; end_inclusive = 4 }) }) r

-- and so is `links`
pub links_is : (empty made : App) (rule : Rule) → empty ≡ new_app (codes "links") → rule ≡ files_rule
    → made ≡ with_rule empty rule → made.top ≡ links_shape
links_is empty made rule e r m = ap (λ (a : App). a.top) (m ∙ ap₂ with_rule e r)

-- and the program
pub program_is : (empty named first second made : App) (plain replay links : Shape) → empty ≡ new_app (codes "cfdpsim")
    → named ≡ on_top (λ shape. record shape { subcommand_required = true }) empty → plain ≡ new_shape (codes "plain")
    → replay ≡ replay_shape → links ≡ links_shape → first ≡ with_subcommand named plain → second ≡ with_subcommand first replay
    → made ≡ with_subcommand second links → made ≡ program
program_is empty named first second made plain replay links e n p r l f s m =
    m
    ∙ ap₂ with_subcommand
    (s ∙ ap₂ with_subcommand
    (f ∙ ap₂ with_subcommand (n ∙ ap (on_top (λ shape. record shape { subcommand_required = true })) e) p)
    r)
    l

pub program_is_simple : is_simple program ≡ true
unfolding clap_on_literals
program_is_simple = refl

pub program_is_free : is_simple_and_free program ≡ true
unfolding clap_on_literals
program_is_free = refl

-- `plain` alone is taken
pub plain_is_taken : (name : List ℕ) → takes program (name ∷ codes "plain" ∷ []) ≡ true
unfolding clap_on_literals
plain_is_taken name = refl

-- and `replay` alone
pub replay_is_taken : (name : List ℕ) → takes program (name ∷ codes "replay" ∷ []) ≡ true
unfolding clap_on_literals
replay_is_taken name = refl
