-- What a list of items takes, item by item, when it runs alone.
--     cost_of prefixes F x items    the steps and blocks of a list, as its verdict counts them
--     costs_from                    of the list up to and with each item after those that are done, as far as they
--                                   succeed
--     costs_of prefixes F x items   of the list up to and with each of its items, as far as they succeed
use Rattle.std.specs.Prelude.{ℕ, if◌then◌else◌, List, [], ◌∷◌, ◌++◌}
use Rattle.cfdp_paths.specs.Paths.{Path}
use Rattle.cfdp_actions.specs.Filestore.{Filestore}
use Rattle.cfdp_actions.specs.Actions.{Item, succeeded, row}
use Rattle.cfdp_states.specs.Alone.{alone, reached, need_alone, steps_alone}
use Rattle.cfdp_verifier.specs.Verdict.{capped}
pub use Rattle.cfdp_verdicts.specs.declared.costing.Cost.{Cost}

unfoldable pub cost_of : List Path → Filestore → List ℕ → List Item → Cost
cost_of prefixes F x items = record {
  steps = capped (steps_alone prefixes F x items);
  blocks = capped (need_alone prefixes F x items);
}

unfoldable pub costs_from : List Path → Filestore → List ℕ → (done rest : List Item) → List Cost
costs_from prefixes F x done [] = []
costs_from prefixes F x done (item ∷ rest) =
    if succeeded (row prefixes (reached prefixes (alone F x) 0 done) 0 item).answer
    then cost_of prefixes F x (done ++ item ∷ []) ∷ costs_from prefixes F x (done ++ item ∷ []) rest
    else []

abbrev pub costs_of : List Path → Filestore → List ℕ → List Item → List Cost
costs_of prefixes F x items = costs_from prefixes F x [] items
