use Rattle.std.proofs.Common.{◌∙◌, [], ap, codes, map}
use Rattle.std.specs.Prelude.{unwrap_or}
use Rattle.std.proofs.lemmas.Result.{IfOk-weaker}
use Rattle.clap.specs.Words.{found_of}
use Rattle.clap.proofs.WalkLemmas.{raw_values-rows}
use Rattle.cfdp_command_line.proofs.words.files_of.Goals as goal

pub returns-in-Some : goal.returns-in-Some
returns-in-Some c =
    IfOk-weaker c.from_slice.result _ _
    (λ files same.
    ap (map (λ name. name.now)) same
    ∙ ap (λ o. unwrap_or o []) (c.in-Some.ensures ∙ raw_values-rows (found_of c.args.found.now) (codes "FILE")))
    c.from_slice.ensures.items

pub returns-in-None : goal.returns-in-None
returns-in-None c =
    ap (map (λ name. name.now)) c.new.ensures.items
    ∙ ap (λ o. unwrap_or o []) (c.in-None.ensures ∙ raw_values-rows (found_of c.args.found.now) (codes "FILE"))
