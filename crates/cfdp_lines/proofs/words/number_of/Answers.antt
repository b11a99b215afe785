use Rattle.std.proofs.Common.{◌≡◌, true, None, rules, sym, ◌∙◌}
use Rattle.cfdp_lines.specs.Words.{is_numeral}
use Rattle.cfdp_lines.proofs.Wording.{number_read, numeral_is_text, ok_of}
use Rattle.cfdp_lines.proofs.words.number_of.Goals as goal

pub returns-in_default : goal.returns-in_default
returns-in_default c =
    let e : is_numeral c.args.word.now ≡ true = search rules in
    absurd (c.in_default.ensures.cases.0 (numeral_is_text c.args.word.now e))

pub returns-in_default-parse : goal.returns-in_default-parse
returns-in_default-parse c =
    let e : is_numeral c.args.word.now ≡ true = search rules in
    let none : ok_of c.parse.result ≡ None = search rules in
    sym (number_read c.args.word.now c.parse.result e (rw c.in-Ok.ensures.cases.0 at c.parse.ensures.value.0) ∙ none)
