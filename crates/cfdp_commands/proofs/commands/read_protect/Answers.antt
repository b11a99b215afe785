use Rattle.std.proofs.Common.{rules, arith, ◌≡◌, length, take, sym, ap, ◌∙◌}
use Rattle.cfdp_lines.specs.Words.{words_of}
use Rattle.cfdp_lines.specs.Hexadecimal.{octets_of_words}
use Rattle.cfdp_lines.proofs.Wording.{words_spell}
use Rattle.cfdp_commands.specs.Commands.{protect_by}
use Rattle.cfdp_commands.proofs.Verdicts.{protect_by-faulty, protect_by-good, protect_by-long}
use Rattle.cfdp_commands.proofs.commands.read_protect.Goals as goal

pub returns-in_default : goal.returns-in_default
returns-in_default c =
    let spelled = words_spell c.args.words.now in
    sym (protect_by-long (octets_of_words (words_of c.args.words.now))
    (λ some same.
    let longer = c.decode_within.ensures.none some c.in_default.is (sym spelled ∙ same) in
    let room : length c.args.room.now ≡ 776 = search rules in
    omega (arith, longer, room)))

pub returns-in-None : goal.returns-in-None
returns-in-None c =
    let spelled = words_spell c.args.words.now in
    sym (ap protect_by (spelled ∙ c.in-Some.ensures.some) ∙ protect_by-good (take c.in-Some.len c.decode_within.new.room) (sym c.in-None.ensures))

pub returns-in-Some-fault_in : goal.returns-in-Some-fault_in
returns-in-Some-fault_in c =
    let spelled = words_spell c.args.words.now in
    sym (ap protect_by (spelled ∙ c.in-Some.ensures.some) ∙ protect_by-faulty (take c.in-Some.len c.decode_within.new.room) c.in-Some-fault_in.field-0
    c.in-Some-fault_in.ensures)
