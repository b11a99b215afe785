use Rattle.std.proofs.Common.{ℕ, List, ◌++◌, flat_map, ap, sym, ◌∙◌, Ok}
use Rattle.cfdp_lines.specs.Words.{words_of}
use Rattle.cfdp_texts.specs.Replies.{word}
use Rattle.cfdp_run.specs.Commands.{line_in}
use Rattle.cfdp_run.proofs.Lines.{line_first}
use Rattle.cfdp_run.proofs.reading.read_line.Goals as goal

pub words-init : goal.words-init
words-init c =
    ap line_in c.in-Some.ensures.some
    ∙ ap Ok
    (line_first c.in-Some.first.now (words_of c.next_word.new.line.now)
    ∙ ap (λ (line : List ℕ). line ++ flat_map word (words_of c.next_word.new.line.now)) (sym c.in_ok-line.ensures.items))
