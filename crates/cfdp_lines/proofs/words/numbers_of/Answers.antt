use Rattle.std.proofs.Common.{inl, sym, ap, ◌∙◌, rules, ◌≡◌, ◌++◌, ◌∷◌, []}
use Rattle.cfdp_lines.specs.Words.{number_before, numbers_of, words_of}
use Rattle.cfdp_lines.proofs.Wording.{numbers_after, numbers_after-snoc, numbers_after-none, numbers_after-all}
use Rattle.cfdp_lines.proofs.words.numbers_of.Goals as goal

pub returns-in_default-number_of-clause-none : goal.returns-in_default-number_of-clause-none
returns-in_default-number_of-clause-none c = λ e.
    inl
    (sym c.words.invariant.0
    ∙ ap (λ words. numbers_after c.words.numbers.items (numbers_of words)) c.in-Some.ensures.some
    ∙ ap (λ number. numbers_after c.words.numbers.items (number_before number (numbers_of (words_of c.next_word.new.line.now))))
    (sym c.number_of.ensures ∙ c.in_default-number_of.is)
    ∙ numbers_after-none c.words.numbers.items)

pub words-preserved : goal.words-preserved
words-preserved c =
    let pushed : c.try_push.new.self.items ≡ c.words.numbers.items ++ c.in-Some-number_of.number ∷ [] = search rules in (
      rw pushed
          (numbers_after-snoc c.words.numbers.items c.in-Some-number_of.number _
          ∙ ap (λ number. numbers_after c.words.numbers.items (number_before number (numbers_of (words_of c.next_word.new.line.now))))
          (sym c.in-Some-number_of.is ∙ c.number_of.ensures)
          ∙ ap (λ words. numbers_after c.words.numbers.items (numbers_of words)) (sym c.in-Some.ensures.some)
          ∙ c.words.invariant.0),
      search rules,
    )

pub returns-clause-some : goal.returns-clause-some
returns-clause-some c =
    sym c.words.invariant.0
    ∙ ap (λ words. numbers_after c.words.numbers.items (numbers_of words)) (c.next_word.ensures.none (search rules))
    ∙ numbers_after-all c.words.numbers.items
