use Rattle.std.proofs.Common.{◌≡◌, ◌++◌, length}
use Rattle.cfdp_verdicts.specs.Words.{with_commas}
use Rattle.cfdp_verdicts.proofs.numbers.push_digits.Given as goal

abbrev pub invariant-digits : goal.invariant-digits
invariant-digits l = l.text.items ++ with_commas l.rest ≡ l.initial.text.items ++ with_commas l.digits

abbrev pub decreases-digits : goal.decreases-digits
decreases-digits l = length l.rest
