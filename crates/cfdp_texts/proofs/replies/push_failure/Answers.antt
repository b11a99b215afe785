use Rattle.std.proofs.Common.{rules, ◌≡◌, ◌∷◌, [], ◌++◌}
use Rattle.std.specs.Prelude.{codes}
use Rattle.cfdp_status.specs.Codes.{octet_of}
use Rattle.cfdp_texts.specs.Replies.{labelled, two_digits}
use Rattle.cfdp_texts.proofs.Words.{then_word}
use Rattle.cfdp_texts.proofs.replies.push_failure.Goals as goal

pub returns-clause-ok : goal.returns-clause-ok
returns-clause-ok c =
    let space : c.push.new.self.items ≡ c.push_labelled.new.text.items ++ 32 ∷ [] = search rules in
    let label = rw c.from.ensures at c.in_ok-push_labelled.ensures.ok in
    then_word c.push_status.result c.args.text.now.items (labelled (codes "would-fail ") c.args.number) (two_digits (octet_of c.args.status))
    c.push_labelled.new.text.items c.push.new.self.items c.push_status.new.text.items label space c.push_status.ensures.ok
