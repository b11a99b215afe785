use Rattle.std.proofs.Common.{rules}
use Rattle.std.specs.Prelude.{codes, unwrap_or, []}
use Rattle.cfdp_texts.specs.Replies.{shown}
use Rattle.cfdp_verdicts.specs.Words.{destination_words}
use Rattle.cfdp_verdicts.proofs.verdicts.push_destination.Goals as goal
use Rattle.cfdp_status.proofs.Appended.{two}

pub returns : goal.returns
unfolding destination_words
returns c =
    two c.push_shown.result c.args.text.now.items c.extend_from_slice.new.self.items c.push_shown.new.text.items
    (codes "the destination ") (shown (unwrap_or c.args.proposal.now.destination [])) c.in_ok-extend_from_slice.ensures.items (search rules)
