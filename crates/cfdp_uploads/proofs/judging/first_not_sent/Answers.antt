use Rattle.std.proofs.Common.{◌≡◌, ap, ◌∙◌, take, take_all}
use Rattle.std.specs.Prelude.{position, not}
use Rattle.cfdp_uploads.specs.Uploads.{is_sent}
use Rattle.cfdp_uploads.proofs.Found.{found_among}
use Rattle.cfdp_uploads.proofs.judging.first_not_sent.Goals as goal

pub returns : goal.returns
returns c =
    let all : take c.loop-index.index-index c.args.order.now ≡ c.args.order.now = take_all c.loop-index.index-index c.args.order.now c.loop-index-test.false in
    c.first_false.ensures ∙ ap (λ tests. position not tests) c.deref.ensures.value
    ∙ found_among c.loop-index.sent.items (is_sent c.args.order.now) c.args.count c.loop-index.invariant.long
    (λ k h. c.loop-index.invariant.same k h ∙ ap (λ order. is_sent order k) all)
