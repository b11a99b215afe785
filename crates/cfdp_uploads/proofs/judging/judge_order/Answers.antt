use Rattle.std.proofs.Common.{◌≡◌, ◌<◌, leb, false, sym, ◌∙◌, get_or}
use Rattle.std.proofs.lemmas.Bool.{leb-false}
use Rattle.cfdp_uploads.proofs.Found.{each_fails, each_at, each_weaker, each_passes}
use Rattle.cfdp_uploads.specs.Uploads.{is_sent}
use Rattle.cfdp_uploads.proofs.judging.judge_order.Goals as goal

pub first_not_sent-requires : goal.first_not_sent-requires
first_not_sent-requires c =
    let fails = each_fails (λ index. leb c.args.count index) c.args.order.now (sym c.first_stray.ensures ∙ c.in_default.is) in
    λ k d h. leb-false c.args.count (get_or c.args.order.now k d) (each_at (λ index. leb c.args.count index ≡ false) c.args.order.now k d fails h)

pub returns-in-None-clause-within : goal.returns-in-None-clause-within
returns-in-None-clause-within c =
    let fails = each_fails (λ index. leb c.args.count index) c.args.order.now (sym c.first_stray.ensures ∙ c.in_default.is) in
    λ _. each_weaker (λ index. leb c.args.count index ≡ false) (λ index. index < c.args.count) (leb-false c.args.count) c.args.order.now fails

pub returns-in-None-clause-each : goal.returns-in-None-clause-each
returns-in-None-clause-each c =
    let none = sym (c.in_ok-first_not_sent.ensures) ∙ c.in-None.is in
    λ _. each_passes (is_sent c.args.order.now) c.args.count none
