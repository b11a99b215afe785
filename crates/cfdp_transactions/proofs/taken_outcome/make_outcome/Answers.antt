use Rattle.std.proofs.Common.{◌≡◌, refl, ap, ◌∙◌}
use Rattle.cfdp_pdus.specs.Values.{MetadataFields}
use Rattle.cfdp_transactions.proofs.taken_outcome.make_outcome.Goals as goal

pub returns : goal.returns
returns c = λ F.
    let table_entry = c.args.entry.now in
    let requests : c.deref.result.now ≡ table_entry.metadata.requests =
    c.deref.ensures.value ∙ ap (λ (m : MetadataFields). m.requests) (c.behind-entry.view_is ∙ c.metadata.ensures) in
    let performed : c.from.result ≡ table_entry.performed = c.from.ensures ∙ c.performed.ensures in
    c.with_responses.ensures ∙ rw (c.bare_outcome.ensures F, c.in_ok-responses.ensures, requests, performed) refl
