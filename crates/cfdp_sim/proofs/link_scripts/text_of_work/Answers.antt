use Rattle.std.proofs.Common.{rules, ◌≡◌, ◌∙◌, ap}
use Rattle.std.specs.Prelude.{ℕ, List}
use Rattle.std.proofs.lemmas.Result.{IfOk-weaker}
use Rattle.cfdp_links.specs.JournalTexts.{journal_text}
use Rattle.cfdp_links.proofs.Reconciling.{handed_by_same}
use Rattle.cfdp_sim.proofs.link_scripts.text_of_work.Goals as goal

pub returns-in-Ok-reconcile-clause-ok : goal.returns-in-Ok-reconcile-clause-ok
returns-in-Ok-reconcile-clause-ok c =
    let closed = c.in-Ok-reconcile.closed in
    let counts : c.deref-in-Ok-reconcile.result.now ≡ c.in-Ok.checked.1.items = search rules in
    IfOk-weaker c.text_of_closed.result _ _
    (λ text writes. record {
      journal = closed.journal.items;
      seats = closed.seats.items;
      dropped = c.in-Ok.checked.1.items;
      world = closed.core.world;
      history = c.in-Ok-reconcile.ensures.history;
      config = c.in-Ok-reconcile.ensures.config;
      reconciled = c.in-Ok-reconcile.ensures.reconciled;
      handed = handed_by_same _ _ _ _ _ c.in-Ok-reconcile.ensures.reconciled c.in-Ok-reconcile.ensures.seats c.in-Ok.ensures.readable
          c.in-Ok.ensures.handed;
      writes = writes ∙ ap (λ (dropped : List ℕ). journal_text closed.journal.items closed.seats.items dropped closed.core.world) counts;
    })
    c.text_of_closed.ensures.ok
