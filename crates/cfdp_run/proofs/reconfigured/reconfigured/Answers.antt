use Rattle.std.proofs.Common.{◌≡◌, ap, ◌∙◌, sym, subst}
use Rattle.cfdp_actions.specs.Store.{listing_of}
use Rattle.cfdp_transactions.specs.World.{World}
use Rattle.cfdp_run.proofs.Remakes.{Leaves, nodes_of, leaves_all, listed_in, copies, copied, all_copied}
use Rattle.cfdp_run.proofs.reconfigured.reconfigured.Goals as goal

pub loop-entry-init : goal.loop-entry-init
loop-entry-init c =
    let all = leaves_all c.args.from.now c.args.config c.sound.ensures c.put_back_is_same.ensures c.requires.idle c.requires.staged c.requires.blocks in
    subst (λ (W : World). Leaves W (nodes_of c.args.from.now.filestore) (record c.args.from.now { config = c.args.config })) (sym c.in_ok-to.ensures) all

pub copy_entry-requires : goal.copy_entry-requires
copy_entry-requires c =
    let F = c.args.from.now.filestore in
    let listed : c.deref-entry-items.result.now ≡ listing_of F =
    c.deref-entry-items.ensures.value ∙ c.in_ok-entries.ensures ∙ ap listing_of (c.store.ensures.filestore ∙ ap (λ (W : World). W.filestore) c.core.ensures) in
    copies F c.loop-entry.entry-index c.entry-item.result c.loop-entry.to _
    (listed_in F c.deref-entry-items.result.now c.loop-entry.entry-index c.entry-item.result listed c.entry-item.is c.loop-entry-test.true)
    c.loop-entry.invariant

pub loop-entry-preserved : goal.loop-entry-preserved
loop-entry-preserved c =
    let F = c.args.from.now.filestore in
    let listed : c.deref-entry-items.result.now ≡ listing_of F =
    c.deref-entry-items.ensures.value ∙ c.in_ok-entries.ensures ∙ ap listing_of (c.store.ensures.filestore ∙ ap (λ (W : World). W.filestore) c.core.ensures) in
    copied F c.loop-entry.entry-index c.entry-item.result c.loop-entry.to c.copy_entry.new.to _
    (listed_in F c.deref-entry-items.result.now c.loop-entry.entry-index c.entry-item.result listed c.entry-item.is c.loop-entry-test.true)
    c.loop-entry.invariant
    c.in_ok-copy_entry.ensures

pub returns : goal.returns
returns c =
    let F = c.args.from.now.filestore in
    let listed : c.deref-entry-items.result.now ≡ listing_of F =
    c.deref-entry-items.ensures.value ∙ c.in_ok-entries.ensures ∙ ap listing_of (c.store.ensures.filestore ∙ ap (λ (W : World). W.filestore) c.core.ensures) in
    all_copied F c.deref-entry-items.result.now c.loop-entry.entry-index c.loop-entry.to _ listed c.loop-entry-test.false c.loop-entry.invariant
