use Rattle.std.proofs.Common.{ap, ◌∙◌, arith}
use Rattle.std.specs.FinMap.{put}
use Rattle.cfdp_paths.specs.Paths.{path_cmp}
use Rattle.cfdp_actions.specs.Filestore.{Directory}
use Rattle.cfdp_actions.specs.code.Listed.{shown_entries}
use Rattle.cfdp_actions.specs.declared.content.Content.TheVariants as content
use Rattle.cfdp_actions.proofs.ShownLaws.{shown_put}
use Rattle.cfdp_actions.proofs.StoreLaws.{seen_put, put_absent_kept}
use Rattle.cfdp_actions.proofs.list_store.ListStoreFilestore.make_dir.Goals as goal
use Rattle.cfdp_actions.proofs.Growth.{blocks_of-zero}

pub invariant_of-self-2 : goal.invariant_of-self-2
invariant_of-self-2 c =
    let e = ap shown_entries c.in_ok-insert.ensures.ok ∙ shown_put c.in_ok-copy.field-0 content.Directory c.self.inside.entries
    ∙ ap (λ q. put path_cmp q Directory (shown_entries c.self.inside.entries)) c.in_ok-copy.ensures in
    put_absent_kept _ _ _ _ c.self.invariant _ c.self.view_is c.insert.new.self c.args.path.now Directory e c.requires.absent c.requires.room
    (omega (arith, blocks_of-zero))

pub returns-clause-made : goal.returns-clause-made
returns-clause-made c =
    let e = ap shown_entries c.in_ok-insert.ensures.ok ∙ shown_put c.in_ok-copy.field-0 content.Directory c.self.inside.entries
    ∙ ap (λ q. put path_cmp q Directory (shown_entries c.self.inside.entries)) c.in_ok-copy.ensures in
    seen_put _ _ _ _ c.self.invariant _ c.self.view_is c.insert.new.self c.args.path.now Directory e
