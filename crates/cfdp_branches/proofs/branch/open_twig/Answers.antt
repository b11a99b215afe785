use Rattle.std.proofs.Common.{rules, ◌≡◌, ap, ◌∙◌, ◌∷◌, []}
use Rattle.std.specs.FinMap.{put}
use Rattle.std.specs.List.{insert}
use Rattle.cfdp_paths.specs.Paths.{path_cmp}
use Rattle.cfdp_paths.specs.code.PathMaps.{rank}
use Rattle.cfdp_branches.specs.code.Branches.{under_names}
use Rattle.cfdp_branches.specs.code.Branches.IsOpened.{stays, opens}
use Rattle.cfdp_branches.specs.code.Twigs.{twigs_of}
use Rattle.cfdp_branches.specs.declared.branch.Twig.{Twig}
use Rattle.cfdp_branches.proofs.Seeking.{branch_new, put_index}
use Rattle.cfdp_branches.proofs.branch.open_twig.Goals as goal

pub returns-in-Ok-clause-opened : goal.returns-in-Ok-clause-opened
returns-in-Ok-clause-opened g c = stays

pub returns-in_ok-insert-in-Err-clause-found : goal.returns-in_ok-insert-in-Err-clause-found
returns-in_ok-insert-in-Err-clause-found g c =
    let ts = c.args.twigs.now.items in
    let twig : Twig g.row.T.Denot = record { name = c.in_ok-name-in-Err.name; branch = c.new-branch.result } in
    let items : c.insert.new.self.items ≡ insert ts c.in-Err.index twig =
    c.in_ok-insert-in-Err.ensures.items ∙ ap (λ us. insert us c.in-Err.index twig) c.make_room.ensures.items in
    let index : c.in-Err.index ≡ rank (c.args.name.now ∷ []) (under_names (twigs_of ts)) =
    c.in-Err.ensures.index ∙ ap (λ us. rank (c.args.name.now ∷ []) (under_names (twigs_of us))) c.deref.ensures.value in
    put_index (c.args.name.now ∷ []) c.new-branch.result (under_names (twigs_of ts)) (under_names (twigs_of c.insert.new.self.items)) c.in-Err.index c.requires
    (branch_new c.args.name.now ts c.insert.new.self.items c.in-Err.index twig items (search rules) (search rules) index) index

pub returns-in_ok-insert-in-Err-clause-opened : goal.returns-in_ok-insert-in-Err-clause-opened
returns-in_ok-insert-in-Err-clause-opened g c =
    let ts = c.args.twigs.now.items in
    let twig : Twig g.row.T.Denot = record { name = c.in_ok-name-in-Err.name; branch = c.new-branch.result } in
    let items : c.insert.new.self.items ≡ insert ts c.in-Err.index twig =
    c.in_ok-insert-in-Err.ensures.items ∙ ap (λ us. insert us c.in-Err.index twig) c.make_room.ensures.items in
    let index : c.in-Err.index ≡ rank (c.args.name.now ∷ []) (under_names (twigs_of ts)) =
    c.in-Err.ensures.index ∙ ap (λ us. rank (c.args.name.now ∷ []) (under_names (twigs_of us))) c.deref.ensures.value in
    opens (twigs_of c.insert.new.self.items) (search rules)
    (branch_new c.args.name.now ts c.insert.new.self.items c.in-Err.index twig items (search rules) (search rules) index
    ∙ ap (λ b. put path_cmp (c.args.name.now ∷ []) b (under_names (twigs_of ts))) c.new-branch.ensures)
