use Rattle.std.proofs.Common.{refl, ◌∙◌, ap, ◌++◌, ◌∷◌, []}
use Rattle.std.specs.Option.{option_copied}
use Rattle.cfdp_leases.specs.Items.{items_of}
use Rattle.cfdp_states.proofs.SparseLists.{sees_all, sees_file}
use Rattle.cfdp_states.proofs.SparsePaths.{sees_by_more}
use Rattle.cfdp_states.proofs.origins.before_items.Goals as goal

pub returns-in-None : goal.returns-in-None
returns-in-None c = sees_all (option_copied c.args.destination) c.args.requests.now c.in_ok-paths.paths.items
    (ap option_copied c.in-None.is) c.in_ok-paths.ensures

pub returns-in_ok-add_path-in-Some : goal.returns-in_ok-add_path-in-Some
returns-in_ok-add_path-in-Some c =
    let paths = c.in_ok-paths.paths.items in
    let path = c.in-Some.path.now in
    sees_by_more c.add_path.new.paths.items (paths ++ path ∷ []) (items_of (option_copied c.args.destination) c.args.requests.now)
    (λ x h. c.in_ok-add_path-in-Some.ensures.added x ∙ h)
    (sees_file (option_copied c.args.destination) c.args.requests.now paths (paths ++ path ∷ []) path
    (ap option_copied c.in-Some.is) c.in_ok-add_path-in-Some.ensures.named refl c.in_ok-paths.ensures)
