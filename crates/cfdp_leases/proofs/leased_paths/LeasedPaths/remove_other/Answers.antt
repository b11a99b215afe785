use Rattle.std.proofs.Common.{rules, refl, sym, ◌∙◌, ap, cond, Some, None}
use Rattle.std.specs.BTreeMap.{get}
use Rattle.std.specs.Ordering.{is_eq}
use Rattle.cfdp_paths.specs.Paths.{path_cmp, same_path}
use Rattle.cfdp_leases.specs.declared.leased_paths.LeasedPaths.{LeasedPaths}
use Rattle.cfdp_leases.specs.code.Holders.{holders_in, others, unless_none}
use Rattle.cfdp_leases.proofs.Held.{cond_twice, holds_kept, holds_same, left, left_elsewhere, left_here, left_nobody, other_changed, other_none, other_there}
use Rattle.cfdp_leases.proofs.leased_paths.LeasedPaths.remove_other.Goals as goal

-- nobody holds the path
pub returns-in_default : goal.returns-in_default
returns-in_default c = λ holders held.
    let k = c.args.path.now in
    let id = c.args.transaction in
    let old = c.args.self.now in
    let new : LeasedPaths = record { by_hash = old.by_hash; others = c.get_mut.follows.lender-at-none } in
    let before = other_none old k holders held c.requires (sym c.in_default.ensures.value) in
    holds_same new holders (λ p. left id (same_path p k) (holders p)) (λ p. left_nobody id k holders p before)
    (holds_kept old new holders held (λ h. refl) (λ p. ap (λ m. get path_cmp m p) c.get_mut.follows.holds-at-none))

pub returns-then-remove : goal.returns-then-remove
returns-then-remove c = λ holders held.
    let k = c.args.path.now in
    let id = c.args.transaction in
    let held_path = c.remove.new.self in
    let old = c.args.self.now in
    let new : LeasedPaths = record { by_hash = old.by_hash; others = c.remove-then-remove.new.self } in
    let before = other_there old k holders held c.requires c.in-Some.holders.now (sym c.in-Some.ensures.value) in
    other_changed old new holders held k (λ p. left id (same_path p k) (holders p)) (λ q other. left_elsewhere id q k (holders q) other) None (λ h. refl)
    (λ q. c.remove-then-remove.ensures.updates.0 q ∙ ap (cond (is_eq (path_cmp k q)) None) (((c.get_mut.follows.holds held_path).3 (search rules)).0 q)
    ∙ cond_twice (is_eq (path_cmp k q)) None (Some held_path) (get path_cmp old.others q))
    c.requires
    (sym (ap (λ hs. unless_none (others id hs)) (sym before) ∙ c.remove.ensures ∙ ap (λ b. cond b None (Some (holders_in held_path))) c.if-remove.true)
    ∙ ap unless_none (left_here id k (holders k)))

pub returns-else-remove : goal.returns-else-remove
returns-else-remove c = λ holders held.
    let k = c.args.path.now in
    let id = c.args.transaction in
    let held_path = c.remove.new.self in
    let old = c.args.self.now in
    let new : LeasedPaths = record { by_hash = old.by_hash; others = c.get_mut.follows.lender held_path } in
    let before = other_there old k holders held c.requires c.in-Some.holders.now (sym c.in-Some.ensures.value) in
    other_changed old new holders held k (λ p. left id (same_path p k) (holders p)) (λ q other. left_elsewhere id q k (holders q) other) (Some held_path)
    (λ h. refl)
    ((c.get_mut.follows.holds held_path).3 (search rules)).0 c.requires
    (sym (ap (λ hs. unless_none (others id hs)) (sym before) ∙ c.remove.ensures ∙ ap (λ b. cond b None (Some (holders_in held_path))) c.if-remove.false)
    ∙ ap unless_none (left_here id k (holders k)))
