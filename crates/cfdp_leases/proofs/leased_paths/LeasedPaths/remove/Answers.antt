use Rattle.std.proofs.Common.{rules, refl, sym, ◌∙◌, ap, cond, subst, Some, None}
use Rattle.std.specs.BTreeMap.{get}
use Rattle.std.specs.Ordering.{is_eq, nat_cmp}
use Rattle.cfdp_paths.specs.Paths.{same_path}
use Rattle.cfdp_paths.proofs.Comparing.{same_path-Decides}
use Rattle.cfdp_leases.specs.declared.leased_paths.LeasedPath.{LeasedPath}
use Rattle.cfdp_leases.specs.declared.leased_paths.LeasedPaths.{LeasedPaths}
use Rattle.cfdp_leases.specs.code.Holders.{Holds, holders_in, others, unless_none}
use Rattle.cfdp_leases.proofs.Held.{cond_twice, holds_kept, holds_unwritten, left, left_elsewhere, left_here, under_removed, under_there, under_written}
use Rattle.cfdp_leases.proofs.leased_paths.LeasedPaths.remove.Goals as goal
use Rattle.cfdp_leases.proofs.leased_paths.LeasedPaths.remove.Goals.{in_default-via-in-Some+else-eq, in_default-via-in-None-1}

pub returns-then-remove : goal.returns-then-remove
returns-then-remove c = λ holders held.
    let k = c.args.path.now in
    let id = c.args.transaction in
    let hash = c.hash-hash.result in
    let held_path = c.in-Some.held_path.now in
    let after : LeasedPath = record { path = held_path.path; holders = c.remove.new.self } in
    let old = c.args.self.now in
    let new : LeasedPaths = record { by_hash = c.remove-then-remove.new.self; others = old.others } in
    let own = (same_path-Decides held_path.path k).0 (sym c.eq.ensures ∙ c.if-eq.true) in
    let before = under_there old k holders held hash c.hash-hash.ensures held_path (sym c.in-Some.ensures.value) own in
    under_removed old new holders held k (λ p. left id (same_path p k) (holders p)) (λ q other. left_elsewhere id q k (holders q) other)
    hash c.hash-hash.ensures held_path (sym c.in-Some.ensures.value) own (λ p. refl)
    (λ q. c.remove-then-remove.ensures.updates.0 q ∙ ap (cond (is_eq (nat_cmp hash q)) None) (((c.get_mut.follows.holds after).3 (search rules)).0 q)
    ∙ cond_twice (is_eq (nat_cmp hash q)) None (Some after) (get nat_cmp old.by_hash q))
    (sym (ap (λ hs. unless_none (others id hs)) (sym before) ∙ c.remove.ensures ∙ ap (λ b. cond b None (Some (holders_in c.remove.new.self))) c.if-remove.true)
    ∙ ap unless_none (left_here id k (holders k)))

pub returns-else-remove : goal.returns-else-remove
returns-else-remove c = λ holders held.
    let k = c.args.path.now in
    let id = c.args.transaction in
    let held_path = c.in-Some.held_path.now in
    let after : LeasedPath = record { path = held_path.path; holders = c.remove.new.self } in
    let old = c.args.self.now in
    let new : LeasedPaths = record { by_hash = c.get_mut.follows.lender after; others = old.others } in
    let own = (same_path-Decides held_path.path k).0 (sym c.eq.ensures ∙ c.if-eq.true) in
    let before = under_there old k holders held c.hash-hash.result c.hash-hash.ensures held_path (sym c.in-Some.ensures.value) own in
    under_written old new holders held k (λ p. left id (same_path p k) (holders p)) (λ q other. left_elsewhere id q k (holders q) other)
    c.hash-hash.result c.hash-hash.ensures held_path (sym c.in-Some.ensures.value) own (λ p. refl) c.remove.new.self
    ((c.get_mut.follows.holds after).3 (search rules)).0
    (sym (ap (λ hs. unless_none (others id hs)) (sym before) ∙ c.remove.ensures ∙ ap (λ b. cond b None (Some (holders_in c.remove.new.self))) c.if-remove.false)
    ∙ ap unless_none (left_here id k (holders k)))

-- another path is under the hash, and its record is lent back as it was; or none is
pub returns-in_default : goal.returns-in_default
returns-in_default c = λ holders held.
    let old = c.args.self.now in
    c.remove_other.ensures holders
    (elim c.in_default.branch [
      | in_default-via-in-Some+else-eq w ↦
          let held_path = w.in-Some.held_path.now in
          let new : LeasedPaths = record { by_hash = c.get_mut.follows.lender held_path; others = old.others } in
          subst (λ paths. Holds paths holders) (sym w.self-is)
          (holds_unwritten old new holders held c.hash-hash.result held_path ((c.get_mut.follows.holds held_path).3 (search rules)).0
          (sym w.in-Some.ensures.value)
          (λ p. refl))
      | in_default-via-in-None-1 w ↦
          let new : LeasedPaths = record { by_hash = c.get_mut.follows.lender-at-none; others = old.others } in
          subst (λ paths. Holds paths holders) (sym w.self-is)
          (holds_kept old new holders held (λ h. ap (λ m. get nat_cmp m h) c.get_mut.follows.holds-at-none) (λ p. refl))
    ])
