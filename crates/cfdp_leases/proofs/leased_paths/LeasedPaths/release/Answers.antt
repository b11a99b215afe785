use Rattle.std.proofs.Common.{sym, ◌∙◌, ap, ◌||◌, List, if◌then◌else◌}
use Rattle.std.specs.Map.{lookup}
use Rattle.std.specs.BTreeMap.{is_at}
use Rattle.std.specs.Ordering.{nat_cmp}
use Rattle.cfdp_paths.specs.Paths.{Path, path_cmp}
use Rattle.cfdp_leases.specs.Footprint.{leased}
use Rattle.cfdp_leases.specs.code.Holders.{others}
use Rattle.cfdp_leases.specs.declared.leased_paths.Holder.{Holder}
use Rattle.std.specs.List.{list_any}
use Rattle.std.specs.FinSet as set
use Rattle.cfdp_paths.specs.Paths.{same_path}
use Rattle.cfdp_paths.proofs.Comparing.{path_cmp-total}
use Rattle.cfdp_leases.proofs.Held.{holds_kept, holds_same, in_slice, left, emptied, left_emptied}
use Rattle.cfdp_leases.proofs.leased_paths.LeasedPaths.release.Goals as goal

pub returns : goal.returns
returns c = λ holders by_hash own.
    let fp = c.args.footprint.now in
    let xs = c.exclusive.result.now in
    let ys = c.shared.result.now in
    let id = c.args.transaction in
    let after : Path → List Holder = λ p. if set.contains (leased fp) p then others id (holders p) else holders p in
    holds_kept c.remove_all.new.self (record { by_hash = c.give_back.new.map; others = c.give_back-2.new.map }) after
    (holds_same c.remove_all.new.self
    (λ p. left id (list_any (same_path p) ys) (emptied (list_any (same_path p) xs) (holders p))) after
    (λ p. left_emptied id (list_any (same_path p) xs) (list_any (same_path p) ys) (holders p)
    (λ has. own p (sym (in_slice xs fp.exclusive p c.exclusive.ensures.paths) ∙ has))
    ∙ ap (λ b. left id b (holders p))
    ((λ i. in_slice xs fp.exclusive p c.exclusive.ensures.paths i || in_slice ys fp.shared p c.shared.ensures.paths i)
    ∙ sym (set.contains-union path_cmp-total fp.exclusive fp.shared p)))
    (c.remove_all.ensures _ (c.drop_all.ensures holders by_hash)))
    (λ h. ap (λ es. lookup (is_at (nat_cmp h)) es) c.give_back.ensures)
    (λ p. ap (λ es. lookup (is_at (path_cmp p)) es) c.give_back-2.ensures)
