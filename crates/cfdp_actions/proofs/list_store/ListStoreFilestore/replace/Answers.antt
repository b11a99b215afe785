use Rattle.std.proofs.Common.{◌≡◌, ◌+◌, ◌-◌, ◌*◌, ℕ, if◌then◌else◌, List, [], ◌∷◌, Some, Option, length, sym, ap, ◌∙◌, arith}
use Rattle.std.specs.FinMap.{put}
use Rattle.cfdp_paths.specs.Paths.{path_cmp}
use Rattle.cfdp_actions.specs.Filestore.{Node, File, blocks_of, octets_in, file_octets_at, Becomes}
use Rattle.cfdp_actions.specs.Store.{with_changes}
use Rattle.cfdp_actions.specs.code.Listed.{shown_entries, entry_found}
use Rattle.cfdp_actions.specs.declared.content.Content.TheVariants as content
use Rattle.cfdp_actions.proofs.RowLaws.{blocks_of-small}
use Rattle.cfdp_actions.proofs.ShownLaws.{found_some, shown_put, exists}
use Rattle.cfdp_actions.proofs.StoreLaws.{seen_node, seen_put, seen_free, put_kept, octets_small, few_used, found_small, there_file, weight_there}
use Rattle.cfdp_actions.proofs.list_store.ListStoreFilestore.replace.Goals as goal

pub blocks_of-taken-requires : goal.blocks_of-taken-requires
blocks_of-taken-requires c =
    omega (
      arith,
      c.len.ensures,
      c.in_ok-octets.octets.ok.0,
      ap (λ (xs : List ℕ). length xs) (c.in_ok-octets.ensures.items ∙ c.octets_at.ensures),
      octets_small _ _ _ _ c.self.invariant c.args.second.now,
    )

pub exchange-old-requires : goal.exchange-old-requires
exchange-old-requires c = exists c.args.first.now c.self.inside.entries (there_file _ _ _ _ c.self.invariant _ c.self.view_is c.args.first.now c.requires.first)

pub blocks_of-given-requires : goal.blocks_of-given-requires
blocks_of-given-requires c =
    let here = found_some c.args.first.now c.self.inside.entries c.exchange-old.result (sym c.exchange-old.ensures.old) in
    omega (arith, ap (λ (xs : List ℕ). length xs) (c.octets.ensures ∙ ap octets_in (sym here)), octets_small _ _ _ _ c.self.invariant c.args.first.now)

pub overflow_add-self : goal.overflow_add-self
overflow_add-self c =
    let long : c.len.result ≡ length (octets_in (entry_found c.self.inside.entries c.args.second.now)) =
    omega (arith, c.len.ensures, c.in_ok-octets.octets.ok.0, ap (λ (xs : List ℕ). length xs) (c.in_ok-octets.ensures.items ∙ c.octets_at.ensures)) in
    let taken = c.blocks_of-taken.ensures ∙ ap blocks_of long in
    omega (
      arith,
      taken,
      few_used _ _ _ _ c.self.invariant,
      blocks_of-small (length (octets_in (entry_found c.self.inside.entries c.args.second.now)))
          (octets_small _ _ _ _ c.self.invariant c.args.second.now),
    )

pub overflow_sub-self : goal.overflow_sub-self
overflow_sub-self c =
    let here = found_some c.args.first.now c.self.inside.entries c.exchange-old.result (sym c.exchange-old.ensures.old) in
    let given = c.blocks_of-given.ensures ∙ ap (λ (xs : List ℕ). blocks_of (length xs)) (c.octets.ensures ∙ ap octets_in (sym here)) in
    omega (
      arith,
      given,
      weight_there _ _ _ _ c.self.invariant _ c.self.view_is c.args.first.now c.requires.first,
      found_small _ _ _ _ c.self.invariant c.args.first.now,
    )

pub overflow_mul-result : goal.overflow_mul-result
overflow_mul-result c =
    let long : c.len.result ≡ length (octets_in (entry_found c.self.inside.entries c.args.second.now)) =
    omega (arith, c.len.ensures, c.in_ok-octets.octets.ok.0, ap (λ (xs : List ℕ). length xs) (c.in_ok-octets.ensures.items ∙ c.octets_at.ensures)) in
    let taken = c.blocks_of-taken.ensures ∙ ap blocks_of long in
    omega (
      arith,
      taken,
      blocks_of-small (length (octets_in (entry_found c.self.inside.entries c.args.second.now)))
          (octets_small _ _ _ _ c.self.invariant c.args.second.now),
    )

pub overflow_add-result : goal.overflow_add-result
overflow_add-result c =
    let here = found_some c.args.first.now c.self.inside.entries c.exchange-old.result (sym c.exchange-old.ensures.old) in
    let given = c.blocks_of-given.ensures ∙ ap (λ (xs : List ℕ). blocks_of (length xs)) (c.octets.ensures ∙ ap octets_in (sym here)) in
    let long : c.len.result ≡ length (octets_in (entry_found c.self.inside.entries c.args.second.now)) =
    omega (arith, c.len.ensures, c.in_ok-octets.octets.ok.0, ap (λ (xs : List ℕ). length xs) (c.in_ok-octets.ensures.items ∙ c.octets_at.ensures)) in
    let taken = c.blocks_of-taken.ensures ∙ ap blocks_of long in
    omega (
      arith,
      given,
      taken,
      blocks_of-small (length (octets_in (entry_found c.self.inside.entries c.args.first.now))) (octets_small _ _ _ _ c.self.invariant c.args.first.now),
      blocks_of-small (length (octets_in (entry_found c.self.inside.entries c.args.second.now))) (octets_small _ _ _ _ c.self.invariant c.args.second.now),
    )

pub invariant_of-self : goal.invariant_of-self
invariant_of-self c =
    let p = c.args.first.now in
    let q = c.args.second.now in
    let es = c.self.inside.entries in
    let here = found_some c.args.first.now c.self.inside.entries c.exchange-old.result (sym c.exchange-old.ensures.old) in
    let given = c.blocks_of-given.ensures ∙ ap (λ (xs : List ℕ). blocks_of (length xs)) (c.octets.ensures ∙ ap octets_in (sym here)) in
    let long : c.len.result ≡ length (octets_in (entry_found c.self.inside.entries c.args.second.now)) =
    omega (arith, c.len.ensures, c.in_ok-octets.octets.ok.0, ap (λ (xs : List ℕ). length xs) (c.in_ok-octets.ensures.items ∙ c.octets_at.ensures)) in
    let taken = c.blocks_of-taken.ensures ∙ ap blocks_of long in
    let octets = c.in_ok-octets.ensures.items ∙ c.octets_at.ensures in
    let e = ap shown_entries c.exchange-old.ensures.put ∙ shown_put p (content.File c.in_ok-octets.octets) es ∙ ap
    (λ xs. put path_cmp p (File xs) (shown_entries es)) octets in
    let first = ap (λ (o : Option Node). blocks_of (length (octets_in o))) (seen_node _ _ _ _ c.self.invariant _ c.self.view_is p) in
    let second = ap (λ (o : Option Node). blocks_of (length (octets_in o))) (seen_node _ _ _ _ c.self.invariant _ c.self.view_is q) in
    put_kept _ _ _ _ c.self.invariant c.exchange-old.new.self p (File (octets_in (entry_found es q))) (c.self.inside.used
    + c.blocks_of-taken.result - c.blocks_of-given.result) e
    (omega (arith, given, taken, weight_there _ _ _ _ c.self.invariant _ c.self.view_is p c.requires.first, found_small _ _ _ _ c.self.invariant p))
    (omega (arith, given, taken, first, second, c.requires.room, seen_free _ _ _ _ c.self.invariant _ c.self.view_is))

pub returns-clause-ticks : goal.returns-clause-ticks
returns-clause-ticks c =
    let F = c.args.self.now.filestore in
    let here = found_some c.args.first.now c.self.inside.entries c.exchange-old.result (sym c.exchange-old.ensures.old) in
    let given = c.blocks_of-given.ensures ∙ ap (λ (xs : List ℕ). blocks_of (length xs)) (c.octets.ensures ∙ ap octets_in (sym here)) in
    let long : c.len.result ≡ length (octets_in (entry_found c.self.inside.entries c.args.second.now)) =
    omega (arith, c.len.ensures, c.in_ok-octets.octets.ok.0, ap (λ (xs : List ℕ). length xs) (c.in_ok-octets.ensures.items ∙ c.octets_at.ensures)) in
    let taken = c.blocks_of-taken.ensures ∙ ap blocks_of long in
    let first = ap (λ (o : Option Node). blocks_of (length (octets_in o))) (seen_node _ _ _ _ c.self.invariant _ c.self.view_is c.args.first.now) in
    let second = ap (λ (o : Option Node). blocks_of (length (octets_in o))) (seen_node _ _ _ _ c.self.invariant _ c.self.view_is c.args.second.now) in
    let other = sym c.eq.ensures ∙ c.if-eq.false in
    let n = blocks_of (length (file_octets_at F c.args.first.now)) in
    let m = blocks_of (length (file_octets_at F c.args.second.now)) in
    let sum : c.blocks_of-given.result + 2 * c.blocks_of-taken.result ≡ n + 2 * m = omega (arith, given, taken, first, second) in
    sum ∙ ap (λ b. if b then 0 else n + 2 * m) (sym other)

pub returns-clause-replaced : goal.returns-clause-replaced
returns-clause-replaced c =
    let p = c.args.first.now in
    let q = c.args.second.now in
    let es = c.self.inside.entries in
    let octets = c.in_ok-octets.ensures.items ∙ c.octets_at.ensures ∙ ap octets_in (sym (seen_node _ _ _ _ c.self.invariant _ c.self.view_is q)) in
    let e = ap shown_entries c.exchange-old.ensures.put ∙ shown_put p (content.File c.in_ok-octets.octets) es ∙ ap
    (λ xs. put path_cmp p (File xs) (shown_entries es)) octets in
    let other = sym c.eq.ensures ∙ c.if-eq.false in
    seen_put _ _ _ _ c.self.invariant _ c.self.view_is c.exchange-old.new.self p _ e
    ∙ ap (λ b. with_changes c.args.self.now (if b then [] else Becomes p (Some (File (file_octets_at c.args.self.now.filestore q))) ∷ [])) (sym other)
