use Rattle.std.proofs.Common.{◌≡◌, ◌+◌, ◌-◌, ◌++◌, ◌≤◌, Option, length, length-append, sym, ap, ◌∙◌, arith}
use Rattle.std.specs.FinMap.{put}
use Rattle.cfdp_paths.specs.Paths.{path_cmp}
use Rattle.cfdp_actions.specs.Filestore.{Node, File, blocks_of, octets_in, file_octets_at}
use Rattle.cfdp_actions.specs.code.Listed.{shown_entries, entry_found}
use Rattle.cfdp_actions.proofs.RowLaws.{blocks_of-mono, blocks_of-twice}
use Rattle.cfdp_actions.proofs.StoreLaws.{seen_node, seen_put, seen_free, seen_file, put_kept, octets_small, few_used, weight_there}
use Rattle.cfdp_actions.proofs.list_store.ListStoreFilestore.append.Goals as goal

pub append-requires-clause-file : goal.append-requires-clause-file
append-requires-clause-file c = seen_file _ _ _ _ c.self.invariant _ c.self.view_is c.args.first.now c.requires.first

pub blocks_of-requires : goal.blocks_of-requires
blocks_of-requires c = omega (
  arith,
  c.in_ok-from.ensures.to,
  octets_small _ _ _ _ c.self.invariant c.args.first.now,
  octets_small _ _ _ _ c.self.invariant c.args.second.now,
)

pub blocks_of-requires-2 : goal.blocks_of-requires-2
blocks_of-requires-2 c = omega (arith, c.in_ok-from.ensures.from, octets_small _ _ _ _ c.self.invariant c.args.first.now)

pub overflow_sub-taken : goal.overflow_sub-taken
overflow_sub-taken c =
    omega (
      arith,
      c.blocks_of.ensures,
      c.blocks_of-2.ensures,
      blocks_of-mono c.in_ok-from.field-0.from c.in_ok-from.field-0.to
          (omega (arith, c.in_ok-from.ensures.from, c.in_ok-from.ensures.to)),
    )

pub overflow_add-self : goal.overflow_add-self
overflow_add-self c =
    let all = blocks_of-twice c.in_ok-from.field-0.to (omega (
      arith,
      c.in_ok-from.ensures.to,
      octets_small _ _ _ _ c.self.invariant c.args.first.now,
      octets_small _ _ _ _ c.self.invariant c.args.second.now,
    )) in
    omega (arith, c.blocks_of.ensures, all, few_used _ _ _ _ c.self.invariant)

pub blocks_of-requires-3 : goal.blocks_of-requires-3
blocks_of-requires-3 c = omega (
  arith,
  c.in_ok-from.ensures.to,
  octets_small _ _ _ _ c.self.invariant c.args.first.now,
  octets_small _ _ _ _ c.self.invariant c.args.second.now,
)

pub overflow_add-result : goal.overflow_add-result
overflow_add-result c =
    let to = c.in_ok-from.field-0.to in
    let from = c.in_ok-from.field-0.from in
    let small : to ≤ 15728640 = omega (
      arith,
      c.in_ok-from.ensures.to,
      octets_small _ _ _ _ c.self.invariant c.args.first.now,
      octets_small _ _ _ _ c.self.invariant c.args.second.now,
    ) in
    omega (arith, c.blocks_of.ensures, c.blocks_of-3.ensures, blocks_of-twice to small, blocks_of-twice (to - from) (omega (arith, small)))

pub invariant_of-self-2 : goal.invariant_of-self-2
invariant_of-self-2 c =
    let p = c.args.first.now in
    let q = c.args.second.now in
    let es = c.self.inside.entries in
    let front = octets_in (entry_found es p) in
    let back = octets_in (entry_found es q) in
    let first = ap (λ (o : Option Node). length (octets_in o)) (seen_node _ _ _ _ c.self.invariant _ c.self.view_is p) in
    let second = ap (λ (o : Option Node). length (octets_in o)) (seen_node _ _ _ _ c.self.invariant _ c.self.view_is q) in
    let both : length (file_octets_at c.args.self.now.filestore p) + length (file_octets_at c.args.self.now.filestore q) ≡ length front + length back =
    omega (arith, first, second) in
    let grown = c.blocks_of.ensures ∙ ap blocks_of c.in_ok-from.ensures.to in
    let old = c.blocks_of-2.ensures ∙ ap blocks_of c.in_ok-from.ensures.from in
    let more = blocks_of-mono (length front) (length front + length back) (omega arith) in
    put_kept _ _ _ _ c.self.invariant c.append.new.entries p (File (front ++ back)) (c.self.inside.used
    + (c.blocks_of.result - c.blocks_of-2.result)) c.in_ok-from.ensures.ok
    (omega (arith, weight_there _ _ _ _ c.self.invariant _ c.self.view_is p c.requires.first, grown, old, more, ap blocks_of (length-append front back)))
    (omega (arith, grown, old, more, c.requires.room, ap blocks_of both, ap blocks_of first, seen_free _ _ _ _ c.self.invariant _ c.self.view_is))

pub returns-clause-ticks : goal.returns-clause-ticks
returns-clause-ticks c =
    let p = c.args.first.now in
    let q = c.args.second.now in
    let first = ap (λ (o : Option Node). length (octets_in o)) (seen_node _ _ _ _ c.self.invariant _ c.self.view_is p) in
    let second = ap (λ (o : Option Node). length (octets_in o)) (seen_node _ _ _ _ c.self.invariant _ c.self.view_is q) in
    let n = length (file_octets_at c.args.self.now.filestore p) in
    let m = length (file_octets_at c.args.self.now.filestore q) in
    let from : c.in_ok-from.field-0.from ≡ n = omega (arith, first, c.in_ok-from.ensures.from) in
    let to : c.in_ok-from.field-0.to ≡ n + m = omega (arith, first, second, c.in_ok-from.ensures.to) in
    let added : c.in_ok-from.field-0.to - c.in_ok-from.field-0.from ≡ m = omega (arith, from, to) in
    omega (arith, c.blocks_of.ensures, c.blocks_of-2.ensures, c.blocks_of-3.ensures, ap blocks_of from, ap blocks_of to, ap blocks_of added)

pub returns-clause-appended : goal.returns-clause-appended
returns-clause-appended c =
    let p = c.args.first.now in
    let q = c.args.second.now in
    let es = c.self.inside.entries in
    let first = ap octets_in (sym (seen_node _ _ _ _ c.self.invariant _ c.self.view_is p)) in
    let second = ap octets_in (sym (seen_node _ _ _ _ c.self.invariant _ c.self.view_is q)) in
    let both = ap (λ xs. xs ++ octets_in (entry_found es q)) first ∙ ap (λ xs. file_octets_at c.args.self.now.filestore p ++ xs) second in
    seen_put _ _ _ _ c.self.invariant _ c.self.view_is c.append.new.entries p _ (c.in_ok-from.ensures.ok ∙ ap
    (λ xs. put path_cmp p (File xs) (shown_entries es)) both)
