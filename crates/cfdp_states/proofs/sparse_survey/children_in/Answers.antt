use Rattle.std.proofs.Common.{◌≡◌, sym, ◌∙◌, ap, subst, [], ◌∷◌, ◌++◌, ◌+◌, List, length, suc, take, arith}
use Rattle.std.specs.List.{list_any}
use Rattle.cfdp_paths.specs.Paths.{Path, is_at_or_below}
use Rattle.cfdp_states.proofs.SparsePaths.{Found, none_found, one_more, none_more, all_found}
use Rattle.cfdp_states.proofs.sparse_survey.children_in.Goals as goal
use Rattle.cfdp_states.proofs.sparse_survey.children_in.Goals.{then-leads_anew+in_ok-beginning+in_ok-push, else-leads_anew}
use Rattle.cfdp_actions.proofs.BesideLaws.{below_longer}

pub loop-entry-init : goal.loop-entry-init
loop-entry-init c = subst (λ (xs : List Path). Found c.args.path.now c.args.entries.now 0 xs) (sym c.new-found.ensures.items)
    (none_found c.args.path.now c.args.entries.now)

pub beginning-requires-clause-within : goal.beginning-requires-clause-within
beginning-requires-clause-within c =
    let more = below_longer c.entry-item.result.0 c.args.path.now (c.leads_anew.ensures.below c.if-leads_anew.true) in
    omega (arith, more)

pub loop-entry-preserved : goal.loop-entry-preserved
loop-entry-preserved c =
    let p = c.args.path.now in
    let es = c.args.entries.now in
    let i = c.loop-entry.entry-index in
    let sofar = c.loop-entry.found.items in
    let entry = c.entry-item.result in
    elim c.if-leads_anew.branch [
      | then-leads_anew+in_ok-beginning+in_ok-push w ↦
          let next : c.depth-depth.result + 1 ≡ suc (length p) = omega arith in
          let child : w.in_ok-beginning.field-0 ≡ take (suc (length p)) entry.0 = w.in_ok-beginning.ensures ∙ ap (λ n. take n entry.0) next in
          subst (λ (xs : List Path). Found p es (i + 1) xs)
          (sym ((λ j. (w.found-is j).items) ∙ w.in_ok-push.ensures.items ∙ ap (λ x. sofar ++ x ∷ []) child))
          (one_more p es i sofar c.loop-entry.invariant entry c.loop-entry-test.true c.entry-item.is (c.leads_anew.ensures.below w.if-leads_anew.true))
      | else-leads_anew w ↦
          subst (λ (xs : List Path). Found p es (i + 1) xs) (sym (λ j. (w.found-is j).items))
          (none_more p es i sofar c.loop-entry.invariant entry c.loop-entry-test.true c.entry-item.is
          (λ below. ap (list_any (λ child. is_at_or_below entry.0 child)) (sym c.deref.ensures.value)
          ∙ c.leads_anew.ensures.known w.if-leads_anew.false below))
    ]

pub returns : goal.returns
returns c = all_found c.args.path.now c.args.entries.now c.loop-entry.entry-index c.loop-entry.found.items c.loop-entry-test.false c.loop-entry.invariant
