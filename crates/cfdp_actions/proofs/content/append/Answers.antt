use Rattle.std.proofs.Common.{◌++◌, List, ℕ, length, length-append, sym, ap, ◌∙◌, arith}
use Rattle.std.specs.FinMap.{put}
use Rattle.cfdp_paths.specs.Paths.{path_cmp}
use Rattle.cfdp_actions.specs.Filestore.{File, octets_in}
use Rattle.cfdp_actions.specs.code.Listed.{shown_entries, entry_found}
use Rattle.cfdp_actions.specs.declared.content.Content.TheVariants as content
use Rattle.cfdp_actions.proofs.ShownLaws.{found_some, shown_twice, second_octets, exists, put_exists, put-same, file_there, file_is}
use Rattle.cfdp_paths.proofs.Results.{on_err}
use Rattle.cfdp_actions.proofs.content.append.Goals as goal

pub exchange-requires : goal.exchange-requires
exchange-requires c = exists c.args.first.now c.args.entries.now (file_there _ c.requires.file)

pub set-requires : goal.set-requires
set-requires c = put_exists c.args.first.now content.Directory c.args.entries.now c.exchange.new.self c.exchange.ensures.put

pub returns-in_err-extended-clause-err : goal.returns-in_err-extended-clause-err
returns-in_err-extended-clause-err c =
    let k = c.args.first.now in
    let es = c.args.entries.now in
    let here = found_some k es c.exchange.result (sym c.exchange.ensures.old) in
    let octets = c.in_err-extended.ensures.err ∙ c.into_octets-octets.ensures ∙ ap octets_in (sym here) in
    on_err c.from_residual.result _
    (shown_twice k (content.File c.extend-extended.new.octets) content.Directory es c.exchange.new.self c.set.new.self c.exchange.ensures.put c.set.ensures
    ∙ ap (λ xs. put path_cmp k (File xs) (shown_entries es)) octets ∙ put-same k (File (octets_in (entry_found es k))) (shown_entries es) c.requires.sorted
    (file_is (entry_found es k) c.requires.file))

pub returns-clause-ok : goal.returns-clause-ok
returns-clause-ok c =
    let k = c.args.first.now in
    let q = c.args.second.now in
    let es = c.args.entries.now in
    let here = found_some k es c.exchange.result (sym c.exchange.ensures.old) in
    let front = c.into_octets-octets.ensures ∙ ap octets_in (sym here) in
    let back = second_octets c.eq.result k q content.Directory es c.exchange.new.self c.into_octets-octets.result.items c.eq.ensures c.exchange.ensures.put
    front in
    let octets = c.in_ok-extended.ensures.ok ∙ ap (λ xs. c.into_octets-octets.result.items ++ xs) back ∙ ap (λ xs. xs ++ octets_in (entry_found es q)) front in
    shown_twice k (content.File c.extend-extended.new.octets) content.Directory es c.exchange.new.self c.set.new.self c.exchange.ensures.put c.set.ensures
    ∙ ap (λ xs. put path_cmp k (File xs) (shown_entries es)) octets

pub returns-clause-from : goal.returns-clause-from
returns-clause-from c =
    let here = found_some c.args.first.now c.args.entries.now c.exchange.result (sym c.exchange.ensures.old) in
    let front = ap (λ (xs : List ℕ). length xs) (c.into_octets-octets.ensures ∙ ap octets_in (sym here)) in
    omega (arith, c.len-from.ensures, c.into_octets-octets.result.ok.0, front)

pub returns-clause-to : goal.returns-clause-to
returns-clause-to c =
    let k = c.args.first.now in
    let q = c.args.second.now in
    let es = c.args.entries.now in
    let here = found_some k es c.exchange.result (sym c.exchange.ensures.old) in
    let front = c.into_octets-octets.ensures ∙ ap octets_in (sym here) in
    let back = second_octets c.eq.result k q content.Directory es c.exchange.new.self c.into_octets-octets.result.items c.eq.ensures c.exchange.ensures.put
    front in
    let octets = ap (λ (xs : List ℕ). length xs) (c.in_ok-extended.ensures.ok ∙ ap (λ xs. c.into_octets-octets.result.items ++ xs) back) in
    omega (
      arith,
      c.len-to.ensures,
      c.extend-extended.new.octets.ok.0,
      octets,
      length-append c.into_octets-octets.result.items (octets_in (entry_found es q)),
      ap (λ (xs : List ℕ). length xs) front,
    )
