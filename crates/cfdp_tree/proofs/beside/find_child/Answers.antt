use Rattle.std.proofs.Common.{rules, [], length, get_or}
use Rattle.std.specs.Cmp.Lexicographic.{slice_cmp}
use Rattle.std.specs.Ordering.{nat_cmp}
use Rattle.std.proofs.lemmas.Fn.{always_returns_same}
use Rattle.cfdp_tree.proofs.OfWalks.LeftOutLaws.{searched, divided}
use Rattle.cfdp_tree.proofs.beside.find_child.Goals as goal

pub returns-clause-found : goal.returns-clause-found
returns-clause-found c =
    let p = c.args.directory.now in let n = c.args.name.now in
    let facts = c.binary_search_by.ensures in
    let at = facts.position (λ q. slice_cmp nat_cmp (get_or q (length p) []) n) (always_returns_same _ _ _ (λ a r g called. (search rules, search rules))) in
    searched p n c.args.children.now c.depth-depth.ensures.within.some c.requires c.binary_search_by.result facts.bound at

pub returns-clause-divides : goal.returns-clause-divides
returns-clause-divides c =
    let p = c.args.directory.now in let n = c.args.name.now in
    let facts = c.binary_search_by.ensures in
    let at = facts.position (λ q. slice_cmp nat_cmp (get_or q (length p) []) n) (always_returns_same _ _ _ (λ a r g called. (search rules, search rules))) in
    divided p n c.args.children.now c.depth-depth.ensures.within.some c.requires c.binary_search_by.result facts.bound at
