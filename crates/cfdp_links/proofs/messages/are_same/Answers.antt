use Rattle.std.proofs.Common.{◌≡◌, ◌∙◌, ◌<◌, ap, sym, subst, length, slice_index_or}
use Rattle.std.proofs.lemmas.List.{get_or-map, length-map}
use Rattle.cfdp_links.specs.Links.{said_of}
use Rattle.cfdp_links.proofs.messages.are_same.Goals as goal

-- what is at this index says something else, and so do the lists
pub returns-then-not-is_same : goal.returns-then-not-is_same
returns-then-not-is_same c =
    let xs = c.args.taken.now in
    let ys = c.args.due.now in
    let k = c.loop-index.index in
    let x = c.index-taken-index.result in
    let y = c.index-due-index.result in (
      λ good. absurd cc,
      λ same.
          let x_in : k < length xs = c.loop-index-test.true in
          let lengths : length xs ≡ length ys = sym (length-map xs said_of) ∙ ap length same ∙ length-map ys said_of in
          let y_in : k < length ys = subst (λ n. k < n) lengths x_in in
          let said : said_of x ≡ said_of y =
          ap said_of c.index-taken-index.is
          ∙ sym (get_or-map said_of xs k x (said_of x) x_in)
          ∙ ap (λ said. slice_index_or said k (said_of x)) same
          ∙ get_or-map said_of ys k y (said_of x) y_in
          ∙ sym (ap said_of c.index-due-index.is) in
          let stated = c.is_same.ensures.1 said in
          absurd cc,
    )
