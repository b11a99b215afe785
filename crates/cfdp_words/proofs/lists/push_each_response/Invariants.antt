use Rattle.std.proofs.Common.{◌≡◌, ◌++◌, take, flat_map}
use Rattle.cfdp_words.specs.Shown.{separator, response_item}
use Rattle.cfdp_words.proofs.lists.push_each_response.Given as goal

abbrev pub invariant-loop-response : goal.invariant-loop-response
invariant-loop-response l =
    l.text.items ≡ l.initial.text.items ++ flat_map (λ y. separator l.style ++ response_item l.style y) (take l.response-index l.rest)
