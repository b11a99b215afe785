use Rattle.std.proofs.Common.{◌≡◌, ◌++◌, take, flat_map}
use Rattle.cfdp_words.specs.Shown.{separator, request_item}
use Rattle.cfdp_words.proofs.lists.push_each_request.Given as goal

abbrev pub invariant-loop-request : goal.invariant-loop-request
invariant-loop-request l =
    l.text.items ≡ l.initial.text.items ++ flat_map (λ y. separator l.style ++ request_item l.style y) (take l.request-index l.rest)
