use Rattle.std.proofs.Common.{◌≡◌, ◌++◌, take, flat_map}
use Rattle.cfdp_words.specs.Shown.{separator, range_item}
use Rattle.cfdp_words.proofs.lists.push_each_range.Given as goal

abbrev pub invariant-loop-range : goal.invariant-loop-range
invariant-loop-range l =
    l.text.items ≡ l.initial.text.items ++ flat_map (λ y. separator l.style ++ range_item l.style y) (take l.range-index l.rest)
