use Rattle.std.proofs.Common.{◌≡◌, ◌++◌, flat_map}
use Rattle.cfdp_words.specs.Shown.{separator, message_item}
use Rattle.cfdp_words.proofs.lists.push_each_message.Given as goal

abbrev pub invariant-loop-message : goal.invariant-loop-message
invariant-loop-message l =
    l.text.items ++ flat_map (λ y. separator l.style ++ message_item l.style y) l.message-iterator
    ≡ l.initial.text.items ++ flat_map (λ y. separator l.style ++ message_item l.style y) l.initial.message-iterator
