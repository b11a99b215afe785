use Rattle.std.proofs.Common.{◌≡◌, ◌++◌, take, flat_map}
use Rattle.cfdp_texts.specs.Replies.{shown_octet}
use Rattle.cfdp_texts.proofs.shown.push_shown.Given as goal

abbrev pub invariant-loop-octet : goal.invariant-loop-octet
invariant-loop-octet l = l.text.items ≡ l.initial.text.items ++ flat_map shown_octet (take l.octet-index l.octets)
