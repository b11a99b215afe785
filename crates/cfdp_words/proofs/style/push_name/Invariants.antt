use Rattle.std.proofs.Common.{◌≡◌, ◌++◌, take, flat_map}
use Rattle.cfdp_words.specs.Style.{octet_text}
use Rattle.cfdp_words.proofs.style.push_name.Given as goal

abbrev pub invariant-loop-octet : goal.invariant-loop-octet
invariant-loop-octet l = l.text.items ≡ l.initial.text.items ++ flat_map (octet_text l.style) (take l.octet-index l.name)
