use Rattle.std.proofs.Common.{◌≡◌, ◌++◌, take, map}
use Rattle.cfdp_words.specs.Style.{key_octet}
use Rattle.cfdp_words.proofs.style.push_key.Given as goal

abbrev pub invariant-loop-octet : goal.invariant-loop-octet
invariant-loop-octet l = l.text.items ≡ l.initial.text.items ++ map key_octet (take l.octet-index l.name)
