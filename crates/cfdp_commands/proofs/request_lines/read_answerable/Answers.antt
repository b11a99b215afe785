use Rattle.std.proofs.Common.{◌≡◌, ◌∙◌, sym, subst, ℕ, ◌+◌, List, [], ◌∷◌, length, ap, arith}
use Rattle.cfdp_tlv.specs.Values.{RequestFields}
use Rattle.cfdp_tlv.specs.Grammar.{names_as_lv, SpellsRequest}
use Rattle.cfdp_tlv.proofs.Requests.{request_takes}
use Rattle.cfdp_commands.proofs.request_lines.read_answerable.Goals as goal

-- the first octet has the action, and the names are the rest
names-length : (octets : List ℕ) (request : RequestFields) → SpellsRequest octets request → length (names_as_lv request.first request.second) + 1
    ≡ length octets
names-length [] request spelled = absurd spelled
names-length (octet ∷ octets) request spelled = let e = ap (λ (xs : List ℕ). length xs) spelled.named in omega (arith, e)

pub returns-in-Ok-copy-clause-names : goal.returns-in-Ok-copy-clause-names
returns-in-Ok-copy-clause-names c =
    subst (λ (r : RequestFields). length (names_as_lv r.first r.second) + 1 ≡ length c.args.value.now) (sym c.in-Ok-copy.ensures)
    (names-length c.args.value.now c.in-Ok.parts (request_takes c.args.value.now c.in-Ok.parts (sym c.request_parts.ensures.exact ∙ c.in-Ok.is)))

pub returns-in-Ok-copy-clause-short : goal.returns-in-Ok-copy-clause-short
returns-in-Ok-copy-clause-short c = let e = returns-in-Ok-copy-clause-names c in omega (arith, e, c.if-value-gt-MAX_ANSWERABLE_LEN.false)
