use Rattle.std.proofs.Common.{arith, ◌≡◌, ◌+◌, ◌≤◌, ◌∷◌, [], ◌++◌, ℕ, List, length, ap, ◌∙◌, false}
use Rattle.std.specs.List.{flat_map}
use Rattle.cfdp_pdus.proofs.WriteSteps.{pdu_len}
use Rattle.cfdp_pdus.specs.Canonical.{header_octets}
use Rattle.cfdp_pdus.specs.BufferParts.{filled, with_octets_at}
use Rattle.cfdp_directives.specs.Spelling.{nak_field, range_octets}
use Rattle.cfdp_directives.proofs.Lengths.{nak_parts, range_len}
use Rattle.cfdp_pdus.proofs.BufferParts.{then, pdu_filled}
use Rattle.cfdp_directives.proofs.nak.fill_nak.Goals as goal

pub put_header-requires-clause-room : goal.put_header-requires-clause-room
put_header-requires-clause-room c =
    let h = c.args.header.now in
    omega (arith, pdu_len false h (nak_field h.large c.args.scope c.args.requests.now), c.requires.room)

pub put_octets-requires : goal.put_octets-requires
put_octets-requires c =
    let h = c.args.header.now in
    omega (
      arith,
      pdu_len false h (nak_field h.large c.args.scope c.args.requests.now),
      nak_parts h.large c.args.scope c.args.requests.now,
      c.requires.room,
      c.put_header.auto.out,
      c.header_len-at.ensures,
    )

pub put_range-requires-clause-room : goal.put_range-requires-clause-room
put_range-requires-clause-room c =
    let h = c.args.header.now in
    omega (
      arith,
      pdu_len false h (nak_field h.large c.args.scope c.args.requests.now),
      nak_parts h.large c.args.scope c.args.requests.now,
      c.requires.room,
      c.put_header.auto.out,
      c.put_octets.auto.out,
      c.header_len-at.ensures,
    )

pub put_ranges-requires-clause-room : goal.put_ranges-requires-clause-room
put_ranges-requires-clause-room c =
    let h = c.args.header.now in
    omega (
      arith,
      pdu_len false h (nak_field h.large c.args.scope c.args.requests.now),
      nak_parts h.large c.args.scope c.args.requests.now,
      c.requires.room,
      c.put_header.auto.out,
      c.put_octets.auto.out,
      c.put_range.auto.out,
      c.header_len-at.ensures,
      c.range_len.ensures,
    )

pub returns : goal.returns
unfolding nak_field
returns c =
    let h = c.args.header.now in
    let field = nak_field h.large c.args.scope c.args.requests.now in
    let code : List ℕ = 8 ∷ [] in
    let scope = range_octets h.large c.args.scope in
    let requests = flat_map (range_octets h.large) c.args.requests.now in
    let at = c.header_len-at.result in
    let within : at ≤ length c.put_header.new.out = omega (arith, pdu_len false h field, c.requires.room, c.put_header.auto.out, c.header_len-at.ensures) in
    let header : c.put_header.new.out ≡ filled (header_octets false h (length field)) c.args.out.now =
    c.put_header.ensures ∙ ap (λ (n : ℕ). filled (header_octets false h n) c.args.out.now) (c.field_len.ensures c.args.scope) in
    let till_scope : c.put_range.new.out ≡ with_octets_at c.put_header.new.out at (code ++ scope) =
    then c.put_header.new.out c.put_octets.new.out c.put_range.new.out code scope at (at + 1) within c.put_octets.ensures c.put_range.ensures (omega arith) in
    let till_requests : c.put_ranges.new.out ≡ with_octets_at c.put_header.new.out at field =
    then c.put_header.new.out c.put_range.new.out c.put_ranges.new.out (code ++ scope) requests at (at + 1 + c.range_len.result)
    within till_scope c.put_ranges.ensures
    (omega (arith, c.range_len.ensures, range_len h.large c.args.scope)) in
    pdu_filled false h c.args.out.now c.put_header.new.out c.put_ranges.new.out field at header till_requests c.header_len-at.ensures
