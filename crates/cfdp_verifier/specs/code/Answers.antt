-- What only the proofs of the code need of `Answers`.
--     GivesVerdict v result       what is granted, or the refusal
--     HasRequests, HasItems       the requests, or all items, that were parsed, or the refusal for the first name that
--                                 is no path
use Rattle.std.specs.Prelude.{◌≡◌, ⊤, Result, Ok, Err, Vec, map}
use Rattle.std.specs.declared.alloc.Global.{Global}
use Rattle.cfdp_actions.specs.Actions.{Request, Perform}
use Rattle.cfdp_leases.specs.Footprint.{footprint_of}
use Rattle.cfdp_leases.specs.Items.{items_of}
use Rattle.cfdp_verifier.specs.declared.verdict.Grant.{Grant as Granted_to}
use Rattle.cfdp_verifier.specs.declared.refusal.NotGranted.{NotGranted}
use Rattle.cfdp_verifier.specs.declared.refusal.NotGranted.TheVariants as no
use Rattle.cfdp_verifier.specs.declared.parsing.Items.{Items}
use Rattle.cfdp_verifier.specs.code.Judging.{RefusesSo}
use Rattle.cfdp_verifier.specs.Verdict.{Verdict, Grant, Parsed, Bad, Good, BadPath, Place}
use Rattle.cfdp_verifier.specs.Answers.{granted_items}

-- what was parsed is the definition's; out of memory says nothing
abbrev pub IsBad : NotGranted → Parsed → Type 0
IsBad (no.Refused refusal) parsed = (place : Place) × (refusal ≡ BadPath place) × (parsed ≡ Bad place)
IsBad no.Memory parsed = ⊤

abbrev pub HasRequests : Parsed → Result (Vec Request Global) NotGranted → Type 0
HasRequests parsed (Ok requests) = parsed ≡ Good (map Perform requests.items)
HasRequests parsed (Err fault) = IsBad fault parsed

abbrev pub HasItems : Parsed → Result Items NotGranted → Type 0
HasItems parsed (Ok items) = parsed ≡ Good (items_of items.destination items.requests.items)
HasItems parsed (Err fault) = IsBad fault parsed

-- a list is granted what its verdict grants, or refused as its verdict says
abbrev pub GivesVerdict : Verdict → Result Granted_to NotGranted → Type 0
GivesVerdict v (Ok grant) = (v ≡ Grant (granted_items grant) grant.blocks grant.steps)
    × (grant.footprint ≡ footprint_of (granted_items grant))
GivesVerdict v (Err fault) = RefusesSo fault v
