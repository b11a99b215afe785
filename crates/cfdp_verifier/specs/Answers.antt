-- What the code answers, in the words of the verdict.
--     verdict_said v              the verdict that the code's own type says
--     HasFootprint v              the footprint of what is granted is that of its items
use Rattle.std.specs.Prelude.{◌≡◌, ⊤, List}
use Rattle.cfdp_actions.specs.Actions.{Item}
use Rattle.cfdp_leases.specs.Footprint.{footprint_of}
use Rattle.cfdp_leases.specs.Items.{items_of}
use Rattle.cfdp_verifier.specs.declared.verdict.Verdict.{Verdict as Answer}
use Rattle.cfdp_verifier.specs.declared.verdict.Verdict.TheVariants as given
use Rattle.cfdp_verifier.specs.declared.verdict.Grant.{Grant as Granted_to}
use Rattle.cfdp_verifier.specs.Verdict.{Verdict, Refuse, Grant}

abbrev pub granted_items : Granted_to → List Item
granted_items grant = items_of grant.destination grant.requests.items

abbrev pub verdict_said : Answer → Verdict
verdict_said (given.Refuse refusal) = Refuse refusal
verdict_said (given.Grant grant) = Grant (granted_items grant) grant.blocks grant.steps

abbrev pub HasFootprint : Answer → Type 0
HasFootprint (given.Refuse refusal) = ⊤
HasFootprint (given.Grant grant) = grant.footprint ≡ footprint_of (granted_items grant)
