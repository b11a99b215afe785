-- The head of a script after something was put.
use Rattle.std.proofs.Common.{◌≡◌, List, map, Bool, true, ap, sym, ◌∙◌}
use Rattle.std.specs.Prelude.{Option, None, Result, Ok}
use Rattle.cfdp_paths.specs.Paths.{Path}
use Rattle.cfdp_actions.specs.Filestore.{Node}
use Rattle.cfdp_transactions.specs.Config.{Config}
use Rattle.cfdp_transactions.specs.World.{World}
use Rattle.cfdp_receiver.specs.declared.mib.Mib.{Mib}
use Rattle.cfdp_run.specs.Putting.{as_directory, missing, with_put, room_wrong}
use Rattle.cfdp_run.specs.Scripts.{Head, put_node, unless}
use Rattle.cfdp_run.specs.Stops.{ScriptEnd}
use Rattle.cfdp_run.specs.declared.wrong.Wrong.{Wrong}
use Rattle.cfdp_run.proofs.Puts.{put_all-same, put_all-table, put_all-staged, with_put-config}

pub with_put-table : (W : World) (p : Path) (node : Node) → (with_put W p node).table ≡ W.table
with_put-table W p node = put_all-table W (map as_directory (missing W.filestore p))

pub with_put-staged : (W : World) (p : Path) (node : Node) → (with_put W p node).filestore.staged ≡ W.filestore.staged
with_put-staged W p node = put_all-staged W (map as_directory (missing W.filestore p))

-- the prefixes of the head are not in the entity in which something is put
pub put_in_head : (mib : Mib) (W V : World) (prefixes : List Path) (begun : Bool) (p : Path) (node : Node) → V ≡ with_put W p node → room_wrong W p node
    ≡ None →
    put_node (record { mib = mib; world = record W { config = record W.config { prefixes = prefixes } }; has_begun = begun }) p node
    ≡ Ok (record { mib = mib; world = record V { config = record V.config { prefixes = prefixes } }; has_begun = true })
unfolding put_node
put_in_head mib W V prefixes begun p node put room =
    let c : Config = record W.config { prefixes = prefixes } in
    let X : World = with_put W p node in
    let same : X.config ≡ W.config = put_all-same W (map as_directory (missing W.filestore p)) in
    let head_with : World → Head = λ U. record { mib = mib; world = U; has_begun = true } in
    let made : Result Head ScriptEnd = Ok (head_with (with_put (record W { config = c }) p node)) in
    ap (λ (o : Option Wrong). unless o made) room
    ∙ ap (λ (U : World). Ok (head_with U))
    (with_put-config W c p node ∙ ap (λ (d : Config). record X { config = record d { prefixes = prefixes } }) (sym same)
    ∙ ap (λ (U : World). record U { config = record U.config { prefixes = prefixes } }) (sym put))
