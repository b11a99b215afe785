-- A filestore that is kept over a restart: what it has is read out in path order, and put into the empty filestore of a
-- new entity.
--     put_all W es              directories and files are put, one after the other
--     CanPutAll W es            each of them can be put when its turn comes
--     without_staged F          the filestore once nothing is staged
--     PutBackIsSame             all that the filestore of a sound entity has can be put into a new one, which is then
--                               the same, but that nothing is staged
use Rattle.std.specs.Prelude.{◌≡◌, ⊤, List, [], ◌∷◌, replicate, None}
use Rattle.std.specs.FinMap as finite
use Rattle.cfdp_paths.specs.Paths.{Path}
use Rattle.cfdp_actions.specs.Filestore.{Node, Filestore}
use Rattle.cfdp_transactions.specs.World.{World, start}
use Rattle.cfdp_transactions.specs.Sound.{Sound}
use Rattle.cfdp_transactions.specs.Beginning.{start_with, with_node, put_fault}

abbrev pub put_all : World → List (Path × Node) → World
put_all W [] = W
put_all W (e ∷ es) = put_all (with_node W e.0 e.1) es

abbrev pub CanPutAll : World → List (Path × Node) → Type 0
CanPutAll W [] = ⊤
CanPutAll W (e ∷ es) = (put_fault W e.0 e.1 ≡ None) × CanPutAll (with_node W e.0 e.1) es

abbrev pub without_staged : Filestore → Filestore
without_staged F = record F { staged = replicate 64 [] }

-- also while transactions are live: what is staged for them is not read out
abbrev pub PutBackIsSame : Type 0
PutBackIsSame =
    (W : World) → Sound W →
    CanPutAll (start W.config) (finite.entries W.filestore.nodes)
    × (put_all (start W.config) (finite.entries W.filestore.nodes) ≡ start_with W.config (without_staged W.filestore))
