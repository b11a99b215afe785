-- A directory or file that is put into another filestore.
--     CanCopy F entry W     an entry is of what there is at its path in a filestore, and it can be put into an entity
use Rattle.std.specs.Prelude.{◌≡◌, Some, None}
use Rattle.cfdp_actions.specs.Filestore.{Node, Filestore, node_at}
use Rattle.cfdp_actions.specs.Store.{listing_entry}
use Rattle.cfdp_actions.specs.declared.kind.Entry.{Entry}
use Rattle.cfdp_transactions.specs.Beginning.{put_fault}
use Rattle.cfdp_transactions.specs.World.{World}

pub record CanCopy (F : Filestore) (entry : Entry) (W : World) : Type 0 where
  pub node : Node
  pub there : node_at F entry.path ≡ Some node
  pub is : entry ≡ listing_entry (entry.path, node)
  pub can : put_fault W entry.path node ≡ None
