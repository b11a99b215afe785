-- An item of a transaction, as the program hands it on.
--     item_of                   the item that it is
use Rattle.cfdp_actions.specs.Actions.{Item, Install, Perform}
use Rattle.cfdp_transactions.specs.declared.item.Item.{Item as Lent}
use Rattle.cfdp_transactions.specs.declared.item.Item.TheVariants as lent

abbrev pub item_of : Lent → Item
item_of (lent.Install path) = Install path.now
item_of (lent.Perform request) = Perform request.now
