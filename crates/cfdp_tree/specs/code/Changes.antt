-- What is made.
--     empty_node kind       a directory, or a file without octets
use Rattle.std.specs.Prelude.{[]}
use Rattle.cfdp_actions.specs.declared.kind.Kind.{Kind}
use Rattle.cfdp_actions.specs.declared.kind.Kind.TheVariants as kind
use Rattle.cfdp_actions.specs.Filestore.{Node, Directory, File}

abbrev pub empty_node : Kind → Node
empty_node kind.Directory = Directory
empty_node kind.File = File []
