-- What only the proofs of the code need of `Links`.
use Rattle.std.specs.Prelude.{List, [], ◌∷◌, Option, Some, None}
use Rattle.cfdp_engine.specs.declared.message.Message.{Message}
use Rattle.cfdp_links.specs.Links.{Said, said_of}

-- a line may say nothing
abbrev pub said_in : Option Message → List Said
said_in None = []
said_in (Some message) = said_of message ∷ []
