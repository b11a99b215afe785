use Rattle.std.proofs.Common.{rules, ◌≡◌, ◌++◌, ◌∷◌, [], map}
use Rattle.cfdp_links.specs.Links.{said_of}
use Rattle.cfdp_commands.specs.Stages.{setup_of}
use Rattle.cfdp_links.proofs.Preparing.{file_heard, heard_following}
use Rattle.cfdp_links.proofs.link_files.read_next.Goals as goal

pub returns-clause-heard : goal.returns-clause-heard
returns-clause-heard c =
    let heard = file_heard (setup_of c.args.setup.now) c.args.script.now _ c.in-Ok.ensures.ok in
    let grown : c.push.new.self.items ≡ c.args.files.now.items ++ c.in-Ok.messages ∷ [] = search rules in
    λ before. heard_following (λ file. map said_of file.items) _ _ _ grown heard before
