use Rattle.std.proofs.Common.{◌≡◌, ◌-◌, ◌<◌, ℕ, refl, length, take, ap, ◌∙◌, arith}
use Rattle.cfdp_arena.specs.Arena.{Blocks}
use Rattle.cfdp_arena.proofs.Chains.{live_within}
use Rattle.cfdp_arena.proofs.Laws.{free_count-written}
use Rattle.cfdp_tree.specs.declared.runs.Run.{Run}
use Rattle.cfdp_tree.specs.code.NodeFields.{NodeFields, node_fields_of, node_name}
use Rattle.cfdp_tree.specs.code.Runs.{IsHeld, nth}
use Rattle.cfdp_tree.specs.code.Files.{with_contents}
use Rattle.cfdp_tree.proofs.OfStore.FileNodeLaws.{run_keeps}
use Rattle.cfdp_tree.proofs.OfRuns.HeldLaws.{held_part}
use Rattle.cfdp_tree.proofs.OfNodes.TreeLaws.{node_live, node_octets}
use Rattle.cfdp_tree.proofs.OfRuns.SpareLaws.{runs_stay}
use Rattle.cfdp_tree.proofs.OfNodes.WriteLaws.{written_octets, written_nodes}
use Rattle.cfdp_tree.proofs.files.set_contents.Goals as goal

-- the blocks of a run are in the arena
part_within : (arena : Blocks) (run : Run) → IsHeld arena run → (k : ℕ) → k < run.count → (block : ℕ) → block ≡ nth arena run.first k → block < length arena
part_within arena run held k within block is = live_within arena block (held_part arena run held k within block is).live

pub set_run-requires : goal.set_run-requires
set_run-requires c =
    let arena = c.args.arena.now in let run = c.args.contents.now.run in let held = c.requires.held in
    record {
      first = (λ some. omega (arith, part_within arena run held 0 some run.first refl, c.free-free.ensures.capacity));
      last = (λ some. omega (arith, part_within arena run held (run.count - 1) (omega (arith, some)) run.last (held.last some), c.free-free.ensures.capacity));
    }

pub returns-clause-nodes : goal.returns-clause-nodes
returns-clause-nodes c =
    written_nodes c.args.arena.now c.args.node c.bytes_mut-block.result.now c.set_sum.new.block c.requires.node c.bytes_mut-block.ensures.octets
    (c.set_sum.ensures.header ∙ c.set_size.ensures.header ∙ c.set_run.ensures.header)

pub returns-clause-fields : goal.returns-clause-fields
returns-clause-fields c =
    let arena = c.args.arena.now in let b = c.args.node in let shown = c.bytes_mut-block.result.now in let contents = c.args.contents.now in
    ap node_fields_of (written_octets arena b shown c.set_sum.new.block c.requires.node c.bytes_mut-block.ensures.octets (c.set_sum.ensures.header
    ∙ c.set_size.ensures.header ∙ c.set_run.ensures.header))
    ∙ c.set_sum.ensures.fields
    ∙ ap (λ (r : NodeFields). record r { sum = contents.sum }) c.set_size.ensures.fields
    ∙ ap (λ (r : NodeFields). record r { size = contents.size; sum = contents.sum }) c.set_run.ensures.fields
    ∙ ap (λ xs. with_contents (node_fields_of xs) contents) (node_octets arena b c.requires.node shown c.bytes_mut-block.ensures.octets)

pub returns-clause-name : goal.returns-clause-name
returns-clause-name c =
    let arena = c.args.arena.now in let b = c.args.node in let shown = c.bytes_mut-block.result.now in let new = c.set_sum.new.block in let run =
    c.args.contents.now.run in
    let long = ap (λ (r : NodeFields). r.name_length) c.set_sum.ensures.fields ∙ ap (λ (r : NodeFields). r.name_length) c.set_size.ensures.fields
    ∙ ap (λ (r : NodeFields). r.name_length) c.set_run.ensures.fields ∙ run_keeps (λ (r : NodeFields). r.name_length) (node_fields_of shown) run refl in
    let name : node_name new ≡ node_name shown = (λ k. take (long k) ((c.set_sum.ensures.name ∙ c.set_size.ensures.name ∙ c.set_run.ensures.name) k)) in
    ap node_name (written_octets arena b shown new c.requires.node c.bytes_mut-block.ensures.octets (c.set_sum.ensures.header ∙ c.set_size.ensures.header
    ∙ c.set_run.ensures.header))
    ∙ name
    ∙ ap node_name (node_octets arena b c.requires.node shown c.bytes_mut-block.ensures.octets)

pub returns-clause-whole : goal.returns-clause-whole
returns-clause-whole c =
    ap length (written_octets c.args.arena.now c.args.node c.bytes_mut-block.result.now c.set_sum.new.block c.requires.node c.bytes_mut-block.ensures.octets
    (c.set_sum.ensures.header ∙ c.set_size.ensures.header ∙ c.set_run.ensures.header))
    ∙ c.set_sum.ensures.whole

pub returns-clause-runs : goal.returns-clause-runs
returns-clause-runs c = runs_stay c.args.arena.now c.args.node c.set_sum.new.block c.requires.node

pub returns-clause-free : goal.returns-clause-free
returns-clause-free c =
    free_count-written c.args.arena.now c.args.node c.set_sum.new.block (node_live c.args.arena.now c.args.node c.requires.node)
