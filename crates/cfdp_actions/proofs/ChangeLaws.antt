-- The blocks of a filestore after one change, by the names that other crates use.
--     blocks-becomes, blocks-stages     a path has another node;  a slot another list
pub use Rattle.cfdp_actions.proofs.Weights.{blocks-becomes, blocks-stages}
