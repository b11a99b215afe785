pub mod Files
pub mod Words
pub mod code
pub use Rattle.cfdp_lines.specs.Lines
