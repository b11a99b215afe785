pub mod ChecksumSteps
