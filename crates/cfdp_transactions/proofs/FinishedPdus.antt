-- The Finished PDU of a transaction that is over, as octets in a buffer.
pub mod Lengths
pub mod PutBefore
pub mod ResponsesPut
pub mod FinishedTaken
