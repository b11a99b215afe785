pub mod NamesAndLines
pub mod Printing
pub mod PduLines
