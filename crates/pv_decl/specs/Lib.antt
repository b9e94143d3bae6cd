pub mod Sparse
pub mod Filled
pub mod Sources
pub mod NameTables
