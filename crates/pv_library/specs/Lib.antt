pub mod LibraryNames
pub mod LibraryTypes
