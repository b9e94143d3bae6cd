pub mod Kept
pub mod Said
pub mod Short
pub mod Table
pub mod TableParts
pub mod Views
