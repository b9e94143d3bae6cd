-- What each operation of a run keeps of storage instances and of pairs of candidates (C17 6.2.4, the memory model).
pub mod Rows
pub mod Reached
pub mod Ways
pub mod Findings
pub mod Tables
pub mod Pointers
pub mod Printing
pub mod Characters
pub mod Allocations
pub mod Library
pub mod Calls
pub mod Stored
pub mod Worlds
pub mod Operations
pub mod Runs
