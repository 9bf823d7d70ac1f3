pub mod Each
pub mod Clients
pub mod Entries
pub mod Walk
pub mod Writes
pub mod Turns
pub mod Indexing
