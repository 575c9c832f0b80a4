pub mod Stores
pub mod Loans
pub mod Checks
pub mod Bytes
pub mod Made
pub mod Composed
pub mod Writes
