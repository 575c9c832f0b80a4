pub mod Bitwise
pub mod Marking
pub mod Laws
