pub mod Bits
pub mod TableLevel
pub mod Layout
pub mod Fields
pub mod NS32382
pub mod Access
pub mod Bus
pub mod Figures
