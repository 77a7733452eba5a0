pub mod Series
pub mod Division
pub mod Inverses
pub mod Method
pub mod Cyclic
