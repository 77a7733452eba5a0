pub mod Numbers
pub mod Turns
pub use Rattle.rand_xoshiro.specs.SplitMix64
