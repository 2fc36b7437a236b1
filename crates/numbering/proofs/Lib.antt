pub mod SoundLines
pub mod Bounds
pub mod Parts
pub mod Palettes
pub mod OneToOne
