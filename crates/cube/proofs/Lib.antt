pub mod Shifts
pub mod Cubes
pub mod Runs
pub mod Sizes
