pub mod Backs
pub mod Leaves
pub mod Picked
pub mod Within
