-- Why each answer of the search for the part of the lowest variable is right: what is picked, what belongs together, where it stands, and
-- one round after the other.
pub mod Picking
pub mod Rooms
pub mod Laying
pub mod Differences
pub mod Picked
pub mod Bringing
pub mod Standing
pub mod Rounds
