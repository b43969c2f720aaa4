-- The question of the papers' rule: its loop, its four lists, and what its answer says of the parts.
pub mod Selecting
pub mod FourLists
pub mod Laid
pub mod Answer
pub mod Passing
