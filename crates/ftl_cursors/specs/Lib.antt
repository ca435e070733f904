pub mod classes
pub mod visit_steps
pub mod inorder
pub mod items
pub mod sequence
pub mod stages
pub mod visits
pub mod item_cursor
