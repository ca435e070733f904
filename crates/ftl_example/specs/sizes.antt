pub mod Least
pub mod Limited
pub mod Place
pub mod Reach
pub mod Wants
pub mod KidsMeant
pub mod SizeTable
pub mod PlaceTable
