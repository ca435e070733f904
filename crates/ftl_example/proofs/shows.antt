pub mod BySize
pub mod FirstKid
pub mod PlaceShows
pub mod ReadFacts
pub mod ShownPlace
pub mod ShownRead
pub mod ShownRows
pub mod WrongOrder
