pub mod RisingLists
pub mod KidNumbers
pub mod Places
pub mod HandedNumbers
pub mod NextNumbers
pub mod Ranges
pub mod Begins
pub mod NextCounts
