pub mod ItemNumbers
pub mod NumberLaws
