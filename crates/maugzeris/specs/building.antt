pub mod PageParts
