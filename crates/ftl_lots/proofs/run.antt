pub mod LotParts
