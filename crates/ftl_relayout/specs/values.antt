pub mod PartSites
