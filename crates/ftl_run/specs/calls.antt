pub mod ShownTables
pub mod SolvedPages
pub mod ChangedTrees
pub mod DemandedPages
