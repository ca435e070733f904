pub mod ReadTables
