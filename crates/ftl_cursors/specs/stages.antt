pub mod PassTables
pub mod StageRows
