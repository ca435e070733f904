pub mod FlatStages
