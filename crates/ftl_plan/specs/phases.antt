pub mod StagePhases
