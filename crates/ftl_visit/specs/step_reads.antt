pub mod StepReads
