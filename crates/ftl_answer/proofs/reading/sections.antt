mod Ways
mod FaultEnds
mod ScheduleEnds
