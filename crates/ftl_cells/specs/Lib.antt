pub mod shared
pub mod work_phases
