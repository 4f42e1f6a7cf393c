pub mod Phases
pub mod PhasesOnce
pub mod inside
pub mod Programs
