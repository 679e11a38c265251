-- What private contracts say. No public clause cites it, so a reader need not read it.
pub mod Adding
pub mod Fitting
pub mod Looks
pub mod Marks
pub mod Moving
pub mod Passes
pub mod PlanCode
pub mod PlanFalls
pub mod Planning
pub mod Sought
pub mod Telling
pub mod Untaken
