pub mod Joining
pub mod Missing
pub mod Matched
pub mod Rowing
pub mod Surveys
