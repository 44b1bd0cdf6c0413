pub mod OkSteps
pub mod SentencesKept
pub mod UsersKept
pub mod PoliciesKept
pub mod WorldsKept
pub mod Trees
pub mod LinesSplit
pub mod Ordered
