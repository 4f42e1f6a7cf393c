pub mod IdLaws
pub mod JoinLaws
pub mod LeaveLaws
