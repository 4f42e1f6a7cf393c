pub mod HexLaws
pub mod PassingLaws
