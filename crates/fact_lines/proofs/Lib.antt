pub mod AmongLaws
pub mod GatheringLaws
pub mod HexLaws
pub mod RecordLaws
pub mod SortedLaws
