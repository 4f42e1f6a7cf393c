pub mod UpdateLaws
pub mod HistoryLaws
pub mod LoanLaws
pub mod SeenReceipts
pub mod LongAccounts
pub mod EndLaws
