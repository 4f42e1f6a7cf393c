pub mod Updates
pub mod Histories
pub mod Loans
pub mod Books
pub mod Accounts
pub mod Ends
pub mod inside
