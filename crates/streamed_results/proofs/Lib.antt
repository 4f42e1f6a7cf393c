pub mod PiecesAreRows
pub mod ResultIsStreamed
