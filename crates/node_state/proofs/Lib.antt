pub mod StateLaws
pub mod ExportLaws
