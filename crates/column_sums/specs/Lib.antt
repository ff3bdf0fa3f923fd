pub mod SumsBelow
pub mod Annex
pub mod AnnexLaws
