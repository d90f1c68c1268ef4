pub mod ChainLaws
pub mod LayoutLaws
