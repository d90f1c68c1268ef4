pub mod Sections
pub mod FormLaws
pub mod TypeLaws
pub mod Idle
pub mod Descents
pub mod CellLaws
pub mod SortLaws
pub mod PlaceLaws
