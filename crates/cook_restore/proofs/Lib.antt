pub mod ContentLaws
pub mod GiveLaws
pub mod MeaningLaws
pub mod NameLaws
pub mod NextLaws
pub mod OpenLaws
pub mod PlacesLaws
pub mod PlainLaws
