mod CellCover
pub mod CutLaws
mod EdgeLaws
mod FilmLaws
mod FitLaws
mod FooterLaws
pub mod HeadLaws
pub mod Marking
mod OneLaws
mod SettleLaws
mod WrittenTiles
