-- Laws of words, of the orders and of what is written, and the round trip over the definitions.
pub mod AttachmentLengths
pub mod DirectoryLaws
pub mod GivingLaws
pub mod PackageLaws
pub mod PackedLaws
pub mod ProfileLaws
pub mod RestoreLaws
pub mod RoundTripLaws
pub mod SlashLaws
pub mod SpelledPackage
pub mod TopLaws
pub mod WordLaws
