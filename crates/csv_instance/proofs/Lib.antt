pub mod Basics
pub mod ExampleFacts
pub mod OffsetFacts
pub mod FoundLemmas
pub mod Short
pub mod GapLemmas
pub mod GapTexts
pub mod Left
pub mod GivesLemmas
pub mod FieldLemmas
pub mod IdLemmas
pub mod NumberedIds
pub mod RowStepLemmas
pub mod TableLemmas
pub mod FailLemmas
pub mod LayoutLemmas
pub mod ReadBack
pub mod Mark
pub mod OffsetLemmas
pub mod LayoutLaw
pub mod OffsetRows
pub mod SomeRows
pub mod SomeBack
pub mod RowLemmas
pub mod TableGrowth
pub mod KeptLemmas
pub mod ChangedLemmas
pub mod ChangedFields
pub mod ChangedHeader
pub mod ChangedRows
pub mod ChangedBack
mod FieldFacts
mod KeptFacts
mod RowFacts
mod TextFacts
pub mod FileFacts
