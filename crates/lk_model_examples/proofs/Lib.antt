mod ResolutionInputs
mod ResolutionExamples
mod ScanExamples
mod LayoutExamples
mod Computed
mod FirstPathExamples
mod InputExamples
mod ReadingExamples
mod WordExamples
mod PlacementExamples
mod LawfulExamples
mod FirstPathImages
mod FirstPathRefusals
mod SmallestLink
mod StaticExamples
mod StaticRefusals
mod ValueExamples
mod HashExamples
pub mod DynamicLinks
mod DynamicExamples
mod SymbolTableExamples
pub mod RecordsComputed
pub mod RecordCases
mod RecordExamples
mod SmallestWholeLink
mod SharedExamples
mod LoadExamples
mod RecordsRefused
mod BaseExamples
mod UpdateComputed
mod UpdateLinks
mod UpdateExamples
mod UpdateStayExamples
mod SlotUpdateExamples
mod UpdateAnswerExamples
mod RecordsLinked
mod DynamicImageExamples
