pub mod StepLemmas
pub mod ProgramLemmas
pub mod AnswerLemmas
pub mod WordsLemmas
pub mod WritingLemmas
mod BegunLemmas
mod PerformLemmas
mod UpgradeLemmas
mod CarriedLemmas
mod SoloLemmas
mod RunLemmas
mod HaltedLemmas
mod RanLemmas
mod GarbleLemmas
mod StreamLemmas
mod GarbledLemmas
mod GarblingLemmas
mod SteadyLemmas
mod GeneratedLemmas
mod GeneratingLemmas
mod GeneratedFiles
mod LabelFileLemmas
mod EvalLemmas
mod DealtLemmas
mod ReadsLemmas
mod StreamFaultLemmas
mod EvaluatedLemmas
mod EvaluatingLemmas
mod SaysPlainLemmas
