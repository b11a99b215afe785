-- Worked examples of the definitions, and the words in which they are written.
pub mod Computing
pub mod ExampleWords
pub mod DeliveryExamples
pub mod RunExamples
pub mod AdmissionExamples
pub mod StepExamples
pub mod ConfigExamples
pub mod BesideExamples
