mod Cases
pub mod Arithmetic
pub mod Dependence
pub mod Evaluation
pub mod EvaluationLaws
pub mod FaultLaws
pub mod Faults
pub mod PlainReads
pub mod Readings
pub mod Recursion
pub mod RecursionLaws
pub mod Soundness
pub mod Typing
pub mod TypingLaws
