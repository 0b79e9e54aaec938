-- What only contracts of private functions and proofs name: not to be read for what is promised.
pub mod Acting
pub mod Drilled
pub mod Escapes
pub mod Refused
pub mod RefusalWords
pub mod ReportData
pub mod TakenCable
pub mod TakenBeside
