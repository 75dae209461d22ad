-- Document 01's definitions, section by section in its order, and document 02's where they belong: the one list of them. What a run, a relaxation and the order on fields are is
-- in specs/ of crate `monotone` (Field, Rule, Ordering, Sweep, Links, Linear, History), a refusal's number in that of crate `fault`.

-- numbers and lists, and what a call gives
pub mod Limits
pub mod Lists
pub mod Integers
pub mod Result
-- "The film file"
pub mod Bytes
pub mod Fields
pub mod Gauge
pub mod File
pub mod FileCalls
-- "Refusals"
pub mod Refusals
pub mod Checks
pub mod Accepted
-- "Coefficients"
pub mod Coefficients
pub mod Reynolds
pub mod Film
-- document 02, W1: films that come as coefficients
pub mod CoefficientFile
pub mod CoefficientCalls
pub mod EitherFile
-- "A visit"
pub mod Relaxation
-- "A line offer"
pub mod Proposal
pub mod Margin
pub mod Estimate
-- "A run", and demand 3
pub mod Run
pub mod Weighing
pub mod Demand
pub mod Session
-- "The report"
pub mod Report
pub mod ReportCall
-- "Film F at its edges"
pub mod FilmF
