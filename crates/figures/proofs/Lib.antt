-- The figures of document 01, and examples of the requests of document 02.
pub mod Figures
pub mod Requests
pub mod Links
pub mod Greedy
pub mod Sums
pub mod Records
pub mod Parts
pub mod Scans
pub mod Views
