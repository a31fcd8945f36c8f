-- What must a reader believe? These files, in the order in which they are read (docs/ARCHITECTURE.md).
-- ---- limits, refusals
pub mod Limits
pub mod Refusal
-- ---- bytes, numbers, literals
pub mod Lists
pub mod Bytes
pub mod Reader
pub mod Number
pub mod Literal
-- ---- a statement
pub mod Row
pub mod Walk
pub mod Text
-- ---- a table, a file
pub mod Table
pub mod Answers
pub mod File
pub mod Stepping
-- ---- assignments
pub mod Meaning
pub mod Normal
pub mod Evaluate
pub mod Values
-- ---- what is written
pub mod Output
pub mod Write
-- ---- 01's examples, the listing program
pub mod TableP
pub mod House
-- ---- words of the theorems
pub mod Back
pub mod Pieces
pub mod Accepts
