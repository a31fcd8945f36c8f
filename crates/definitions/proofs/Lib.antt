-- What follows from the definitions? The theorems, each in a file of its own, and the laws that they rest on.
-- ---- the theorems
pub mod ThereAndBack
pub mod WholeFile
pub mod SameAnswers
pub mod EveryExample
-- ---- limits, tests, whole numbers, lists, answers
pub mod DeclaredLimits
pub mod Truths
pub mod Room
pub mod Whole
pub mod Each
pub mod Parts
pub mod KnownAnswers
-- ---- reading: walks, chains, numbers, statements
pub mod Walks
pub mod Chains
pub mod Texts
pub mod Numbers
pub mod Statements
pub mod FileAnswers
-- ---- tables
pub mod Columns
-- ---- meaning
pub mod Meanings
pub mod Normals
pub mod Ones
-- ---- for ThereAndBack: what is written is read
pub mod KnownTexts
pub mod Readback
pub mod RowsBack
pub mod StatementsBack
pub mod Accepted
pub mod Asked
pub mod ItemsBack
pub mod CountsBack
pub mod MeansBack
-- ---- for WholeFile and SameAnswers: a file piece by piece, and step by step
pub mod PieceByPiece
pub mod Stops
pub mod Steps
