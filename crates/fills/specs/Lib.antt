pub mod FillsTerms
