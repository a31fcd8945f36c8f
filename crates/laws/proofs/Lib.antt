-- What code cites of the definitions, and no theorem over them.
-- ---- tables that were read
pub mod Tables
pub mod FilledTables
pub mod ReadRows
-- ---- how long numbers are, and texts in outputs
pub mod Digits
pub mod Puts
pub mod BytePuts
-- ---- refusals
pub mod Refusals
pub mod ZeroAccepts
