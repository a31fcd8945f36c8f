pub mod ListsTable
pub mod Ready
