pub mod ListsRead
