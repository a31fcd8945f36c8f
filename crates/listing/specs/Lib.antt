pub mod ListsFile
