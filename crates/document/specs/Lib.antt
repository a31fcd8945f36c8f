pub mod Document
pub mod DocumentRead
pub mod DocumentWritten
