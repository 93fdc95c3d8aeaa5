pub mod Open
pub mod Book
