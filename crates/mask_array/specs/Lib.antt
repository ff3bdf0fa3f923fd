pub mod ArrayCall
