pub mod Output
pub mod Buffer
