pub mod Answer
pub mod Rules
