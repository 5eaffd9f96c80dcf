pub mod OwnNumbers
pub mod WholeText
