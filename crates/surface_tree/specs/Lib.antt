-- What contracts see of the tokens of a text.
pub mod TokenList
