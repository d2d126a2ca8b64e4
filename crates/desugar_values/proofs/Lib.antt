-- Lists of meanings, one part after another (for `push`).
pub mod Lists
