pub mod Left
pub mod Made
pub mod MadeItems
pub mod Parts
pub mod Placed
pub mod Source
pub mod SourceItems
