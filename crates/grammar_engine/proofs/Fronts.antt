-- What tells the raced rules apart, found by scans over tokens.
-- Behind each file: the public clause for which it serves.
-- `laws.one_whole_tree`: the scan for `<-`
pub mod Scan
-- `laws.one_whole_tree`: what it finds in a tree
pub mod Scanned
-- `laws.one_whole_tree`: kinds that end in brackets
pub mod Skimmed
-- `laws.one_whole_tree`: no constructor begins with one
pub mod ConFronts
-- `laws.one_whole_tree`: what may stand behind an expression and a constructor
pub mod Context
-- `laws.one_whole_tree`: an expression that begins with `[`
pub mod ListFronts
