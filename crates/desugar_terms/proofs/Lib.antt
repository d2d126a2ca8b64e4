-- Lists in terms are seen as the lists of what their elements are seen as (for `links_made` and the others of `lists`).
pub mod Rolled
-- Terms with projections behind them, where there are some (for `with_links`).
pub mod SomeLinks
-- A path that is read dot by dot is the longest one (for `longest`).
pub mod LongestPaths
