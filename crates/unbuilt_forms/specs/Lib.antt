-- Which tokens show a form that isn't built yet, and the first of them.
pub mod Unbuilt
