-- The place that is computed is that of the first token of a form that isn't built yet (for `first_unbuilt`).
mod First
