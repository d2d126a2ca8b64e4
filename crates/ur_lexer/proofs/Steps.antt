-- Steps in what has no fixed length. Behind each file: the public clause for which it serves.
-- `lex`: `told`, `no_tokens`: inside comments
pub mod CommentSteps
-- `lex`: where entities end
pub mod EntitySteps
-- `lex`: in runs of text
pub mod RunSteps
-- `lex`: inside strings
pub mod StringSteps
