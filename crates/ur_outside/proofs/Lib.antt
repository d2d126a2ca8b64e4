-- For `write_all`'s `bytes`: bytes that are told, over several writes.
mod Told
-- For `behind`: what `strip_prefix` answers.
mod Fronts
