-- What lines begin and end with (for `words.behind`, `lines.without_return`, `lines.first_line`).
mod Fronts
-- Bytes have lines, and only these (for Reading, OneAnswer).
mod Cutting
-- Lines that are read one after another, up to the end or to one that is refused (for `projects.read_project`).
mod Reading
-- No bytes are two projects, or refused at two lines, or both (law `projects_have_one_answer` and one more).
mod OneAnswer
-- An effect among others, by what it is seen as (for `projects.is_effect_among`).
mod Effects
