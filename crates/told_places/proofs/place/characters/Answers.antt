use Rattle.std.proofs.Common.{rules}
use Rattle.std.proofs.lemmas.Str.{chars_from_encodes}
use Rattle.told_places.proofs.place.characters.Goals as goal

pub returns-clause-number : goal.returns-clause-number
returns-clause-number c = search (rules, chars_from_encodes)
