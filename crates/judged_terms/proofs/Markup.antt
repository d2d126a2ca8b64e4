-- Elements and literals, from the laws of the crate below.
use Rattle.core_typing.specs.Cover.{Covers}
use Rattle.markup_rules.specs.Laws.{ElementsAreFound, LiteralsAreFound}
use Rattle.markup_rules.proofs.Found.{elements_are_found, literals_are_found}

pub elements : ElementsAreFound Covers
elements = elements_are_found Covers

pub literals : LiteralsAreFound Covers
literals = literals_are_found Covers
