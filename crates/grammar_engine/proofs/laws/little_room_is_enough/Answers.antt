use Rattle.grammar_engine.proofs.Trees.Roomier.{fits_in}
use Rattle.grammar_engine.proofs.laws.little_room_is_enough.Goals as goal

pub returns : goal.returns
returns c items p at room more behind tree l r = record {
  node = r.node;
  fits = fits_in r.node p room more _ _ l r.fits;
  lists = r.lists;
  spells = r.spells;
}
