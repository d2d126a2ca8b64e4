-- What a text is printed over, as values of the program hold it.
use Rattle.std.specs.Prelude.{ℕ, List, map}
use Rattle.std.specs.Borrow.{Bor}
use Rattle.con_terms.specs.Trees.{Cn}
use Rattle.con_terms.specs.View.{pair_tree}
use Rattle.con_terms.specs.declared.con.Pair.{Pair}
use Rattle.shown_types.specs.Names as meant
use Rattle.shown_types.specs.declared.known.Declared.{Declared}
use Rattle.shown_types.specs.declared.known.Known.{Known}
use Rattle.shown_types.specs.declared.rows.Labelled.{Labelled}

abbrev pub declared_view : Declared → meant.Declared
declared_view d = record {
  symbol = d.symbol.number;
  home = d.home;
  name = d.name.number;
  builders = map (λ s. s.number) d.builders.items;
}

abbrev pub known_view : Known → meant.Known
known_view k = record {
  texts = k.texts.now;
  modules = k.modules.now;
  types = map declared_view k.types.now;
  folders = k.folders.now;
  file = k.file;
}

-- a field of a row, and one with the text of its name
abbrev pub pair_now : Bor Pair → Cn × Cn
pair_now p = pair_tree p.now

abbrev pub label : Labelled → List ℕ × (Cn × Cn)
label f = (f.name.now, pair_tree f.pair.now)
