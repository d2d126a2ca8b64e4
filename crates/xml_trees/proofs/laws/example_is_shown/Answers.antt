use Rattle.std.proofs.Common.{[], refl}
use Rattle.xml_trees.specs.Example.{example}
use Rattle.xml_trees.specs.Written.{written}
use Rattle.xml_trees.proofs.Normal.{is_normal}
use Rattle.xml_trees.proofs.Spelling.{markup_then, is_markup}
use Rattle.xml_trees.proofs.laws.example_is_shown.Goals as goal

pub returns : goal.returns
returns c = (markup_then (written example) [], refl, is_markup (written example) (is_normal example))
