-- One page with its text.
use Rattle.std.specs.Prelude.{ℕ, List, [], ◌∷◌, codes}
use Rattle.xml_trees.specs.declared.tag.Tag.TheVariants.{Body, P, Br}
use Rattle.xml_trees.specs.declared.attrs.Attr.TheVariants.{Title}
use Rattle.xml_trees.specs.Trees.{Trees, Nothing, Words, Element}
use Rattle.xml_trees.specs.Written.{written}
use Rattle.xml_trees.specs.Grammar.{IsPage}

-- a paragraph whose title and text are `<b>&"`, and a line break, in a body
abbrev pub example : Trees
example =
    let text = codes "<b>&\"" in
    Element Body [] (Element P (Title text ∷ []) (Words text Nothing)
    (Element Br [] (Words text Nothing) Nothing)) Nothing

-- its text
abbrev pub example_text : List ℕ
example_text =
    codes "<!DOCTYPE html><html><body><p title=\"&lt;b&gt;&amp;&quot;\">&lt;b&gt;&amp;\"</p><br></body></html>"

-- the text is that of the page
abbrev pub ExampleIsShown : Type 0
ExampleIsShown = IsPage example_text (written example)
