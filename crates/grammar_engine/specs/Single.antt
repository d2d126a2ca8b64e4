-- There is one tree.
use Rattle.std.specs.Prelude.{◌≡◌, ℕ, Bool, true, false, not, List}
use Rattle.surface_tree.specs.declared.token.Token.{Token}
use Rattle.surface_grammar.specs.declared.form.Form.{Form}
use Rattle.surface_grammar.specs.declared.form.Form.TheVariants as f
use Rattle.surface_grammar.specs.declared.part.Part.{Part}
use Rattle.surface_grammar.specs.declared.part.Part.TheVariants.{Word, One, Many, Maybe}
use Rattle.surface_grammar.specs.Listings.{Listing, Lists}
use Rattle.surface_grammar.specs.Refusals.{Whole}
use Rattle.surface_grammar.specs.Sides.{is_tag}
use Rattle.surface_grammar.specs.Trees.{Node, spell}

-- a part whose trees may be a whole text: all but the repetitions of a form that may begin where a tree of it goes on
abbrev pub is_text_part : Part → Bool
is_text_part (Many f.Exp) = false
is_text_part (Many f.ExpBindRest) = false
is_text_part (Many f.Term) = false
is_text_part (Many f.ExpFields) = false
is_text_part (Many f.ValRest) = false
is_text_part (Many f.ConForall) = false
is_text_part _ = true

-- a tree of the form may hold the name of the element around it: it is the end of one
abbrev pub holds_name : Form → Bool
holds_name f.ElementEnd = true
holds_name _ = false

-- no tree for the part holds such a name
abbrev pub names_itself : Part → Bool
names_itself (Word w) = not (is_tag w)
names_itself (One g) = not (holds_name g)
names_itself (Many g) = not (holds_name g)
names_itself (Maybe g) = not (holds_name g)

-- two trees of a whole text that spell the same tokens are one
abbrev pub OneWholeTree : Type 0
OneWholeTree =
    (p : Part) (n o : Node) (room space : ℕ) → is_text_part p ≡ true → Whole room p n → Whole space p o
    → spell n ≡ spell o → n ≡ o

-- each tree of the whole text, however deep, is the one that the tree of the code lists
abbrev pub OnlyTree : Part → List Token → Listing → Type 0
OnlyTree p ts tree = (n : Node) (room : ℕ) → is_text_part p ≡ true → Whole room p n → spell n ≡ ts → Lists tree n
