-- The trees of rows, from what a match tells.
use Rattle.std.proofs.Common.{◌≡◌, ap, ◌∙◌, sym, Box, Global}
use Rattle.con_terms.specs.Trees.{app, cat}
use Rattle.con_terms.specs.View.{con_tree}
use Rattle.con_terms.specs.declared.con.Con.{Con, App, Cat}
use Rattle.row_normal.proofs.Forms.{app_form, cat_form}

pub tree_cat : (c x y : Con) (a b : Box Con Global) → c ≡ Cat a b → x ≡ a.value → y ≡ b.value → con_tree c ≡ cat (con_tree x) (con_tree y)
tree_cat c x y a b e h g = ap con_tree e ∙ cat_form a b ∙ ap (λ z. cat (con_tree z) (con_tree b.value)) (sym h) ∙ ap (λ z. cat (con_tree x) (con_tree z)) (sym g)

pub tree_app : (c x y : Con) (a b : Box Con Global) → c ≡ App a b → x ≡ a.value → y ≡ b.value → con_tree c ≡ app (con_tree x) (con_tree y)
tree_app c x y a b e h g = ap con_tree e ∙ app_form a b ∙ ap (λ z. app (con_tree z) (con_tree b.value)) (sym h) ∙ ap (λ z. app (con_tree x) (con_tree z)) (sym g)
