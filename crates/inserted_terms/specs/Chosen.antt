-- The folders and instances that the calls in a term insert are those that their rules choose.
-- The Ur/Web Manual, "Type Inference", "Folders" and "Type Classes".
use Rattle.core_terms.specs.Trees.{Ex, node, Fo, bound, top, foreign, basis, fold_over, number, text, built, fn, fn_con, fn_guard, call, let_in, case_of, ascribed, fields_of, select, concat, without, without_row, folder, element, literal, sql, Its, no_items, with_term, with_con, with_guard, Nms, no_named, named, Los, no_locals, local_val, local_rec, Brs, no_branches, branch, Fds, no_fields, field, El, tagged, Ats, no_attributes, attribute, Xs, no_nodes, a_node, Exs, no_exps, an_exp}
use Rattle.guided_terms.specs.Heres.{Here}
use Rattle.inserted_terms.specs.Asked.{ItemsAsked}
use Rattle.inserted_terms.specs.Heads.{type_of}
use Rattle.inserted_terms.specs.Inside.{inside, inside_binder, inside_locals, inside_names, inside_variable}

abbrev mutual
  pub Chosen : Here → Ex → Type 0
  Chosen h (node p a f) = FormChosen h f

  pub FormChosen : Here → Fo → Type 0
  FormChosen h (bound i) = Unit {0}
  FormChosen h (top i) = Unit {0}
  FormChosen h (foreign i) = Unit {0}
  FormChosen h (basis b) = Unit {0}
  FormChosen h (fold_over k) = Unit {0}
  FormChosen h (number z) = Unit {0}
  FormChosen h (text w) = Unit {0}
  FormChosen h (built s j) = Unit {0}
  FormChosen h (fn q t e) = Chosen (inside q h) e
  FormChosen h (fn_con x i w k e) = Chosen (inside_variable h) e
  FormChosen h (fn_guard c d e) = Chosen h e
  -- of a call: what it inserts, and its parts
  FormChosen h (call f s is) = ItemsAsked h (type_of h f) is × Chosen h f × ItemsChosen h is
  FormChosen h (let_in ls e) = LocalsChosen h ls × Chosen (inside_locals ls h) e
  FormChosen h (case_of e p q b bs) = Chosen h e × Chosen (inside q h) b × BranchesChosen h bs
  FormChosen h (ascribed e t) = Chosen h e
  FormChosen h (fields_of fs) = FieldsChosen h fs
  FormChosen h (select e c) = Chosen h e
  FormChosen h (concat e d) = Chosen h e × Chosen h d
  FormChosen h (without e c) = Chosen h e
  FormChosen h (without_row e c) = Chosen h e
  FormChosen h (folder k ps) = Unit {0}
  FormChosen h (element m) = ElementChosen h m
  FormChosen h (literal c u xs) = NodesChosen h xs
  FormChosen h (sql k es) = AllChosen h es

  pub ItemsChosen : Here → Its → Type 0
  ItemsChosen h no_items = Unit {0}
  ItemsChosen h (with_term e is) = Chosen h e × ItemsChosen h is
  ItemsChosen h (with_con p o c is) = ItemsChosen h is
  ItemsChosen h (with_guard p a is) = ItemsChosen h is

  -- of names that are declared together, in their scope
  pub NamesChosen : Here → Nms → Type 0
  NamesChosen h no_named = Unit {0}
  NamesChosen h (named p x w t e ns) = Chosen h e × NamesChosen h ns

  -- of the declarations of a let, each in the scope of those before it
  pub LocalsChosen : Here → Los → Type 0
  LocalsChosen h no_locals = Unit {0}
  LocalsChosen h (local_val p x w t e ls) = Chosen h e × LocalsChosen (inside_binder x t h) ls
  LocalsChosen h (local_rec ns ls) = NamesChosen (inside_names ns h) ns × LocalsChosen (inside_names ns h) ls

  pub BranchesChosen : Here → Brs → Type 0
  BranchesChosen h no_branches = Unit {0}
  BranchesChosen h (branch p q e bs) = Chosen (inside q h) e × BranchesChosen h bs

  pub FieldsChosen : Here → Fds → Type 0
  FieldsChosen h no_fields = Unit {0}
  FieldsChosen h (field p c e fs) = Chosen h e × FieldsChosen h fs

  pub ElementChosen : Here → El → Type 0
  ElementChosen h (tagged g x c u as' xs) = AttributesChosen h as' × NodesChosen h xs

  pub AttributesChosen : Here → Ats → Type 0
  AttributesChosen h no_attributes = Unit {0}
  AttributesChosen h (attribute p x e as') = Chosen h e × AttributesChosen h as'

  pub NodesChosen : Here → Xs → Type 0
  NodesChosen h no_nodes = Unit {0}
  NodesChosen h (a_node c e xs) = Chosen h e × NodesChosen h xs

  pub AllChosen : Here → Exs → Type 0
  AllChosen h no_exps = Unit {0}
  AllChosen h (an_exp e es) = Chosen h e × AllChosen h es
