-- Each value that an accepted program names is declared (law `accepted_programs_have_no_gaps`).
use Rattle.std.proofs.Common.{◌≡◌, ◌≢◌, ℕ, suc, zero, ◌+◌, ◌<◌, ◌≤◌, List, [], ◌∷◌, ◌++◌, length, map, Some, slice_get, refl, ap, sym, ◌∙◌, subst, arith}
use Rattle.std.proofs.lemmas.List.{length-append, length-map}
use Rattle.std.specs.List.{AllByRecursion}
use Rattle.con_terms.specs.Trees.{Cn, Prs}
use Rattle.xml_trees.specs.declared.source_name.TagName.{TagName}
use Rattle.core_terms.specs.Trees.{Ex, Its, Nms, Los, Brs, Fds, El, Ats, Xs, Dt, De, val, vals, con_is, datatype, thing, Pg}
use Rattle.core_typing.specs.Accepts.{Accepts}
use Rattle.core_typing.specs.Asks.{Asks, cover_asked}
use Rattle.core_typing.specs.Declarations.{DeclsTyped, no_decls, a_val, some_vals, a_con, a_datatype, Value, named_values, values, value_types, scope_with}
use Rattle.core_typing.specs.Scopes.{Sc}
use Rattle.core_typing.specs.Typed.{Typed, by_equal, of_bound, of_top, of_foreign, of_basis, of_fold, of_number, of_text, of_built, of_fn, of_fn_con, of_fn_guard, of_call, of_let, of_case, of_ascribed, of_fields, of_select, of_concat, of_without, of_without_row, of_folder, of_element, of_literal, Applies, to_nothing, to_equal, to_term, to_con, to_guard, EachTyped, no_branch, each_branch, FieldsTyped, no_field, each_field, Declares, nothing, one_name, names_together, NamedTyped, no_name, each_name, ElementTyped, of_holding, of_words_alone, of_empty, of_form, of_input, of_button, AttributesTyped, no_attribute, each_attribute, NodesTyped, no_node, last_node, each_node}
use Rattle.inserted_terms.specs.Gapless.{AcceptedProgramsHaveNoGaps, IsNoGap, Gapless, ItemsGapless, NamesGapless, LocalsGapless, BranchesGapless, FieldsGapless, ElementGapless, AttributesGapless, NodesGapless, DeclGapless}
use Rattle.inserted_terms.specs.Lacking.{no_instance_here, no_folder_here}

-- so many values are declared
abbrev IsSmall : Sc → Type 0
IsSmall G = length G.tops ≤ no_folder_here

below : {X : Type 0} (xs : List X) (i : ℕ) (x : X) → slice_get xs i ≡ Some x → i < length xs
below [] zero x e = absurd cc
below [] (suc i) x e = absurd cc
below (y ∷ xs) zero x e = omega arith
below (y ∷ xs) (suc i) x e = let h = below xs i x e in omega (arith, h)

no_gap : (i n : ℕ) → i < n → n ≤ no_folder_here → IsNoGap i
no_gap i n a b = (λ e. omega (arith, a, b, e), λ e. omega (arith, a, b, e))

mutual
  gapless : {A : Asks} {G : Sc} {e : Ex} {t : Cn} → IsSmall G → Typed A G e t → Gapless e
  gapless z (by_equal a b c) = gapless z a
  gapless z (of_bound a) = tt
  gapless {G = G} z (of_top {i = i} {t = t} a) = no_gap i (length G.tops) (below G.tops i t a) z
  gapless z (of_foreign a) = tt
  gapless z of_basis = tt
  gapless z (of_fold a) = tt
  gapless z of_number = tt
  gapless z of_text = tt
  gapless z (of_built a b) = tt
  gapless z (of_fn a b c d) = gapless z d
  gapless z (of_fn_con a) = gapless z a
  gapless z (of_fn_guard a b c) = gapless z c
  gapless z (of_call a b) = (gapless z a, items_gapless z b)
  gapless z (of_let a b) = (locals_gapless z a, gapless (small_behind z a) b)
  gapless z (of_case a b c d e) = (gapless z a, gapless z c, branches_gapless z d)
  gapless z (of_ascribed a b) = gapless z b
  gapless z (of_fields a b) = fields_gapless z a
  gapless z (of_select a b) = gapless z b
  gapless z (of_concat a b c) = (gapless z a, gapless z b)
  gapless z (of_without a b) = gapless z b
  gapless z (of_without_row a b) = gapless z b
  gapless z (of_folder a b) = tt
  gapless z (of_element a) = element_gapless z a
  gapless z (of_literal a b c d) = nodes_gapless z c

  items_gapless : {A : Asks} {G : Sc} {t u : Cn} {is : Its} → IsSmall G → Applies A G t is u → ItemsGapless is
  items_gapless z to_nothing = tt
  items_gapless z (to_equal a b c) = items_gapless z c
  items_gapless z (to_term a b) = (gapless z a, items_gapless z b)
  items_gapless z (to_con a b) = items_gapless z b
  items_gapless z (to_guard a b c) = items_gapless z c

  branches_gapless : {A : Asks} {G : Sc} {t u : Cn} {bs : Brs} → IsSmall G → EachTyped A G t bs u → BranchesGapless bs
  branches_gapless z no_branch = tt
  branches_gapless z (each_branch a b c) = (gapless z b, branches_gapless z c)

  fields_gapless : {A : Asks} {G : Sc} {fs : Fds} {ps : Prs} → IsSmall G → FieldsTyped A G fs ps → FieldsGapless fs
  fields_gapless z no_field = tt
  fields_gapless z (each_field a b c) = (gapless z b, fields_gapless z c)

  -- behind the declarations of a let as many values are declared
  small_behind : {A : Asks} {G H : Sc} {ls : Los} → IsSmall G → Declares A G ls H → IsSmall H
  small_behind z nothing = z
  small_behind z (one_name a b c) = small_behind z c
  small_behind z (names_together a b) = small_behind z b

  locals_gapless : {A : Asks} {G H : Sc} {ls : Los} → IsSmall G → Declares A G ls H → LocalsGapless ls
  locals_gapless z nothing = tt
  locals_gapless z (one_name a b c) = (gapless z b, locals_gapless z c)
  locals_gapless z (names_together a b) = (names_gapless z a, locals_gapless z b)

  names_gapless : {A : Asks} {G H : Sc} {ns : Nms} → IsSmall H → NamedTyped A G H ns → NamesGapless ns
  names_gapless z no_name = tt
  names_gapless z (each_name a b c) = (gapless z b, names_gapless z c)

  element_gapless : {A : Asks} {G : Sc} {m : El} {t : Cn} → IsSmall G → ElementTyped A G m t → ElementGapless m
  element_gapless z (of_holding o a b c d e f g h) = (attributes_gapless z f, nodes_gapless z g)
  element_gapless z (of_words_alone o a b c d e f g h) = (attributes_gapless z e, nodes_gapless z g)
  element_gapless z (of_empty o a b c d e f) = (attributes_gapless z e, tt)
  element_gapless z (of_form a b c d e f g h) = (attributes_gapless z f, nodes_gapless z g)
  element_gapless z (of_input a b c d e f g) = (attributes_gapless z f, tt)
  element_gapless z (of_button a b c d e f g) = (attributes_gapless z e, tt)

  attributes_gapless : {A : Asks} {G : Sc} {u : Cn} {g : TagName} {as' : Ats} → IsSmall G → AttributesTyped A G u g as'
      → AttributesGapless as'
  attributes_gapless z no_attribute = tt
  attributes_gapless z (each_attribute a b c d e) = (gapless z b, attributes_gapless z e)

  nodes_gapless : {A : Asks} {G : Sc} {c u b : Cn} {xs : Xs} → IsSmall G → NodesTyped A G c u xs b → NodesGapless xs
  nodes_gapless z no_node = tt
  nodes_gapless z (last_node a b) = (gapless z b, tt)
  nodes_gapless z (each_node a b c d e) = (gapless z b, nodes_gapless z d)

-- declarations, behind so many values

one_more : (ts : List Cn) (t : Cn) (m n : ℕ) → length ts + suc m ≤ n → length (ts ++ t ∷ []) + m ≤ n
one_more ts t m n h =
    let e : length (ts ++ t ∷ []) ≡ length ts + 1 = length-append ts (t ∷ []) in
    omega (arith, h, e)

some_more : (ts : List Cn) (vs ws : List Value) (n : ℕ) → length ts + length (vs ++ ws) ≤ n
    → length (ts ++ value_types vs) + length ws ≤ n
some_more ts vs ws n h =
    let e = length-append ts (value_types vs) in
    let f = length-append vs ws in
    let g : length (value_types vs) ≡ length vs = length-map vs (λ (v : Value). v.con) in
    omega (arith, h, e, f, g)

first_few : (m k n : ℕ) → m + k ≤ n → m ≤ n
first_few m k n h = omega (arith, h)

decls_gapless : {A : Asks} {p : Pg} {tops : List Cn} {ds : List Dt} {decls : List De}
    → length tops + length (values decls) ≤ no_folder_here → DeclsTyped A p tops ds decls
    → AllByRecursion DeclGapless decls
decls_gapless z no_decls = tt
decls_gapless {tops = tops} z (a_val {t = t} {rest = rest} a b c) = (
  gapless (first_few (length tops) (suc (length (values rest))) no_folder_here z) b,
  decls_gapless (one_more tops t (length (values rest)) no_folder_here z) c,
)
decls_gapless {tops = tops} z (some_vals {path = path} {ns = ns} {rest = rest} a b) =
    let more = some_more tops (named_values path ns) (values rest) no_folder_here z in (
      names_gapless (first_few (length (tops ++ value_types (named_values path ns))) (length (values rest)) no_folder_here more)
          a,
      decls_gapless more b,
    )
decls_gapless z (a_con a b) = (tt, decls_gapless z b)
decls_gapless z (a_datatype a b c) = (tt, decls_gapless z c)

from_none : (m n : ℕ) → m ≤ n → 0 + m ≤ n
from_none m n h = omega (arith, h)

pub accepted_gapless : AcceptedProgramsHaveNoGaps
accepted_gapless p a z = decls_gapless (from_none (length (values p.decls)) no_folder_here z) a.typed
