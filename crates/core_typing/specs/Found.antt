-- The type that a term's parts give it: the rules of typing, read from the parts to the whole, with comparison by
-- normal forms. What is asked of patterns' cover is a parameter.
use Rattle.std.specs.Prelude.{◌≡◌, ℕ, ◌<◌, ℤ, Bool, true, false, List, [], ◌∷◌, Some, None, Ok, slice_get}
use Rattle.con_terms.specs.Trees.{Kd, types, units, names, row_of, Cn, arrow, poly, guarded, record_of, app, basic, row, cat, Prs, no_pairs, pair}
use Rattle.con_terms.specs.Substitution.{subst}
use Rattle.con_terms.specs.declared.place.Place.{Place}
use Rattle.row_normal.specs.Ordered.{ordered, ordered_pieces, joined}
use Rattle.core_terms.specs.declared.exp.Sigil.{Sigil}
use Rattle.core_terms.specs.declared.exp.ConOrigin.{ConOrigin}
use Rattle.core_terms.specs.declared.basis.BasisName.{BasisName}
use Rattle.xml_trees.specs.declared.source_name.TagName.{TagName}
use Rattle.xml_trees.specs.declared.source_name.AttrName.{AttrName}
use Rattle.xml_trees.specs.declared.source_name.AttrName.TheVariants as attr
use Rattle.core_terms.specs.Trees.{Pt, Ex, node, bound, top, foreign, basis, fold_over, number, text, built, fn, fn_con, fn_guard, call, let_in, case_of, ascribed, fields_of, select, concat, without, without_row, folder, element, literal, Its, no_items, with_term, with_con, with_guard, Nms, no_named, named, Los, no_locals, local_val, local_rec, Brs, no_branches, branch, Fds, no_fields, field, El, tagged, Ats, no_attributes, attribute, Xs, no_nodes, a_node, Cd, Dt}
use Rattle.core_terms.specs.Types.{int_type, string_type, unit_type, type_row, no_types, one_field, transaction_of, xml_of}
use Rattle.core_terms.specs.Basis.{basis_type, fold_type}
use Rattle.core_terms.specs.Datatypes.{datatype_of, constructor_type}
use Rattle.core_typing.specs.Scopes.{folder_of, Sc, under, under_con, under_guard, normal_of}
use Rattle.core_typing.specs.Asks.{CoverAsked, no_cover}
use Rattle.core_terms.specs.Markup.{in_body, context_row, MayBeInForm, holding, of_words, empty, a_form, an_input, a_button, stands, sort_of, attribute_type, Where}
use Rattle.core_typing.specs.Typed.{branch_patterns, named_types, IsLinked, HasAttribute, NodesAreWords}
use Rattle.core_typing.specs.Judged.{HasKind, guard_forms}
use Rattle.core_typing.specs.Compared.{Alike, Disjoint, RecordAnd, field_of, without_pieces}
use Rattle.core_typing.specs.PatternFaults.{PatFound}

mutual
  pub data FoundBy (C : CoverAsked) : Sc → Ex → Cn → Type 0 where
    -- x : t, where x is bound with t
    bound_has : {G : Sc} {p : Place} {a : Bool} {i : ℕ} {t : Cn}
        → slice_get G.locals i ≡ Some t
        → FoundBy C G (node p a (bound i)) t
    -- M.x : t, a value declared before
    top_has : {G : Sc} {p : Place} {a : Bool} {i : ℕ} {t : Cn}
        → slice_get G.tops i ≡ Some t
        → FoundBy C G (node p a (top i)) t
    -- M.f : string -> transaction {}
    foreign_has : {G : Sc} {p : Place} {a : Bool} {i : ℕ}
        → i < G.effects
        → FoundBy C G (node p a (foreign i)) (arrow string_type (transaction_of unit_type))
    -- a name of the basis, with its type there
    basis_has : {G : Sc} {p : Place} {a : Bool} {b : BasisName} → FoundBy C G (node p a (basis b)) (basis_type b)
    -- fold, with the folder at the kind k
    fold_has : {G : Sc} {p : Place} {a : Bool} {k : Kd} {s : ℕ}
        → folder_of G.folders k ≡ Some s
        → FoundBy C G (node p a (fold_over k)) (fold_type k s)
    -- 1 : int
    number_has : {G : Sc} {p : Place} {a : Bool} {z : ℤ} → FoundBy C G (node p a (number z)) int_type
    -- "a" : string
    text_has : {G : Sc} {p : Place} {a : Bool} {w : List ℕ} → FoundBy C G (node p a (text w)) string_type
    -- C, a constructor of a datatype
    built_has : {G : Sc} {p : Place} {a : Bool} {s j : ℕ} {d : Dt} {c : Cd}
        → datatype_of G.datatypes s ≡ Some d
        → slice_get d.constructors j ≡ Some c
        → FoundBy C G (node p a (built s j)) (constructor_type d c)
    -- fn p => e : t -> u, where t :: Type, p covers t, and e : u under what p binds
    fn_has : {G : Sc} {p : Place} {a : Bool} {q : Pt} {t u : Cn} {ts : List Cn} {e : Ex}
        → HasKind G t types
        → PatFound G q t ts
        → C G.datatypes (q ∷ []) t
        → FoundBy C (under ts G) e u
        → FoundBy C G (node p a (fn q t e)) (arrow t u)
    -- fn [x :: k] => e : x :: k -> t, where e : t under x
    fn_con_has : {G : Sc} {p : Place} {a i w : Bool} {x : ℕ} {k : Kd} {e : Ex} {t : Cn}
        → FoundBy C (under_con x k G) e t
        → FoundBy C G (node p a (fn_con x i w k e)) (poly i k t)
    -- fn [c ~ d] => e : [c ~ d] => t, where e : t, and what is assumed are the normal forms of the sides
    fn_guard_has : {G : Sc} {p : Place} {a : Bool} {c d m n t : Cn} {e : Ex}
        → guard_forms G.kinds c d ≡ Ok (m, n)
        → FoundBy C (under_guard m n G) e t
        → FoundBy C G (node p a (fn_guard c d e)) (guarded c d t)
    -- f e [c] ! : u, where f : t, and the items lead from t to u
    call_has : {G : Sc} {p : Place} {a : Bool} {f : Ex} {s : Sigil} {is : Its} {t u : Cn}
        → FoundBy C G f t
        → Leads C G t is u
        → FoundBy C G (node p a (call f s is)) u
    -- let d in e end : t, where e : t behind d
    let_has : {G H : Sc} {p : Place} {a : Bool} {ls : Los} {e : Ex} {t : Cn}
        → LocalsFound C G ls H
        → FoundBy C H e t
        → FoundBy C G (node p a (let_in ls e)) t
    -- case e of p => b | .. : u, where e : t, the patterns cover t, and each branch is a u
    case_has : {G : Sc} {p q : Place} {a : Bool} {e b : Ex} {r : Pt} {bs : Brs} {t u : Cn} {ts : List Cn}
        → FoundBy C G e t
        → PatFound G r t ts
        → FoundBy C (under ts G) b u
        → EachFound C G t bs u
        → C G.datatypes (r ∷ branch_patterns bs) t
        → FoundBy C G (node p a (case_of e q r b bs)) u
    -- (e : t) : t, where t :: Type and e : t
    ascribed_has : {G : Sc} {p : Place} {a : Bool} {e : Ex} {t u : Cn}
        → HasKind G t types
        → FoundBy C G e u
        → Alike t u
        → FoundBy C G (node p a (ascribed e t)) t
    -- {n = e, ..} : $[n = t, ..], where [n = t, ..] :: {Type}
    fields_have : {G : Sc} {p : Place} {a : Bool} {fs : Fds} {ps : Prs}
        → FieldsFound C G fs ps
        → HasKind G (type_row ps) (row_of types)
        → FoundBy C G (node p a (fields_of fs)) (record_of (type_row ps))
    -- e.c : v, where c :: Name and e : $r, and r has the field c = v
    select_has : {G : Sc} {p : Place} {a : Bool} {e : Ex} {c n t r v : Cn} {rest : List Cn}
        → FoundBy C G e t
        → RecordAnd t c r n
        → HasKind G c names
        → field_of n (ordered_pieces r) ≡ Some (v, rest)
        → FoundBy C G (node p a (select e c)) v
    -- e ++ d : $(r ++ s), where e : $r, d : $s and r ~ s
    concat_has : {G : Sc} {p : Place} {a : Bool} {e d : Ex} {t u r s : Cn}
        → FoundBy C G e t
        → FoundBy C G d u
        → normal_of t ≡ Some (record_of r)
        → normal_of u ≡ Some (record_of s)
        → Disjoint G.kinds.guards r s
        → FoundBy C G (node p a (concat e d)) (record_of (cat r s))
    -- e -- c : $rest, where c :: Name and e : $r, and r is rest and the field c
    without_has : {G : Sc} {p : Place} {a : Bool} {e : Ex} {c n t r v : Cn} {rest : List Cn}
        → FoundBy C G e t
        → RecordAnd t c r n
        → HasKind G c names
        → field_of n (ordered_pieces r) ≡ Some (v, rest)
        → FoundBy C G (node p a (without e c)) (record_of (ordered (joined types rest)))
    -- e --- c : $rest, where c :: {Type} and e : $r, and r is rest and the pieces of c
    without_row_has : {G : Sc} {p : Place} {a : Bool} {e : Ex} {c n t r : Cn} {rest : List Cn}
        → FoundBy C G e t
        → RecordAnd t c r n
        → HasKind G c (row_of types)
        → without_pieces (ordered_pieces n) (ordered_pieces r) ≡ Some rest
        → FoundBy C G (node p a (without_row e c)) (record_of (ordered (joined types rest)))
    -- the folder of a row that the listed fields make, of kind {k}
    folder_has : {G : Sc} {p : Place} {a : Bool} {k : Kd} {s : ℕ} {ps : Prs}
        → folder_of G.folders k ≡ Some s
        → HasKind G (row k ps) (row_of k)
        → FoundBy C G (node p a (folder k ps)) (app (basic s) (row k ps))
    -- <a ..>x y</a> : t, where the element is a t
    element_has : {G : Sc} {p : Place} {a : Bool} {m : El} {t : Cn}
        → ElementFound C G m t
        → FoundBy C G (node p a (element m)) t
    -- <xml>x y</xml> : xml c u b, where c :: {Unit} and u :: {Type}, and the nodes fill b
    literal_has : {G : Sc} {p : Place} {a : Bool} {c u b : Cn} {xs : Xs}
        → HasKind G c (row_of units)
        → HasKind G u (row_of types)
        → NodesFound C G c u xs b
        → FoundBy C G (node p a (literal c u xs)) (xml_of c u b)

  -- from a function's type through the items to the type of the result
  pub data Leads (C : CoverAsked) : Sc → Cn → Its → Cn → Type 0 where
    -- f
    at_end : {G : Sc} {t : Cn} → Leads C G t no_items t
    -- f e .., where f : u -> d and e : u
    past_term : {G : Sc} {t u c d v : Cn} {e : Ex} {is : Its}
        → normal_of t ≡ Some (arrow u d)
        → FoundBy C G e c
        → Alike u c
        → Leads C G d is v
        → Leads C G t (with_term e is) v
    -- f [c] .., where f : x :: k -> d and c :: k; it is a d[c/x]
    past_con : {G : Sc} {p : Place} {o : ConOrigin} {i : Bool} {k : Kd} {c t d v : Cn} {is : Its}
        → normal_of t ≡ Some (poly i k d)
        → HasKind G c k
        → Leads C G (subst d c) is v
        → Leads C G t (with_con p o c is) v
    -- f ! .., where f : [c ~ d] => b and c ~ d
    past_guard : {G : Sc} {p : Place} {a : Bool} {c d t b v : Cn} {is : Its}
        → normal_of t ≡ Some (guarded c d b)
        → Disjoint G.kinds.guards c d
        → Leads C G b is v
        → Leads C G t (with_guard p a is) v

  -- the later branches have the type of the first
  pub data EachFound (C : CoverAsked) : Sc → Cn → Brs → Cn → Type 0 where
    -- no further branch
    no_branch_found : {G : Sc} {t u : Cn} → EachFound C G t no_branches u
    -- | p => e, where e : u under what p binds
    branch_found : {G : Sc} {t u v : Cn} {p : Place} {q : Pt} {e : Ex} {bs : Brs} {ts : List Cn}
        → PatFound G q t ts
        → FoundBy C (under ts G) e v
        → Alike u v
        → EachFound C G t bs u
        → EachFound C G t (branch p q e bs) u

  pub data FieldsFound (C : CoverAsked) : Sc → Fds → Prs → Type 0 where
    -- {}
    no_field_found : {G : Sc} → FieldsFound C G no_fields no_pairs
    -- n = e, where n :: Name and e : t
    field_found : {G : Sc} {p : Place} {n t : Cn} {e : Ex} {fs : Fds} {ps : Prs}
        → HasKind G n names
        → FoundBy C G e t
        → FieldsFound C G fs ps
        → FieldsFound C G (field p n e fs) (pair n t ps)

  pub data LocalsFound (C : CoverAsked) : Sc → Los → Sc → Type 0 where
    -- let in e end
    nothing_found : {G : Sc} → LocalsFound C G no_locals G
    -- val x : t = e, where t :: Type and e : t
    val_found : {G H : Sc} {p : Place} {x : ℕ} {w : Bool} {t u : Cn} {e : Ex} {ls : Los}
        → HasKind G t types
        → FoundBy C G e u
        → Alike t u
        → LocalsFound C (under (t ∷ []) G) ls H
        → LocalsFound C G (local_val p x w t e ls) H
    -- val rec x : t = e and .., where each name has its type under all of them
    rec_found : {G H : Sc} {ns : Nms} {ls : Los}
        → NamedFound C G (under (named_types ns) G) ns
        → LocalsFound C (under (named_types ns) G) ls H
        → LocalsFound C G (local_rec ns ls) H

  pub data NamedFound (C : CoverAsked) : Sc → Sc → Nms → Type 0 where
    -- no further name
    no_name_found : {G H : Sc} → NamedFound C G H no_named
    -- and x : t = e, where t :: Type, and e : t under all the names
    name_found : {G H : Sc} {p : Place} {x : ℕ} {w : Bool} {t u : Cn} {e : Ex} {ns : Nms}
        → HasKind G t types
        → FoundBy C H e u
        → Alike t u
        → NamedFound C G H ns
        → NamedFound C G H (named p x w t e ns)

  pub data ElementFound (C : CoverAsked) : Sc → El → Cn → Type 0 where
    -- <p ..>x y</p> : xml c u b, where c is the context in which p stands, and the nodes fill b
    holding_found : {G : Sc} {g : TagName} {w : Where} (o : Bool) {c u b : Cn} {as' : Ats} {xs : Xs}
        → sort_of g ≡ holding w
        → MayBeInForm (stands g) o
        → Alike (context_row (stands g) o) c
        → HasKind G c (row_of units)
        → HasKind G u (row_of types)
        → AttributesFound C G u g as'
        → NodesFound C G (context_row w o) u xs b
        → ElementFound C G (tagged g None c u as' xs) (xml_of c u b)
    -- <title>x y</title> : xml c u b, where c is the context in which it stands, and the nodes are text or {[e]}
    words_found : {G : Sc} {g : TagName} (o : Bool) {c u b : Cn} {as' : Ats} {xs : Xs}
        → sort_of g ≡ of_words
        → Alike (context_row (stands g) o) c
        → HasKind G c (row_of units)
        → HasKind G u (row_of types)
        → AttributesFound C G u g as'
        → NodesAreWords xs
        → NodesFound C G (context_row (stands g) o) u xs b
        → ElementFound C G (tagged g None c u as' xs) (xml_of c u b)
    -- <br/> : xml c u [], where c is the context in which it stands
    empty_found : {G : Sc} {g : TagName} (o : Bool) {c u : Cn} {as' : Ats}
        → sort_of g ≡ empty
        → Alike (context_row (stands g) o) c
        → HasKind G c (row_of units)
        → HasKind G u (row_of types)
        → AttributesFound C G u g as'
        → ElementFound C G (tagged g None c u as' no_nodes) (xml_of c u no_types)
    -- <form>x y</form> : xml c u [], where c is the context of a body without a form around it, and u is []
    form_found : {G : Sc} {g : TagName} {c u b : Cn} {as' : Ats} {xs : Xs}
        → sort_of g ≡ a_form
        → Alike (context_row in_body false) c
        → Alike no_types u
        → HasKind G c (row_of units)
        → HasKind G u (row_of types)
        → AttributesFound C G u g as'
        → NodesFound C G (context_row in_body true) no_types xs b
        → ElementFound C G (tagged g None c u as' xs) (xml_of c u no_types)
    -- <textbox{#A}/> : xml c u [A = t], where c is the context of a body with a form around it
    input_found : {G : Sc} {g : TagName} {at : Place} {t n c u : Cn} {as' : Ats}
        → sort_of g ≡ an_input t
        → Alike (context_row in_body true) c
        → HasKind G c (row_of units)
        → HasKind G u (row_of types)
        → HasKind G n names
        → AttributesFound C G u g as'
        → ElementFound C G (tagged g (Some (at, n)) c u as' no_nodes) (xml_of c u (one_field n t))
    -- <submit action={f} ../> : xml c u [], where c is the context of a body with a form around it
    button_found : {G : Sc} {g : TagName} {c u : Cn} {as' : Ats}
        → sort_of g ≡ a_button
        → Alike (context_row in_body true) c
        → HasKind G c (row_of units)
        → HasKind G u (row_of types)
        → AttributesFound C G u g as'
        → HasAttribute as' attr.Action
        → ElementFound C G (tagged g None c u as' no_nodes) (xml_of c u no_types)

  pub data AttributesFound (C : CoverAsked) : Sc → Cn → TagName → Ats → Type 0 where
    -- <a>
    no_attribute_found : {G : Sc} {u : Cn} {g : TagName} → AttributesFound C G u g no_attributes
    -- n={e} .., where e : t as the tag's n, e is a call where it is to be one, and n isn't among the rest
    attribute_found : {G : Sc} {u t v : Cn} {g : TagName} {p : Place} {n : AttrName} {e : Ex} {as' : Ats}
        → attribute_type u g n ≡ Some t
        → FoundBy C G e v
        → Alike t v
        → IsLinked G n e
        → (HasAttribute as' n → ⊥)
        → AttributesFound C G u g as'
        → AttributesFound C G u g (attribute p n e as')

  -- rows that are put together are put in order, where fields of literal names are one literal: nodes one after
  -- another nest nothing
  pub data NodesFound (C : CoverAsked) : Sc → Cn → Cn → Xs → Cn → Type 0 where
    -- <xml></xml>
    no_node_found : {G : Sc} {c u : Cn} → NodesFound C G c u no_nodes no_types
    -- x, the last node or an only one: x : xml c u b
    last_found : {G : Sc} {c u b t : Cn} {e : Ex}
        → HasKind G b (row_of types)
        → FoundBy C G e t
        → Alike (xml_of c u b) t
        → NodesFound C G c u (a_node b e no_nodes) b
    -- x y: x : xml c u b, where u ~ b, the nodes behind it fill d after u ++ b, and b ~ d
    node_found : {G : Sc} {c u b h d t : Cn} {e f : Ex} {xs : Xs}
        → HasKind G b (row_of types)
        → FoundBy C G e t
        → Alike (xml_of c u b) t
        → Disjoint G.kinds.guards u b
        → NodesFound C G c (ordered (cat u b)) (a_node h f xs) d
        → Disjoint G.kinds.guards b d
        → NodesFound C G c u (a_node b e (a_node h f xs)) (ordered (cat b d))

-- what is found of a part, whether or not its matches cover: a shape that a part misses is that part's own fault
abbrev pub Found : Sc → Ex → Cn → Type 0
Found = FoundBy no_cover
