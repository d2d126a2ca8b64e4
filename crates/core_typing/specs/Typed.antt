-- Which terms have which types: one rule for each form of term. Beside the manual's premises stands what the typing
-- asks of patterns and of exchanged types.
-- The Ur/Web Manual, "Expression Typing"; for elements of pages, the tags' table.
use Rattle.std.specs.Prelude.{◌≡◌, ℕ, ◌<◌, suc, ℤ, Bool, true, false, List, [], ◌∷◌, ◌++◌, Some, None, slice_get}
use Rattle.std.specs.List.{Contains}
use Rattle.con_terms.specs.Trees.{Kd, types, units, names, row_of, Cn, arrow, poly, guarded, record_of, app, basic, row, cat, Prs, no_pairs, pair}
use Rattle.con_terms.specs.Substitution.{subst}
use Rattle.con_terms.specs.Equal.{Equal}
use Rattle.con_terms.specs.Apart.{Apart}
use Rattle.con_terms.specs.Kinded.{Kinded}
use Rattle.con_terms.specs.declared.place.Place.{Place}
use Rattle.core_terms.specs.declared.exp.Sigil.{Sigil}
use Rattle.core_terms.specs.declared.exp.ConOrigin.{ConOrigin}
use Rattle.core_terms.specs.declared.basis.BasisName.{BasisName}
use Rattle.core_terms.specs.declared.basis.BasisName.TheVariants.{Txt, Cdata}
use Rattle.xml_trees.specs.declared.source_name.TagName.{TagName}
use Rattle.xml_trees.specs.declared.source_name.AttrName.{AttrName}
use Rattle.xml_trees.specs.declared.source_name.AttrName.TheVariants as attr
use Rattle.core_terms.specs.Trees.{Pt, Ex, node, bound, top, foreign, basis, fold_over, number, text, built, fn, fn_con, fn_guard, call, let_in, case_of, ascribed, fields_of, select, concat, without, without_row, folder, element, literal, Its, no_items, with_term, with_con, with_guard, Nms, no_named, named, Los, no_locals, local_val, local_rec, Brs, no_branches, branch, Fds, no_fields, field, El, tagged, Ats, no_attributes, attribute, Xs, no_nodes, a_node, Cd, Dt}
use Rattle.core_terms.specs.Types.{int_type, string_type, unit_type, type_row, no_types, one_field, transaction_of, xml_of}
use Rattle.core_terms.specs.Basis.{basis_type, fold_type}
use Rattle.core_terms.specs.Datatypes.{datatype_of, constructor_type}
use Rattle.core_typing.specs.Scopes.{Sc, under, under_con, under_guard}
use Rattle.core_typing.specs.Patterns.{PatTyped}
use Rattle.core_typing.specs.Asks.{Asks}
use Rattle.core_terms.specs.Markup.{Where, in_body, context_row, MayBeInForm, holding, of_words, empty, a_form, an_input, a_button, stands, sort_of, attribute_type}
use Rattle.core_typing.specs.Carried.{ShowsPage, SendsForm}

-- the patterns of branches
abbrev pub branch_patterns : Brs → List Pt
branch_patterns no_branches = []
branch_patterns (branch p q e bs) = q ∷ branch_patterns bs

-- the types of names that are declared together, the last first
abbrev pub named_types : Nms → List Cn
named_types no_named = []
named_types (named p x w t e ns) = named_types ns ++ t ∷ []

-- so many terms, and nothing else
pub data AreTerms : Its → ℕ → Type 0 where
  -- no item
  no_term : AreTerms no_items 0
  -- e .., where those behind e are n terms
  one_more : {e : Ex} {is : Its} {n : ℕ}
      → AreTerms is n
      → AreTerms (with_term e is) (suc n)

-- a top-level value, or a call of one with so many terms
pub data IsCallOf : Ex → ℕ → ℕ → Type 0 where
  -- M.x
  alone : {p : Place} {a : Bool} {i : ℕ} → IsCallOf (node p a (top i)) i 0
  -- M.x e .., with n terms
  applied : {p q : Place} {a b : Bool} {i n : ℕ} {s : Sigil} {is : Its}
      → AreTerms is n
      → IsCallOf (node p a (call (node q b (top i)) s is)) i n

-- a link's and an action's term is a call of a top-level function, with serialisable arguments; for a link with all
-- of them, for an action with all but the form. Other attributes aren't asked
pub data IsLinked : Sc → AttrName → Ex → Type 0 where
  -- link={M.x e ..}, where M.x : t, a function of n carried arguments to a page
  as_link : {G : Sc} {e : Ex} {i n : ℕ} {t : Cn}
      → IsCallOf e i n
      → slice_get G.tops i ≡ Some t
      → ShowsPage G.datatypes n t
      → IsLinked G attr.Link e
  -- action={M.x e ..}, where M.x : t, a function of n carried arguments and a form to a page
  as_action : {G : Sc} {e : Ex} {i n : ℕ} {t : Cn}
      → IsCallOf e i n
      → slice_get G.tops i ≡ Some t
      → SendsForm G.datatypes n t
      → IsLinked G attr.Action e
  -- title={e}
  as_title : {G : Sc} {e : Ex} → IsLinked G attr.Title e
  -- href={e}
  as_href : {G : Sc} {e : Ex} → IsLinked G attr.Href e
  -- src={e}
  as_src : {G : Sc} {e : Ex} → IsLinked G attr.Src e
  -- alt={e}
  as_alt : {G : Sc} {e : Ex} → IsLinked G attr.Alt e
  -- border={e}
  as_border : {G : Sc} {e : Ex} → IsLinked G attr.Border e
  -- value={e}
  as_value : {G : Sc} {e : Ex} → IsLinked G attr.Value e
  -- size={e}
  as_size : {G : Sc} {e : Ex} → IsLinked G attr.Size e

-- an attribute of this name is among them
pub data HasAttribute : Ats → AttrName → Type 0 where
  -- <g n={e} ..>
  first : {p : Place} {n : AttrName} {e : Ex} {as' : Ats} → HasAttribute (attribute p n e as') n
  -- <g m={d} ..>, with n among those behind it
  later : {p : Place} {n m : AttrName} {e : Ex} {as' : Ats}
      → HasAttribute as' n
      → HasAttribute (attribute p m e as') n

-- a text or a spliced value: a call of cdata or of txt
pub data IsWords : Ex → Type 0 where
  -- text, which is cdata of a string
  of_cdata : {p q : Place} {a b : Bool} {s : Sigil} {is : Its}
      → IsWords (node p a (call (node q b (basis Cdata)) s is))
  -- {[e]}, which is txt of e
  of_txt : {p q : Place} {a b : Bool} {s : Sigil} {is : Its} → IsWords (node p a (call (node q b (basis Txt)) s is))

-- each node is one
abbrev pub NodesAreWords : Xs → Type 0
NodesAreWords no_nodes = Unit {0}
NodesAreWords (a_node c e xs) = IsWords e × NodesAreWords xs

mutual
  pub data Typed (A : Asks) : Sc → Ex → Cn → Type 0 where
    -- a type may be replaced by an equal one. The manual asks kinds of what is written; a type that rules put
    -- together or that reduction leaves isn't asked for its kind again
    by_equal : {G : Sc} {e : Ex} {t u : Cn}
        → Typed A G e t
        → Equal t u
        → A.exchange G.kinds u
        → Typed A G e u
    -- x : t, where x is bound with t
    of_bound : {G : Sc} {p : Place} {a : Bool} {i : ℕ} {t : Cn}
        → slice_get G.locals i ≡ Some t
        → Typed A G (node p a (bound i)) t
    -- M.x : t, a value declared before
    of_top : {G : Sc} {p : Place} {a : Bool} {i : ℕ} {t : Cn}
        → slice_get G.tops i ≡ Some t
        → Typed A G (node p a (top i)) t
    -- M.f : string -> transaction {}
    of_foreign : {G : Sc} {p : Place} {a : Bool} {i : ℕ}
        → i < G.effects
        → Typed A G (node p a (foreign i)) (arrow string_type (transaction_of unit_type))
    -- a name of the basis
    of_basis : {G : Sc} {p : Place} {a : Bool} {b : BasisName} → Typed A G (node p a (basis b)) (basis_type b)
    -- fold
    of_fold : {G : Sc} {p : Place} {a : Bool} {k : Kd} {s : ℕ}
        → Contains G.folders (k, s)
        → Typed A G (node p a (fold_over k)) (fold_type k s)
    -- 1 : int
    of_number : {G : Sc} {p : Place} {a : Bool} {z : ℤ} → Typed A G (node p a (number z)) int_type
    -- "a" : string
    of_text : {G : Sc} {p : Place} {a : Bool} {w : List ℕ} → Typed A G (node p a (text w)) string_type
    -- C, a constructor of a datatype
    of_built : {G : Sc} {p : Place} {a : Bool} {s j : ℕ} {d : Dt} {c : Cd}
        → datatype_of G.datatypes s ≡ Some d
        → slice_get d.constructors j ≡ Some c
        → Typed A G (node p a (built s j)) (constructor_type d c)
    -- fn p => e : t -> u
    of_fn : {G : Sc} {p : Place} {a : Bool} {q : Pt} {t u : Cn} {ts : List Cn} {e : Ex}
        → Kinded G.kinds t types
        → PatTyped A G q t ts
        → A.cover G.datatypes (q ∷ []) t
        → Typed A (under ts G) e u
        → Typed A G (node p a (fn q t e)) (arrow t u)
    -- fn [x :: k] => e : x :: k -> t
    of_fn_con : {G : Sc} {p : Place} {a i w : Bool} {x : ℕ} {k : Kd} {e : Ex} {t : Cn}
        → Typed A (under_con x k G) e t
        → Typed A G (node p a (fn_con x i w k e)) (poly i k t)
    -- fn [c ~ d] => e : [c ~ d] => t
    of_fn_guard : {G : Sc} {p : Place} {a : Bool} {c d t : Cn} {k l : Kd} {e : Ex}
        → Kinded G.kinds c (row_of k)
        → Kinded G.kinds d (row_of l)
        → Typed A (under_guard c d G) e t
        → Typed A G (node p a (fn_guard c d e)) (guarded c d t)
    -- f e [c] ! : u
    of_call : {G : Sc} {p : Place} {a : Bool} {f : Ex} {s : Sigil} {is : Its} {t u : Cn}
        → Typed A G f t
        → Applies A G t is u
        → Typed A G (node p a (call f s is)) u
    -- let d in e end : t
    of_let : {G H : Sc} {p : Place} {a : Bool} {ls : Los} {e : Ex} {t : Cn}
        → Declares A G ls H
        → Typed A H e t
        → Typed A G (node p a (let_in ls e)) t
    -- case e of p => b | .. : u
    of_case : {G : Sc} {p q : Place} {a : Bool} {e b : Ex} {r : Pt} {bs : Brs} {t u : Cn} {ts : List Cn}
        → Typed A G e t
        → PatTyped A G r t ts
        → Typed A (under ts G) b u
        → EachTyped A G t bs u
        → A.cover G.datatypes (r ∷ branch_patterns bs) t
        → Typed A G (node p a (case_of e q r b bs)) u
    -- (e : t)
    of_ascribed : {G : Sc} {p : Place} {a : Bool} {e : Ex} {t : Cn}
        → Kinded G.kinds t types
        → Typed A G e t
        → Typed A G (node p a (ascribed e t)) t
    -- records
    -- {n = e, ..} : $[n = t, ..]
    of_fields : {G : Sc} {p : Place} {a : Bool} {fs : Fds} {ps : Prs}
        → FieldsTyped A G fs ps
        → Kinded G.kinds (type_row ps) (row_of types)
        → Typed A G (node p a (fields_of fs)) (record_of (type_row ps))
    -- e.c : t, where e : $([c = t] ++ r)
    of_select : {G : Sc} {p : Place} {a : Bool} {e : Ex} {c t r : Cn}
        → Kinded G.kinds c names
        → Typed A G e (record_of (cat (one_field c t) r))
        → Typed A G (node p a (select e c)) t
    -- e ++ d : $(r ++ s)
    of_concat : {G : Sc} {p : Place} {a : Bool} {e d : Ex} {r s : Cn}
        → Typed A G e (record_of r)
        → Typed A G d (record_of s)
        → Apart G.kinds.guards r s
        → Typed A G (node p a (concat e d)) (record_of (cat r s))
    -- e -- c : $r, where e : $([c = t] ++ r)
    of_without : {G : Sc} {p : Place} {a : Bool} {e : Ex} {c t r : Cn}
        → Kinded G.kinds c names
        → Typed A G e (record_of (cat (one_field c t) r))
        → Typed A G (node p a (without e c)) (record_of r)
    -- e --- c : $r, where e : $(c ++ r)
    of_without_row : {G : Sc} {p : Place} {a : Bool} {e : Ex} {c r : Cn}
        → Kinded G.kinds c (row_of types)
        → Typed A G e (record_of (cat c r))
        → Typed A G (node p a (without_row e c)) (record_of r)
    -- the folder of a row that the listed fields make
    of_folder : {G : Sc} {p : Place} {a : Bool} {k : Kd} {s : ℕ} {ps : Prs}
        → Contains G.folders (k, s)
        → Kinded G.kinds (row k ps) (row_of k)
        → Typed A G (node p a (folder k ps)) (app (basic s) (row k ps))
    -- <a ..>x y</a>
    of_element : {G : Sc} {p : Place} {a : Bool} {m : El} {t : Cn}
        → ElementTyped A G m t
        → Typed A G (node p a (element m)) t
    -- <xml>x y</xml>: as the content of an element
    of_literal : {G : Sc} {p : Place} {a : Bool} {c u b : Cn} {xs : Xs}
        → Kinded G.kinds c (row_of units)
        → Kinded G.kinds u (row_of types)
        → NodesTyped A G c u xs b
        → A.exchange G.kinds (xml_of c u b)
        → Typed A G (node p a (literal c u xs)) (xml_of c u b)

  -- from a function's type, through what it is applied to, to the type of the result
  pub data Applies (A : Asks) : Sc → Cn → Its → Cn → Type 0 where
    -- f
    to_nothing : {G : Sc} {t : Cn} → Applies A G t no_items t
    -- f, where f : t, and t is equal to u, from which the items lead on
    to_equal : {G : Sc} {t u v : Cn} {is : Its}
        → Equal t u
        → A.exchange G.kinds u
        → Applies A G u is v
        → Applies A G t is v
    -- f e, where f : t -> u
    to_term : {G : Sc} {t u v : Cn} {e : Ex} {is : Its}
        → Typed A G e t
        → Applies A G u is v
        → Applies A G (arrow t u) (with_term e is) v
    -- f [c], where f : x :: k -> t
    to_con : {G : Sc} {p : Place} {o : ConOrigin} {i : Bool} {k : Kd} {c t v : Cn} {is : Its}
        → Kinded G.kinds c k
        → Applies A G (subst t c) is v
        → Applies A G (poly i k t) (with_con p o c is) v
    -- f !, where f : [c ~ d] => t. What is left once the guard is proved was a type where the guard was assumed; where
    -- kinds are asked, it is one without it
    to_guard : {G : Sc} {p : Place} {a : Bool} {c d t v : Cn} {is : Its}
        → Apart G.kinds.guards c d
        → A.exchange G.kinds t
        → Applies A G t is v
        → Applies A G (guarded c d t) (with_guard p a is) v

  -- each branch has the type, under what its pattern binds
  pub data EachTyped (A : Asks) : Sc → Cn → Brs → Cn → Type 0 where
    -- no further branch
    no_branch : {G : Sc} {t u : Cn} → EachTyped A G t no_branches u
    -- | p => e
    each_branch : {G : Sc} {t u : Cn} {p : Place} {q : Pt} {e : Ex} {bs : Brs} {ts : List Cn}
        → PatTyped A G q t ts
        → Typed A (under ts G) e u
        → EachTyped A G t bs u
        → EachTyped A G t (branch p q e bs) u

  pub data FieldsTyped (A : Asks) : Sc → Fds → Prs → Type 0 where
    -- {}
    no_field : {G : Sc} → FieldsTyped A G no_fields no_pairs
    -- n = e
    each_field : {G : Sc} {p : Place} {n t : Cn} {e : Ex} {fs : Fds} {ps : Prs}
        → Kinded G.kinds n names
        → Typed A G e t
        → FieldsTyped A G fs ps
        → FieldsTyped A G (field p n e fs) (pair n t ps)

  -- the scope behind the declarations of a let
  pub data Declares (A : Asks) : Sc → Los → Sc → Type 0 where
    -- let in e end
    nothing : {G : Sc} → Declares A G no_locals G
    -- val x : t = e
    one_name : {G H : Sc} {p : Place} {x : ℕ} {w : Bool} {t : Cn} {e : Ex} {ls : Los}
        → Kinded G.kinds t types
        → Typed A G e t
        → Declares A (under (t ∷ []) G) ls H
        → Declares A G (local_val p x w t e ls) H
    -- val rec x : t = e and ..
    names_together : {G H : Sc} {ns : Nms} {ls : Los}
        → NamedTyped A G (under (named_types ns) G) ns
        → Declares A (under (named_types ns) G) ls H
        → Declares A G (local_rec ns ls) H

  -- each name has its type, in the scope of all of them
  pub data NamedTyped (A : Asks) : Sc → Sc → Nms → Type 0 where
    -- no further name
    no_name : {G H : Sc} → NamedTyped A G H no_named
    -- and x : t = e
    each_name : {G H : Sc} {p : Place} {x : ℕ} {w : Bool} {t : Cn} {e : Ex} {ns : Nms}
        → Kinded G.kinds t types
        → Typed A H e t
        → NamedTyped A G H ns
        → NamedTyped A G H (named p x w t e ns)

  -- elements: the row of where they stand is that of their tag; what they hold fills fields, or an input fills its own
  pub data ElementTyped (A : Asks) : Sc → El → Cn → Type 0 where
    -- <p ..>x y</p>: a tag with content
    of_holding : {G : Sc} {g : TagName} {w : Where} (o : Bool) {c u b : Cn} {as' : Ats} {xs : Xs}
        → sort_of g ≡ holding w
        → MayBeInForm (stands g) o
        → Equal c (context_row (stands g) o)
        → Kinded G.kinds c (row_of units)
        → Kinded G.kinds u (row_of types)
        → AttributesTyped A G u g as'
        → NodesTyped A G (context_row w o) u xs b
        → A.exchange G.kinds (xml_of c u b)
        → ElementTyped A G (tagged g None c u as' xs) (xml_of c u b)
    -- <title>x y</title>
    of_words_alone : {G : Sc} {g : TagName} (o : Bool) {c u b : Cn} {as' : Ats} {xs : Xs}
        → sort_of g ≡ of_words
        → Equal c (context_row (stands g) o)
        → Kinded G.kinds c (row_of units)
        → Kinded G.kinds u (row_of types)
        → AttributesTyped A G u g as'
        → NodesAreWords xs
        → NodesTyped A G (context_row (stands g) o) u xs b
        → A.exchange G.kinds (xml_of c u b)
        → ElementTyped A G (tagged g None c u as' xs) (xml_of c u b)
    -- <br/>
    of_empty : {G : Sc} {g : TagName} (o : Bool) {c u : Cn} {as' : Ats}
        → sort_of g ≡ empty
        → Equal c (context_row (stands g) o)
        → Kinded G.kinds c (row_of units)
        → Kinded G.kinds u (row_of types)
        → AttributesTyped A G u g as'
        → A.exchange G.kinds (xml_of c u no_types)
        → ElementTyped A G (tagged g None c u as' no_nodes) (xml_of c u no_types)
    -- <form>x y</form>
    of_form : {G : Sc} {g : TagName} {c u b : Cn} {as' : Ats} {xs : Xs}
        → sort_of g ≡ a_form
        → Equal c (context_row in_body false)
        → Equal u no_types
        → Kinded G.kinds c (row_of units)
        → Kinded G.kinds u (row_of types)
        → AttributesTyped A G u g as'
        → NodesTyped A G (context_row in_body true) no_types xs b
        → A.exchange G.kinds (xml_of c u no_types)
        → ElementTyped A G (tagged g None c u as' xs) (xml_of c u no_types)
    -- <textbox{#A}/>
    of_input : {G : Sc} {g : TagName} {at : Place} {t n c u : Cn} {as' : Ats}
        → sort_of g ≡ an_input t
        → Equal c (context_row in_body true)
        → Kinded G.kinds c (row_of units)
        → Kinded G.kinds u (row_of types)
        → Kinded G.kinds n names
        → AttributesTyped A G u g as'
        → A.exchange G.kinds (xml_of c u (one_field n t))
        → ElementTyped A G (tagged g (Some (at, n)) c u as' no_nodes) (xml_of c u (one_field n t))
    -- <submit action={f} ../>
    of_button : {G : Sc} {g : TagName} {c u : Cn} {as' : Ats}
        → sort_of g ≡ a_button
        → Equal c (context_row in_body true)
        → Kinded G.kinds c (row_of units)
        → Kinded G.kinds u (row_of types)
        → AttributesTyped A G u g as'
        → HasAttribute as' attr.Action
        → A.exchange G.kinds (xml_of c u no_types)
        → ElementTyped A G (tagged g None c u as' no_nodes) (xml_of c u no_types)

  -- each attribute is one of the tag's, has its type, stands once, and is a call where it is a link or an action
  pub data AttributesTyped (A : Asks) : Sc → Cn → TagName → Ats → Type 0 where
    -- <a>
    no_attribute : {G : Sc} {u : Cn} {g : TagName} → AttributesTyped A G u g no_attributes
    -- n={e}
    each_attribute : {G : Sc} {u t : Cn} {g : TagName} {p : Place} {n : AttrName} {e : Ex} {as' : Ats}
        → attribute_type u g n ≡ Some t
        → Typed A G e t
        → IsLinked G n e
        → (HasAttribute as' n → ⊥)
        → AttributesTyped A G u g as'
        → AttributesTyped A G u g (attribute p n e as')

  -- nodes beside one another: each has the fields before it as filled, and fills its own. One that has another behind
  -- it is apart from the fields before it and from those of all behind it; a last one is asked for nothing but its
  -- type
  pub data NodesTyped (A : Asks) : Sc → Cn → Cn → Xs → Cn → Type 0 where
    -- <xml></xml>
    no_node : {G : Sc} {c u : Cn} → NodesTyped A G c u no_nodes no_types
    -- x: the last node, or an only one
    last_node : {G : Sc} {c u b : Cn} {e : Ex}
        → Kinded G.kinds b (row_of types)
        → Typed A G e (xml_of c u b)
        → NodesTyped A G c u (a_node b e no_nodes) b
    -- x y: a node and those behind it
    each_node : {G : Sc} {c u b h d : Cn} {e f : Ex} {xs : Xs}
        → Kinded G.kinds b (row_of types)
        → Typed A G e (xml_of c u b)
        → Apart G.kinds.guards u b
        → NodesTyped A G c (cat u b) (a_node h f xs) d
        → Apart G.kinds.guards b d
        → NodesTyped A G c u (a_node b e (a_node h f xs)) (cat b d)
