-- Which fault a program tells: of all premises that fail, in the declarations and in the terms, the first in text
-- order, and the inner first where two begin at one byte.
use Rattle.std.specs.Prelude.{◌≡◌, ℕ, ◌<◌, Bool, List, [], ◌∷◌, ◌++◌, Option, Some, Ok, slice_get}
use Rattle.std.specs.List.{Contains}
use Rattle.con_terms.specs.Trees.{Kd, types, Cn}
use Rattle.con_terms.specs.declared.place.Place.{Place}
use Rattle.link_router.specs.Calls.{Ent}
use Rattle.core_terms.specs.declared.exp.Sigil.{Sigil}
use Rattle.core_terms.specs.declared.exp.ConOrigin.{ConOrigin}
use Rattle.xml_trees.specs.declared.source_name.AttrName.{AttrName}
use Rattle.xml_trees.specs.declared.source_name.TagName.{TagName}
use Rattle.core_terms.specs.Trees.{Pt, Ex, node, fn, fn_con, fn_guard, call, let_in, case_of, ascribed, fields_of, select, concat, without, without_row, element, literal, sql, Its, with_term, with_con, with_guard, Nms, named, Los, no_locals, local_val, local_rec, Brs, branch, Fds, field, tagged, Ats, attribute, Xs, a_node, Exs, an_exp, Sk, Th, De, val, vals, con_is, datatype, thing, Cd, Dt, Pg}
use Rattle.core_typing.specs.Scopes.{Sc, under, under_con, under_guard}
use Rattle.core_typing.specs.Typed.{named_types}
use Rattle.core_typing.specs.Judged.{HasKind, LacksKind, guard_forms}
use Rattle.core_typing.specs.PatternFaults.{PatFound}
use Rattle.core_typing.specs.Found.{Found}
use Rattle.core_typing.specs.Own.{Own, Wants, NamedFault, place_of, type_place}
use Rattle.core_typing.specs.Faults.{Fault, redeclared, not_built, twice_constructor, twice_entry, at, Earlier}
use Rattle.core_typing.specs.Declarations.{Value, values, value_types, named_values, scope_with, under_types}
use Rattle.core_typing.specs.Entries.{IsEntry}

-- a term among items, fields, branches, attributes, nodes
pub data InItems : Its → Ex → Type 0 where
  -- f e ..: e
  this_item : {e : Ex} {is : Its} → InItems (with_term e is) e
  -- f d ..: a term behind d
  past_item : {d e : Ex} {is : Its}
      → InItems is e
      → InItems (with_term d is) e
  -- f [c] ..: a term behind c
  past_con : {p : Place} {o : ConOrigin} {c : Cn} {e : Ex} {is : Its}
      → InItems is e
      → InItems (with_con p o c is) e
  -- f ! ..: a term behind the proof
  past_guard : {p : Place} {a : Bool} {e : Ex} {is : Its}
      → InItems is e
      → InItems (with_guard p a is) e

pub data InFields : Fds → Ex → Type 0 where
  -- {n = e, ..}: e
  this_field : {p : Place} {n : Cn} {e : Ex} {fs : Fds} → InFields (field p n e fs) e
  -- {n = d, ..}: the term of a later field
  past_field : {p : Place} {n : Cn} {d e : Ex} {fs : Fds}
      → InFields fs e
      → InFields (field p n d fs) e

pub data InBranches : Brs → Pt → Ex → Type 0 where
  -- | q => e | ..: q and e
  this_branch : {p : Place} {q : Pt} {e : Ex} {bs : Brs} → InBranches (branch p q e bs) q e
  -- | r => d | ..: those of a later branch
  past_branch : {p : Place} {q r : Pt} {d e : Ex} {bs : Brs}
      → InBranches bs q e
      → InBranches (branch p r d bs) q e

pub data InNamed : Nms → Ex → Type 0 where
  -- x : t = e and ..: e
  this_name : {p : Place} {x : ℕ} {w : Bool} {t : Cn} {e : Ex} {ns : Nms} → InNamed (named p x w t e ns) e
  -- x : t = d and ..: the term of a later name
  past_name : {p : Place} {x : ℕ} {w : Bool} {t : Cn} {d e : Ex} {ns : Nms}
      → InNamed ns e
      → InNamed (named p x w t d ns) e

pub data InNodes : Xs → Ex → Type 0 where
  -- x ..: x
  this_node : {b : Cn} {e : Ex} {xs : Xs} → InNodes (a_node b e xs) e
  -- x ..: one behind x
  past_node : {b : Cn} {d e : Ex} {xs : Xs}
      → InNodes xs e
      → InNodes (a_node b d xs) e

pub data InExps : Exs → Ex → Type 0 where
  -- {[e]} ..: e
  this_exp : {e : Ex} {es : Exs} → InExps (an_exp e es) e
  -- {[d]} ..: one behind d
  past_exp : {d e : Ex} {es : Exs}
      → InExps es e
      → InExps (an_exp d es) e

-- a term of the declarations of a let, or what the scope behind them is for; scopes have the types that stand at
-- the names
pub data InLocals : Sc → Los → Sc → Ex → Type 0 where
  -- val x : t = e ..: e, not under x
  this_val : {G : Sc} {p : Place} {x : ℕ} {w : Bool} {t : Cn} {e : Ex} {ls : Los}
      → InLocals G (local_val p x w t e ls) G e
  -- val x : t = d ..: a term of a later declaration, under x
  past_val : {G H : Sc} {p : Place} {x : ℕ} {w : Bool} {t : Cn} {d e : Ex} {ls : Los}
      → InLocals (under (t ∷ []) G) ls H e
      → InLocals G (local_val p x w t d ls) H e
  -- val rec x : t = e and ..: the term of one of the names, under all of them
  this_rec : {G : Sc} {ns : Nms} {e : Ex} {ls : Los}
      → InNamed ns e
      → InLocals G (local_rec ns ls) (under (named_types ns) G) e
  -- val rec x : t = d ..: a term of a later declaration, under all the names
  past_rec : {G H : Sc} {ns : Nms} {e : Ex} {ls : Los}
      → InLocals (under (named_types ns) G) ls H e
      → InLocals G (local_rec ns ls) H e

pub data Behind : Sc → Los → Sc → Type 0 where
  -- let in e end: the scope of the let
  behind_none : {G : Sc} → Behind G no_locals G
  -- val x : t = e ..: behind the later declarations, under x
  behind_val : {G H : Sc} {p : Place} {x : ℕ} {w : Bool} {t : Cn} {e : Ex} {ls : Los}
      → Behind (under (t ∷ []) G) ls H
      → Behind G (local_val p x w t e ls) H
  -- val rec x : t = e ..: behind the later declarations, under all the names
  behind_rec : {G H : Sc} {ns : Nms} {ls : Los}
      → Behind (under (named_types ns) G) ls H
      → Behind G (local_rec ns ls) H

-- an attribute's term, also where it is a call that is a link
pub data InAttributes : Ats → Ex → Type 0 where
  -- <a n={e} ..>: e
  this_attribute : {p : Place} {n : AttrName} {e : Ex} {as' : Ats} → InAttributes (attribute p n e as') e
  -- <a n={d} ..>: the term of a later attribute
  past_attribute : {p : Place} {n : AttrName} {d e : Ex} {as' : Ats}
      → InAttributes as' e
      → InAttributes (attribute p n d as') e

-- a part of a node, with its scope. A part whose scope depends on another part that has no type is none
pub data Sub : Sc → Ex → Sc → Ex → Type 0 where
  -- fn p => e
  fn_body : {G : Sc} {p : Place} {a : Bool} {q : Pt} {t : Cn} {ts : List Cn} {e : Ex}
      → HasKind G t types
      → PatFound G q t ts
      → Sub G (node p a (fn q t e)) (under ts G) e
  -- fn [x :: k] => e
  con_body : {G : Sc} {p : Place} {a i w : Bool} {x : ℕ} {k : Kd} {e : Ex}
      → Sub G (node p a (fn_con x i w k e)) (under_con x k G) e
  -- fn [c ~ d] => e
  guard_body : {G : Sc} {p : Place} {a : Bool} {c d m n : Cn} {e : Ex}
      → guard_forms G.kinds c d ≡ Ok (m, n)
      → Sub G (node p a (fn_guard c d e)) (under_guard m n G) e
  -- f e
  function : {G : Sc} {p : Place} {a : Bool} {e : Ex} {s : Sigil} {is : Its} → Sub G (node p a (call e s is)) G e
  -- f e
  argument : {G : Sc} {p : Place} {a : Bool} {f e : Ex} {s : Sigil} {is : Its}
      → InItems is e
      → Sub G (node p a (call f s is)) G e
  -- let val x = e in ..
  local_term : {G H : Sc} {p : Place} {a : Bool} {ls : Los} {d e : Ex}
      → InLocals G ls H e
      → Sub G (node p a (let_in ls d)) H e
  -- let d in e end
  let_body : {G H : Sc} {p : Place} {a : Bool} {ls : Los} {e : Ex}
      → Behind G ls H
      → Sub G (node p a (let_in ls e)) H e
  -- case e of ..
  what_is_matched : {G : Sc} {p q : Place} {a : Bool} {e b : Ex} {r : Pt} {bs : Brs}
      → Sub G (node p a (case_of e q r b bs)) G e
  -- case e of p => b | ..
  first_branch : {G : Sc} {p q : Place} {a : Bool} {e b : Ex} {r : Pt} {bs : Brs} {t : Cn} {ts : List Cn}
      → Found G e t
      → PatFound G r t ts
      → Sub G (node p a (case_of e q r b bs)) (under ts G) b
  -- case e of .. | p => b ..
  later_branch : {G : Sc} {p q : Place} {a : Bool} {e b c : Ex} {r s : Pt} {bs : Brs} {t : Cn} {ts : List Cn}
      → Found G e t
      → InBranches bs s c
      → PatFound G s t ts
      → Sub G (node p a (case_of e q r b bs)) (under ts G) c
  -- (e : t)
  with_type : {G : Sc} {p : Place} {a : Bool} {e : Ex} {t : Cn} → Sub G (node p a (ascribed e t)) G e
  -- {n = e, ..}
  field_term : {G : Sc} {p : Place} {a : Bool} {fs : Fds} {e : Ex}
      → InFields fs e
      → Sub G (node p a (fields_of fs)) G e
  -- e.c
  selected_from : {G : Sc} {p : Place} {a : Bool} {e : Ex} {c : Cn} → Sub G (node p a (select e c)) G e
  -- e ++ d
  left : {G : Sc} {p : Place} {a : Bool} {e d : Ex} → Sub G (node p a (concat e d)) G e
  -- e ++ d
  right : {G : Sc} {p : Place} {a : Bool} {e d : Ex} → Sub G (node p a (concat e d)) G d
  -- e -- c
  cut_from : {G : Sc} {p : Place} {a : Bool} {e : Ex} {c : Cn} → Sub G (node p a (without e c)) G e
  -- e --- c
  row_cut_from : {G : Sc} {p : Place} {a : Bool} {e : Ex} {c : Cn} → Sub G (node p a (without_row e c)) G e
  -- <a n={e} ..>
  attribute_term : {G : Sc} {p : Place} {a : Bool} {g : TagName} {n : Option (Place × Cn)} {c u : Cn} {as' : Ats}
      {xs : Xs} {e : Ex}
      → InAttributes as' e
      → Sub G (node p a (element (tagged g n c u as' xs))) G e
  -- <a ..>x</a>
  inner_node : {G : Sc} {p : Place} {a : Bool} {g : TagName} {n : Option (Place × Cn)} {c u : Cn} {as' : Ats}
      {xs : Xs} {e : Ex}
      → InNodes xs e
      → Sub G (node p a (element (tagged g n c u as' xs))) G e
  -- <xml>x</xml>
  literal_node : {G : Sc} {p : Place} {a : Bool} {c u : Cn} {xs : Xs} {e : Ex}
      → InNodes xs e
      → Sub G (node p a (literal c u xs)) G e
  -- (SELECT .. {[e]} ..)
  sql_term : {G : Sc} {p : Place} {a : Bool} {k : Sk} {es : Exs} {e : Ex}
      → InExps es e
      → Sub G (node p a (sql k es)) G e

-- a premise fails in a node or in a part of it
pub data Fails : Sc → Ex → Fault → Type 0 where
  -- e, where a premise of its own rule fails
  itself : {G : Sc} {e : Ex} {f : Fault}
      → Own G e f
      → Fails G e f
  -- e, where a premise fails in its part c, in the scope of the part
  inside : {G H : Sc} {e c : Ex} {f : Fault}
      → Sub G e H c
      → Fails H c f
      → Fails G e f

-- What a declaration has at fault itself: a kind, a term that hasn't the written type, a constructor of a name that
-- stands before it, or that it is a thing without a term, for which there is no rule yet.
pub data DeclOwn : Pg → List Cn → List Dt → De → Fault → Type 0 where
  -- val x : t = e, where t hasn't the kind Type
  type_kind : {p : Pg} {tops : List Cn} {ds : List Dt} {q : Place} {path : List ℕ} {x : ℕ} {w : Bool} {t : Cn}
      {e : Ex} {f : Fault}
      → LacksKind (scope_with p tops ds) (type_place w q e) t types f
      → DeclOwn p tops ds (val path q x w t e) f
  -- val x : t = e, where t :: Type, and e has another type
  other_type : {p : Pg} {tops : List Cn} {ds : List Dt} {q : Place} {path : List ℕ} {x : ℕ} {w : Bool} {t u : Cn}
      {e : Ex} {f : Fault}
      → HasKind (scope_with p tops ds) t types
      → Found (scope_with p tops ds) e u
      → Wants (scope_with p tops ds) (place_of e) t u f
      → DeclOwn p tops ds (val path q x w t e) f
  -- val rec x : t = e and .., where a name has a fault, under all of them
  in_named : {p : Pg} {tops : List Cn} {ds : List Dt} {path : List ℕ} {ns : Nms} {f : Fault}
      → NamedFault (scope_with p tops ds) (scope_with p (tops ++ value_types (named_values path ns)) ds) ns f
      → DeclOwn p tops ds (vals path ns) f
  -- con x :: k = c, where c hasn't the kind k
  con_kind : {p : Pg} {tops : List Cn} {ds : List Dt} {q : Place} {path : List ℕ} {x : ℕ} {w : Bool} {k : Kd}
      {c : Cn} {f : Fault}
      → LacksKind (scope_with p tops ds) q c k f
      → DeclOwn p tops ds (con_is path q x w k c) f
  -- datatype d a .. = .. | C of t | .., where t, under d and a .., hasn't the kind Type
  held_kind : {p : Pg} {tops : List Cn} {ds : List Dt} {d : Dt} {c : Cd} {held : Cn} {f : Fault}
      → Contains d.constructors c
      → c.holds ≡ Some held
      → LacksKind (under_types d.parameters (scope_with p tops (ds ++ d ∷ []))) c.place held types f
      → DeclOwn p tops ds (datatype d) f
  -- datatype d = .. | C | .. | C | .., at the second of them
  same_constructor : {p : Pg} {tops : List Cn} {ds : List Dt} {d : Dt} {i j : ℕ} {b c : Cd}
      → slice_get d.constructors i ≡ Some b
      → slice_get d.constructors j ≡ Some c
      → i < j
      → b.name ≡ c.name
      → DeclOwn p tops ds (datatype d) (redeclared c.place (twice_constructor c.name))
  -- table x : t, sequence x, and so on: no rule is there yet
  no_thing_rule : {p : Pg} {tops : List Cn} {ds : List Dt} {path : List ℕ} {q : Place} {x : ℕ} {k : Th} {t : Cn}
      → DeclOwn p tops ds (thing path q x k t) (not_built q)

-- the terms of a declaration, with their scopes
pub data DeclSub : Pg → List Cn → List Dt → De → Sc → Ex → Type 0 where
  -- val x : t = e: e, not under x
  of_val : {p : Pg} {tops : List Cn} {ds : List Dt} {q : Place} {path : List ℕ} {x : ℕ} {w : Bool} {t : Cn} {e : Ex}
      → DeclSub p tops ds (val path q x w t e) (scope_with p tops ds) e
  -- val rec x : t = e and ..: the term of one of the names, under all of them
  of_vals : {p : Pg} {tops : List Cn} {ds : List Dt} {path : List ℕ} {ns : Nms} {e : Ex}
      → InNamed ns e
      → DeclSub p tops ds (vals path ns) (scope_with p (tops ++ value_types (named_values path ns)) ds) e

-- a declaration of a list, with the types and datatypes before it
pub data DeclAt : List Cn → List Dt → List De → List Cn → List Dt → De → Type 0 where
  -- d ..: d
  here : {tops : List Cn} {ds : List Dt} {d : De} {rest : List De} → DeclAt tops ds (d ∷ rest) tops ds d
  -- val x : t = e ..: a later one, where x : t is declared
  past_val : {tops us : List Cn} {ds es : List Dt} {q : Place} {path : List ℕ} {x : ℕ} {w : Bool} {t : Cn} {e : Ex}
      {rest : List De} {d : De}
      → DeclAt (tops ++ t ∷ []) ds rest us es d
      → DeclAt tops ds (val path q x w t e ∷ rest) us es d
  -- val rec x : t = e and .. ..: a later one, where all the names are declared
  past_vals : {tops us : List Cn} {ds es : List Dt} {path : List ℕ} {ns : Nms} {rest : List De} {d : De}
      → DeclAt (tops ++ value_types (named_values path ns)) ds rest us es d
      → DeclAt tops ds (vals path ns ∷ rest) us es d
  -- con x :: k = c ..: a later one
  past_con : {tops us : List Cn} {ds es : List Dt} {q : Place} {path : List ℕ} {x : ℕ} {w : Bool} {k : Kd} {c : Cn}
      {rest : List De} {d : De}
      → DeclAt tops ds rest us es d
      → DeclAt tops ds (con_is path q x w k c ∷ rest) us es d
  -- datatype b = .. ..: a later one, where b is declared
  past_datatype : {tops us : List Cn} {ds es : List Dt} {b : Dt} {rest : List De} {d : De}
      → DeclAt tops (ds ++ b ∷ []) rest us es d
      → DeclAt tops ds (datatype b ∷ rest) us es d
  -- table x : t ..: a later one, where x : t is declared
  past_thing : {tops us : List Cn} {ds es : List Dt} {path : List ℕ} {q : Place} {x : ℕ} {k : Th} {t : Cn}
      {rest : List De} {d : De}
      → DeclAt (tops ++ t ∷ []) ds rest us es d
      → DeclAt tops ds (thing path q x k t ∷ rest) us es d

-- what a program has at fault outside of terms: a declaration's own fault, or a second entry of one name that is
-- read by one method
pub data ProgramOwn : Pg → Fault → Type 0 where
  -- d, which has a fault itself
  of_declaration : {p : Pg} {tops : List Cn} {ds : List Dt} {d : De} {f : Fault}
      → DeclAt [] [] p.decls tops ds d
      → DeclOwn p tops ds d f
      → ProgramOwn p f
  -- two entries of one name and one method, at the value of the second
  same_entry : {p : Pg} {i j : ℕ} {post : Bool} {b e : Ent} {v : Value}
      → IsEntry p i post b
      → IsEntry p j post e
      → i < j
      → b.name ≡ e.name
      → slice_get (values p.decls) j ≡ Some v
      → ProgramOwn p (redeclared v.place (twice_entry e.name))

-- a term of a declaration of a program
pub data ProgramSub : Pg → Sc → Ex → Type 0 where
  -- d: a term of it
  in_declaration : {p : Pg} {tops : List Cn} {ds : List Dt} {d : De} {G : Sc} {e : Ex}
      → DeclAt [] [] p.decls tops ds d
      → DeclSub p tops ds d G e
      → ProgramSub p G e

pub data ProgramFails : Pg → Fault → Type 0 where
  -- a fault outside of terms
  outside_terms : {p : Pg} {f : Fault}
      → ProgramOwn p f
      → ProgramFails p f
  -- a fault in a term e of a declaration
  in_term : {p : Pg} {G : Sc} {e : Ex} {f : Fault}
      → ProgramSub p G e
      → Fails G e f
      → ProgramFails p f

-- a node tells the first of its faults: its own only where each part's stands strictly later
pub data Tells : Sc → Ex → Fault → Type 0 where
  -- e, of which f is a first fault of its own, and each fault in a part stands later
  tells_own : {G : Sc} {e : Ex} {f : Fault}
      → Own G e f
      → ((g : Fault) → Own G e g → Earlier (at g) (at f) → ⊥)
      → ((H : Sc) (c : Ex) (g : Fault) → Sub G e H c → Fails H c g → Earlier (at f) (at g))
      → Tells G e f
  -- e, of which a part c tells f, and no fault stands earlier
  tells_inner : {G H : Sc} {e c : Ex} {f : Fault}
      → Sub G e H c
      → Tells H c f
      → ((g : Fault) → Fails G e g → Earlier (at g) (at f) → ⊥)
      → Tells G e f

-- and so does a program
pub data ProgramTells : Pg → Fault → Type 0 where
  -- f is a first fault outside of terms, and each in a term stands later
  tells_outside : {p : Pg} {f : Fault}
      → ProgramOwn p f
      → ((g : Fault) → ProgramOwn p g → Earlier (at g) (at f) → ⊥)
      → ((G : Sc) (e : Ex) (g : Fault) → ProgramSub p G e → Fails G e g → Earlier (at f) (at g))
      → ProgramTells p f
  -- a term e tells f, and no fault stands earlier
  tells_in_term : {p : Pg} {G : Sc} {e : Ex} {f : Fault}
      → ProgramSub p G e
      → Tells G e f
      → ((g : Fault) → ProgramFails p g → Earlier (at g) (at f) → ⊥)
      → ProgramTells p f

-- no fault is told
abbrev pub Clear : Pg → Type 0
Clear p = (f : Fault) → ProgramTells p f → ⊥
