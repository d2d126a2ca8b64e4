-- What is at fault in a node itself: one premise of its rule fails. A fault stands where the part stands that
-- breaks the premise, and so at the node where the premise is about all of it.
-- form: the premises; of each, the parts that it speaks of, and where it stands
-- variable, ..
--   it is bound: of none; at the node
-- fn
--   kind of the type: of none; at the node
--   the pattern: of the pattern; in the pattern
--   its cover: of the pattern; at the node
-- guard's fn
--   kinds of both rows, their normal forms: of none; at the node
-- call
--   each item fits what the items before it leave: of the function and the items up to it; at the function, where it
--   takes no such item, at the term, or at the item
-- let, val rec
--   kind of a type: of none; at the declaration, or the term where the type isn't written
--   a term has its type: of the term; at the term
-- case
--   each pattern: of what is matched; in the pattern
--   the types of branches: with two branches; at the later branch's body
--   cover: with all patterns; at the node
-- (e : t)
--   kind of the type: of none; at the node
--   the term has it: of the term; at the term
-- record
--   kinds of names: of none; at the field
--   names differ: of the fields; at the node
-- e.c, --, ---
--   e is a record: of e; at e
--   kind of c: of none; at the node
--   it has the field: of e; at the node
-- ++
--   both are records: of either; at that part
--   their rows are apart: of both; at the node
-- folder
--   its kind has a folder: of none; at the node
--   the row's kind: of none; at the node
-- element
--   where it stands, and the kinds of its rows: of none; at the node
--   an attribute is one of the tag's: of none; at the attribute's name
--   it has its type: of the attribute's term; at that term
--   it is a call, where it is a link or an action: of the attribute's term; at the attribute's name
--   it stands once: of none; at the name of the second
--   its nodes: of the node, or those behind it; at the node in it
-- literal
--   the kinds of its rows: of none; at the node
--   its nodes: of the node, or those behind it; at the node in it
-- SQL
--   there is a rule for it: of none; at the node
use Rattle.std.specs.Prelude.{◌≡◌, ℕ, ◌<◌, Bool, true, false, List, [], ◌∷◌, Option, Some, None, Err, slice_get, ◌⊎◌}
use Rattle.con_terms.specs.Trees.{Kd, types, units, names, row_of, Cn, basic, arrow, poly, guarded, record_of, unit_con, row, cat, Prs, no_pairs}
use Rattle.con_terms.specs.Substitution.{subst}
use Rattle.con_terms.specs.declared.place.Place.{Place}
use Rattle.kind_rules.specs.Flaws.{Flw}
use Rattle.row_normal.specs.Ordered.{ordered, ordered_pieces}
use Rattle.core_terms.specs.declared.exp.Sigil.{Sigil}
use Rattle.core_terms.specs.declared.exp.ConOrigin.{ConOrigin}
use Rattle.core_terms.specs.declared.exp.ConOrigin.TheVariants.{Written, Inserted, Wild}
use Rattle.xml_trees.specs.declared.source_name.TagName.{TagName}
use Rattle.xml_trees.specs.declared.source_name.AttrName.{AttrName}
use Rattle.xml_trees.specs.declared.source_name.AttrName.TheVariants as attr
use Rattle.core_terms.specs.Trees.{Pt, Ex, node, bound, top, foreign, fold_over, built, fn, fn_guard, call, let_in, case_of, ascribed, fields_of, select, concat, without, without_row, folder, element, literal, sql, Its, with_term, with_con, with_guard, Nms, named, Los, local_val, local_rec, Brs, branch, Fds, field, El, tagged, Ats, attribute, Xs, a_node, Exs, Sk, Cd, Dt}
use Rattle.core_terms.specs.Types.{string_type, unit_type, type_row, no_types, one_field, xml_of}
use Rattle.core_terms.specs.Datatypes.{datatype_of}
use Rattle.core_typing.specs.Scopes.{folder_of, Sc, under, normal_of}
use Rattle.core_typing.specs.Cover.{Misses, TooLargeIn, levels, Shp}
use Rattle.core_terms.specs.Markup.{in_body, context_row, MayBeInForm, Sort, holding, of_words, empty, a_form, an_input, a_button, stands, sort_of, attribute_type, Where}
use Rattle.core_typing.specs.Typed.{branch_patterns, named_types, IsLinked, HasAttribute, IsWords, IsCallOf}
use Rattle.core_typing.specs.Judged.{HasKind, LacksKind, flaw_at, guard_forms}
use Rattle.core_typing.specs.Compared.{Alike, Differ, Large, Disjoint, Touch, RecordAnd, field_of, without_pieces}
use Rattle.core_typing.specs.PatternFaults.{PatFound, PatFault}
use Rattle.core_typing.specs.Asks.{no_cover}
use Rattle.core_typing.specs.Found.{Found, FieldsFound, NodesFound}
use Rattle.core_typing.specs.Faults.{Fault, unbound, a_variable, a_value, an_effect, a_constructor, an_attribute, a_folder, an_input_name, mismatch, not_disjoint, inexhaustive, redeclared, twice_attribute, link_not_call, not_serialisable, too_large, not_built}
use Rattle.core_typing.specs.Carried.{CarriesTo, Filled}

-- where a term stands
abbrev pub place_of : Ex → Place
place_of (node p a f) = p

-- where a declaration's type stands: with the name, or with the term where it wasn't written
abbrev pub type_place : Bool → Place → Ex → Place
type_place true p e = p
type_place false p e = place_of e

-- what stands for the parts of a wanted form that nothing tells
abbrev pub any_function : Cn
any_function = arrow unit_con unit_con

abbrev pub any_poly : Bool → Cn
any_poly i = poly i types unit_con

abbrev pub any_guarded : Cn
any_guarded = guarded (row units no_pairs) (row units no_pairs) unit_con

abbrev pub any_record : Cn
any_record = record_of no_types

-- an inserted constructor is there for a parameter that is implicit
abbrev pub is_implicit : ConOrigin → Bool
is_implicit Written = false
is_implicit Wild = false
is_implicit Inserted = true

-- a term's type isn't the wanted one, or the comparison is too large
pub data Wants : Sc → Place → Cn → Cn → Fault → Type 0 where
  -- e, where t is wanted and u is found: their normal forms m and n differ
  other : {G : Sc} {p : Place} {t u m n : Cn}
      → Differ t u m n
      → Wants G p t u (mismatch p G.called m n)
  -- e, where t is wanted and u is found: comparing them is too large
  large : {G : Sc} {p : Place} {t u : Cn}
      → Large t u
      → Wants G p t u (too_large p)

-- a type isn't of a form, which stands as `wanted`, or it is too large
pub data NotOf (F : Cn → Type 0) : Sc → Place → Cn → Cn → Fault → Type 0 where
  -- e : t, where t has a normal form, which isn't of the form
  other_form : {G : Sc} {p : Place} {wanted t n : Cn}
      → normal_of t ≡ Some n
      → (F n → ⊥)
      → NotOf F G p wanted t (mismatch p G.called wanted n)
  -- e : t, where the normal form of t is too large
  large_form : {G : Sc} {p : Place} {wanted t : Cn}
      → normal_of t ≡ None
      → NotOf F G p wanted t (too_large p)

abbrev pub IsFunction : Cn → Type 0
IsFunction n = (t : Cn) × (u : Cn) × (n ≡ arrow t u)

abbrev pub IsPoly : Cn → Type 0
IsPoly n = (i : Bool) × (k : Kd) × (t : Cn) × (n ≡ poly i k t)

abbrev pub IsGuarded : Cn → Type 0
IsGuarded n = (c : Cn) × (d : Cn) × (t : Cn) × (n ≡ guarded c d t)

-- a function of a constructor or of a guard's proof
abbrev pub IsGeneric : Cn → Type 0
IsGeneric n = IsPoly n ⊎ IsGuarded n

abbrev pub IsRecord : Cn → Type 0
IsRecord n = (r : Cn) × (n ≡ record_of r)

-- What is told where nothing may stand. In a void tag, wanted is () and found the type of the first node in it; where
-- that itself is (), wanted is {}. In a title, wanted is string and found the type of the first node that isn't
-- words; where that is a basic type, wanted is {}. At a name on another tag than an input's, wanted is the row
-- without fields and found the row of that name alone, with the value ().
abbrev pub nothing_like : Cn → Cn
nothing_like unit_con = unit_type
nothing_like _ = unit_con

abbrev pub words_like : Cn → Cn
words_like (basic s) = unit_type
words_like _ = string_type

-- a node of a type stands where nothing may
pub data NotHeld : Sc → Place → Cn → Fault → Type 0 where
  -- x : t, where t has a normal form
  held_there : {G : Sc} {p : Place} {t n : Cn}
      → normal_of t ≡ Some n
      → NotHeld G p t (mismatch p G.called (nothing_like n) n)
  -- x : t, where the normal form of t is too large
  large_there : {G : Sc} {p : Place} {t : Cn}
      → normal_of t ≡ None
      → NotHeld G p t (too_large p)

-- two rows aren't apart, or are too large
pub data Meets : Sc → Place → Cn → Cn → Fault → Type 0 where
  -- a ~ b, where c of a and d of b are the first pieces that nothing separates
  they_touch : {G : Sc} {p : Place} {a b c d : Cn}
      → Touch G.kinds.guards a b c d
      → Meets G p a b (not_disjoint p G.called c d)
  -- a ~ b, where comparing a and b is too large
  they_are_large : {G : Sc} {p : Place} {a b : Cn}
      → Large a b
      → Meets G p a b (too_large p)

-- patterns miss a shape, or a type of a part is too large
pub data Uncovered : Sc → Place → List Pt → Cn → Fault → Type 0 where
  -- p | .. : t, where no part's type is too large, and none of the patterns takes the shape s of t
  misses : {G : Sc} {p : Place} {ps : List Pt} {t : Cn} {s : Shp}
      → (TooLargeIn G.datatypes (levels ps) t → ⊥)
      → Misses G.datatypes ps t s
      → Uncovered G p ps t (inexhaustive p G.called s)
  -- p | .. : t, where the type of a part is too large, at a depth that the patterns look at
  large_part : {G : Sc} {p : Place} {ps : List Pt} {t : Cn}
      → TooLargeIn G.datatypes (levels ps) t
      → Uncovered G p ps t (too_large p)

-- a top-level value, or a call of one
pub data CallsTop : Ex → Type 0 where
  -- M.x
  top_alone : {p : Place} {a : Bool} {i : ℕ} → CallsTop (node p a (top i))
  -- M.x e [c] !
  top_called : {p q : Place} {a b : Bool} {i : ℕ} {s : Sigil} {is : Its}
      → CallsTop (node p a (call (node q b (top i)) s is))

-- The arguments of a link's call travel, and those and the form of an action's, whatever the function gives; and it
-- has no parameter that is a constructor or a guard, so that what is behind them is no function of one.
pub data Travels : Sc → AttrName → Ex → Type 0 where
  -- link={M.x e ..}, where M.x : a -> .. -> u, each such a is carried, and u is neither
  -- x :: k -> t nor [c ~ d] => t
  link_travels : {G : Sc} {e : Ex} {i n : ℕ} {t u m : Cn}
      → IsCallOf e i n
      → slice_get G.tops i ≡ Some t
      → CarriesTo G.datatypes n t u
      → normal_of u ≡ Some m
      → (IsGeneric m → ⊥)
      → Travels G attr.Link e
  -- action={M.x e ..}, where M.x : a -> .. -> b -> u, each such a is carried, a form can fill b, and u is neither
  -- x :: k -> t nor [c ~ d] => t
  action_travels : {G : Sc} {e : Ex} {i n : ℕ} {t u a b m : Cn}
      → IsCallOf e i n
      → slice_get G.tops i ≡ Some t
      → CarriesTo G.datatypes n t u
      → normal_of u ≡ Some (arrow a b)
      → Filled a
      → normal_of b ≡ Some m
      → (IsGeneric m → ⊥)
      → Travels G attr.Action e

-- a link lacks no argument, and an action the form alone; or what is lacked next is a constructor or a guard
pub data AsCalled : AttrName → Cn → Type 0 where
  -- link={e}, where e : v, which is no function
  as_a_link : {v n : Cn}
      → normal_of v ≡ Some n
      → (IsFunction n → ⊥)
      → AsCalled attr.Link v
  -- action={e}, where e : a -> b, and b is no function
  as_an_action : {v a b n : Cn}
      → normal_of v ≡ Some (arrow a b)
      → normal_of b ≡ Some n
      → (IsFunction n → ⊥)
      → AsCalled attr.Action v
  -- action={e}, where e : x :: k -> t or e : [c ~ d] => t
  as_a_generic : {v n : Cn}
      → normal_of v ≡ Some n
      → IsGeneric n
      → AsCalled attr.Action v

-- What a link or an action of a type breaks: it isn't such a call; it has another type, since a link lacks arguments,
-- or an action lacks more than the form or has it already; it has another type all the same, and its arguments don't
-- travel either, or its function has parameters that are constructors or guards, so that the earlier place counts; or
-- it has its type, and constructors, guards or types stand in the way of carrying the arguments.
pub data NotLinked : Sc → Place → AttrName → Cn → Ex → Fault → Type 0 where
  -- link={e}, where e is neither a top-level value nor a call of one
  link_calls_none : {G : Sc} {p : Place} {t : Cn} {e : Ex}
      → (CallsTop e → ⊥)
      → NotLinked G p attr.Link t e (link_not_call p)
  -- action={e}, where e is neither a top-level value nor a call of one
  action_calls_none : {G : Sc} {p : Place} {t : Cn} {e : Ex}
      → (CallsTop e → ⊥)
      → NotLinked G p attr.Action t e (link_not_call p)
  -- link={M.x e ..} : a -> b, in place of t: the call lacks an argument
  link_lacks : {G : Sc} {p : Place} {t v a b : Cn} {e : Ex}
      → CallsTop e
      → Found G e v
      → (Alike t v → ⊥)
      → normal_of v ≡ Some (arrow a b)
      → NotLinked G p attr.Link t e (link_not_call p)
  -- action={M.x e ..} : v, in place of t, where v is no function of a term, a constructor or a guard:
  -- nothing is left for the form
  action_has_all : {G : Sc} {p : Place} {t v n : Cn} {e : Ex}
      → CallsTop e
      → Found G e v
      → (Alike t v → ⊥)
      → normal_of v ≡ Some n
      → (IsFunction n → ⊥)
      → (IsGeneric n → ⊥)
      → NotLinked G p attr.Action t e (link_not_call p)
  -- action={M.x e ..} : a -> c -> d, in place of t: the call lacks more than the form
  action_lacks : {G : Sc} {p : Place} {t v a b c d : Cn} {e : Ex}
      → CallsTop e
      → Found G e v
      → (Alike t v → ⊥)
      → normal_of v ≡ Some (arrow a b)
      → normal_of b ≡ Some (arrow c d)
      → NotLinked G p attr.Action t e (link_not_call p)
  -- n={M.x e ..} : v, in place of t, where v is what is left of such a call, and the call doesn't travel
  cannot_travel : {G : Sc} {p : Place} {n : AttrName} {t v : Cn} {e : Ex}
      → CallsTop e
      → Found G e v
      → (Alike t v → ⊥)
      → AsCalled n v
      → (Travels G n e → ⊥)
      → NotLinked G p n t e (not_serialisable p)
  -- n={M.x e ..} : t, where the call isn't one that a link or an action can carry
  not_carried : {G : Sc} {p : Place} {n : AttrName} {t v : Cn} {e : Ex}
      → CallsTop e
      → Found G e v
      → Alike t v
      → (IsLinked G n e → ⊥)
      → NotLinked G p n t e (not_serialisable p)

-- an item doesn't fit, where those before it do; `at` is where the function stands
pub data ItemFault : Sc → Place → Cn → Its → Fault → Type 0 where
  -- f e, where f is no function
  no_function : {G : Sc} {at : Place} {t : Cn} {e : Ex} {is : Its} {f : Fault}
      → NotOf IsFunction G at any_function t f
      → ItemFault G at t (with_term e is) f
  -- f e, where f : u -> d, and e has another type than u
  argument : {G : Sc} {at : Place} {t u d c : Cn} {e : Ex} {is : Its} {f : Fault}
      → normal_of t ≡ Some (arrow u d)
      → Found G e c
      → Wants G (place_of e) u c f
      → ItemFault G at t (with_term e is) f
  -- f e .., where f : u -> d and e : u: a later item doesn't fit d
  after_term : {G : Sc} {at : Place} {t u d c : Cn} {e : Ex} {is : Its} {f : Fault}
      → normal_of t ≡ Some (arrow u d)
      → Found G e c
      → Alike u c
      → ItemFault G at d is f
      → ItemFault G at t (with_term e is) f
  -- f [c], where f takes no constructor
  no_poly : {G : Sc} {at p : Place} {o : ConOrigin} {t c : Cn} {is : Its} {f : Fault}
      → NotOf IsPoly G at (any_poly (is_implicit o)) t f
      → ItemFault G at t (with_con p o c is) f
  -- f [c], where f : x :: k -> d, and c hasn't the kind k
  constructor_kind : {G : Sc} {at p : Place} {o : ConOrigin} {i : Bool} {k : Kd} {t d c : Cn} {is : Its} {f : Fault}
      → normal_of t ≡ Some (poly i k d)
      → LacksKind G p c k f
      → ItemFault G at t (with_con p o c is) f
  -- f [c] .., where f : x :: k -> d and c :: k: a later item doesn't fit d[c/x]
  after_con : {G : Sc} {at p : Place} {o : ConOrigin} {i : Bool} {k : Kd} {t d c : Cn} {is : Its} {f : Fault}
      → normal_of t ≡ Some (poly i k d)
      → HasKind G c k
      → ItemFault G at (subst d c) is f
      → ItemFault G at t (with_con p o c is) f
  -- f !, where f takes no proof
  no_guard : {G : Sc} {at p : Place} {a : Bool} {t : Cn} {is : Its} {f : Fault}
      → NotOf IsGuarded G at any_guarded t f
      → ItemFault G at t (with_guard p a is) f
  -- f !, where f : [c ~ d] => b, and c and d aren't apart
  guard_fails : {G : Sc} {at p : Place} {a : Bool} {t c d b : Cn} {is : Its} {f : Fault}
      → normal_of t ≡ Some (guarded c d b)
      → Meets G p c d f
      → ItemFault G at t (with_guard p a is) f
  -- f ! .., where f : [c ~ d] => b and c ~ d: a later item doesn't fit b
  after_guard : {G : Sc} {at p : Place} {a : Bool} {t c d b : Cn} {is : Its} {f : Fault}
      → normal_of t ≡ Some (guarded c d b)
      → Disjoint G.kinds.guards c d
      → ItemFault G at b is f
      → ItemFault G at t (with_guard p a is) f

-- names that are declared together, in the scope of all of them
pub data NamedFault : Sc → Sc → Nms → Fault → Type 0 where
  -- x : t = e, where t hasn't the kind Type
  name_kind : {G H : Sc} {p : Place} {x : ℕ} {w : Bool} {t : Cn} {e : Ex} {ns : Nms} {f : Fault}
      → LacksKind G (type_place w p e) t types f
      → NamedFault G H (named p x w t e ns) f
  -- x : t = e, where t :: Type, and e has another type
  name_type : {G H : Sc} {p : Place} {x : ℕ} {w : Bool} {t u : Cn} {e : Ex} {ns : Nms} {f : Fault}
      → HasKind G t types
      → Found H e u
      → Wants G (place_of e) t u f
      → NamedFault G H (named p x w t e ns) f
  -- x : t = e and ..: a fault of a later name
  later_name : {G H : Sc} {p : Place} {x : ℕ} {w : Bool} {t : Cn} {e : Ex} {ns : Nms} {f : Fault}
      → NamedFault G H ns f
      → NamedFault G H (named p x w t e ns) f

pub data LocalFault : Sc → Los → Fault → Type 0 where
  -- val x : t = e, where t hasn't the kind Type
  val_kind : {G : Sc} {p : Place} {x : ℕ} {w : Bool} {t : Cn} {e : Ex} {ls : Los} {f : Fault}
      → LacksKind G (type_place w p e) t types f
      → LocalFault G (local_val p x w t e ls) f
  -- val x : t = e, where t :: Type, and e has another type
  val_type : {G : Sc} {p : Place} {x : ℕ} {w : Bool} {t u : Cn} {e : Ex} {ls : Los} {f : Fault}
      → HasKind G t types
      → Found G e u
      → Wants G (place_of e) t u f
      → LocalFault G (local_val p x w t e ls) f
  -- val x : t = e ..: a fault of a later declaration, under x
  after_val : {G : Sc} {p : Place} {x : ℕ} {w : Bool} {t : Cn} {e : Ex} {ls : Los} {f : Fault}
      → LocalFault (under (t ∷ []) G) ls f
      → LocalFault G (local_val p x w t e ls) f
  -- val rec x : t = e and ..: a fault of one of the names, under all of them
  in_rec : {G : Sc} {ns : Nms} {ls : Los} {f : Fault}
      → NamedFault G (under (named_types ns) G) ns f
      → LocalFault G (local_rec ns ls) f
  -- val rec x : t = e ..: a fault of a later declaration, under all the names
  after_rec : {G : Sc} {ns : Nms} {ls : Los} {f : Fault}
      → LocalFault (under (named_types ns) G) ls f
      → LocalFault G (local_rec ns ls) f

-- a later branch: its pattern, or its type against that of the first, where that is found
pub data BranchFault : Sc → Cn → Brs → Fault → Type 0 where
  -- | p => e, where p has a fault at t
  branch_pattern : {G : Sc} {t : Cn} {p : Place} {q : Pt} {e : Ex} {bs : Brs} {f : Fault}
      → PatFault G q t f
      → BranchFault G t (branch p q e bs) f
  -- | p => e | ..: a fault of a later branch's pattern
  later_pattern : {G : Sc} {t : Cn} {p : Place} {q : Pt} {e : Ex} {bs : Brs} {f : Fault}
      → BranchFault G t bs f
      → BranchFault G t (branch p q e bs) f

pub data BranchDiffers : Sc → Cn → Cn → Brs → Fault → Type 0 where
  -- | p => e, where e, under what p binds, has another type than u
  this_differs : {G : Sc} {t u v : Cn} {p : Place} {q : Pt} {e : Ex} {bs : Brs} {ts : List Cn} {f : Fault}
      → PatFound G q t ts
      → Found (under ts G) e v
      → Wants G (place_of e) u v f
      → BranchDiffers G t u (branch p q e bs) f
  -- | p => e | ..: a later branch has another type than u
  later_differs : {G : Sc} {t u : Cn} {p : Place} {q : Pt} {e : Ex} {bs : Brs} {f : Fault}
      → BranchDiffers G t u bs f
      → BranchDiffers G t u (branch p q e bs) f

pub data FieldFault : Sc → Fds → Fault → Type 0 where
  -- {n = e, ..}, where n hasn't the kind Name
  field_kind : {G : Sc} {p : Place} {n : Cn} {e : Ex} {fs : Fds} {f : Fault}
      → LacksKind G p n names f
      → FieldFault G (field p n e fs) f
  -- {n = e, ..}: a fault of a later field
  later_field : {G : Sc} {p : Place} {n : Cn} {e : Ex} {fs : Fds} {f : Fault}
      → FieldFault G fs f
      → FieldFault G (field p n e fs) f

-- an attribute: not one of the tag's, of another type, no call where it is a link or an action, or there before
pub data AttributeFault : Sc → Cn → TagName → Ats → Fault → Type 0 where
  -- <g n={e} ..>, where g has no attribute n
  no_attribute : {G : Sc} {u : Cn} {g : TagName} {p : Place} {n : AttrName} {e : Ex} {as' : Ats}
      → attribute_type u g n ≡ None
      → AttributeFault G u g (attribute p n e as') (unbound p (an_attribute n))
  -- <g n={e} ..>, where the attribute has the type t, and e has another
  attribute_differs : {G : Sc} {u t v : Cn} {g : TagName} {p : Place} {n : AttrName} {e : Ex} {as' : Ats}
      {f : Fault}
      → attribute_type u g n ≡ Some t
      → Found G e v
      → Wants G (place_of e) t v f
      → AttributeFault G u g (attribute p n e as') f
  -- <g n={e} ..>, where n is a link or an action, and e is no call that it can carry
  not_linked : {G : Sc} {u t : Cn} {g : TagName} {p : Place} {n : AttrName} {e : Ex} {as' : Ats} {f : Fault}
      → attribute_type u g n ≡ Some t
      → NotLinked G p n t e f
      → AttributeFault G u g (attribute p n e as') f
  -- <g n={e} ..>: a fault of a later attribute
  later_attribute : {G : Sc} {u : Cn} {g : TagName} {p : Place} {n : AttrName} {e : Ex} {as' : Ats} {f : Fault}
      → AttributeFault G u g as' f
      → AttributeFault G u g (attribute p n e as') f

-- an attribute of this name, as the second one
pub data SecondAt : AttrName → Ats → Fault → Type 0 where
  -- <g .. n={d} ..>
  here : {p : Place} {n : AttrName} {e : Ex} {as' : Ats}
      → SecondAt n (attribute p n e as') (redeclared p (twice_attribute n))
  -- <g .. m={d} ..>, with n among those behind it
  further : {p : Place} {n m : AttrName} {e : Ex} {as' : Ats} {f : Fault}
      → SecondAt n as' f
      → SecondAt n (attribute p m e as') f

pub data AttributeTwice : Ats → Fault → Type 0 where
  -- <g n={e} .. n={d} ..>
  second_of : {p : Place} {n : AttrName} {e : Ex} {as' : Ats} {f : Fault}
      → SecondAt n as' f
      → AttributeTwice (attribute p n e as') f
  -- <g n={e} ..>: one of those behind it stands twice
  later_twice : {p : Place} {n : AttrName} {e : Ex} {as' : Ats} {f : Fault}
      → AttributeTwice as' f
      → AttributeTwice (attribute p n e as') f

-- a node beside others: what it fills is no row of types; it has another type than its place and that row want; or it
-- has another behind it, and clashes with the fields before it, or with those of all behind it where these are well
pub data NodeFault : Sc → Cn → Cn → Xs → Fault → Type 0 where
  -- x .., where the row b that x fills hasn't the kind {Type}
  fills_kind : {G : Sc} {c u b : Cn} {e : Ex} {xs : Xs} {f : Fault}
      → LacksKind G (place_of e) b (row_of types) f
      → NodeFault G c u (a_node b e xs) f
  -- x .., where b :: {Type}, and x has another type than xml c u b
  other_place : {G : Sc} {c u b t : Cn} {e : Ex} {xs : Xs} {f : Fault}
      → HasKind G b (row_of types)
      → Found G e t
      → Wants G (place_of e) (xml_of c u b) t f
      → NodeFault G c u (a_node b e xs) f
  -- x y .., where u, filled before x, and b, filled by x, aren't apart
  filled_before : {G : Sc} {c u b h : Cn} {e d : Ex} {xs : Xs} {f : Fault}
      → HasKind G b (row_of types)
      → Meets G (place_of e) u b f
      → NodeFault G c u (a_node b e (a_node h d xs)) f
  -- x y .., where b, filled by x, and r, filled by all behind it, aren't apart
  filled_behind : {G : Sc} {c u b h r : Cn} {e d : Ex} {xs : Xs} {f : Fault}
      → HasKind G b (row_of types)
      → NodesFound no_cover G c (ordered (cat u b)) (a_node h d xs) r
      → Meets G (place_of e) b r f
      → NodeFault G c u (a_node b e (a_node h d xs)) f
  -- x y ..: a fault of a later node, where u ++ b is filled before it
  later_node : {G : Sc} {c u b h : Cn} {e d : Ex} {xs : Xs} {f : Fault}
      → HasKind G b (row_of types)
      → NodeFault G c (ordered (cat u b)) (a_node h d xs) f
      → NodeFault G c u (a_node b e (a_node h d xs)) f

-- the first node that isn't text
pub data NotWords : Xs → Ex → Type 0 where
  -- x .., where x is neither text nor {[e]}
  this_node : {b : Cn} {e : Ex} {xs : Xs}
      → (IsWords e → ⊥)
      → NotWords (a_node b e xs) e
  -- x y .., where x is text or {[e]}: a later one
  later_words : {b : Cn} {d e : Ex} {xs : Xs}
      → IsWords d
      → NotWords xs e
      → NotWords (a_node b d xs) e

-- what may stand with a form around it and without: a form, an input and a button have faults of their own for it
abbrev pub StandsEitherWay : Sort → Type 0
StandsEitherWay a_form = ⊥
StandsEitherWay (an_input t) = ⊥
StandsEitherWay a_button = ⊥
StandsEitherWay _ = Unit {0}

-- an element of a tag where it doesn't stand, with nodes that it doesn't hold, or with a field's name on another
-- tag than an input's
pub data ElementFault : Sc → Place → El → Fault → Type 0 where
  -- <g ..>, where c isn't the context in which g stands, neither with a form around it nor without
  stands_elsewhere : {G : Sc} {p : Place} {g : TagName} {n : Option (Place × Cn)} {c u : Cn} {as' : Ats} {xs : Xs}
      {f : Fault}
      → StandsEitherWay (sort_of g)
      → ((o : Bool) → Alike (context_row (stands g) o) c → ⊥)
      → Wants G p (context_row (stands g) false) c f
      → ElementFault G p (tagged g n c u as' xs) f
  -- <form ..>, where c isn't the context of a body without a form around it
  form_in_form : {G : Sc} {p : Place} {g : TagName} {n : Option (Place × Cn)} {c u : Cn} {as' : Ats} {xs : Xs}
      {f : Fault}
      → sort_of g ≡ a_form
      → Wants G p (context_row in_body false) c f
      → ElementFault G p (tagged g n c u as' xs) f
  -- <textbox{#A} ../>, where c isn't the context of a body with a form around it
  input_outside : {G : Sc} {p : Place} {g : TagName} {n : Option (Place × Cn)} {t c u : Cn} {as' : Ats} {xs : Xs}
      {f : Fault}
      → sort_of g ≡ an_input t
      → Wants G p (context_row in_body true) c f
      → ElementFault G p (tagged g n c u as' xs) f
  -- <submit ../>, where c isn't the context of a body with a form around it
  button_outside : {G : Sc} {p : Place} {g : TagName} {n : Option (Place × Cn)} {c u : Cn} {as' : Ats} {xs : Xs}
      {f : Fault}
      → sort_of g ≡ a_button
      → Wants G p (context_row in_body true) c f
      → ElementFault G p (tagged g n c u as' xs) f
  -- <form ..>, where u, filled before it, isn't []
  form_filled_before : {G : Sc} {p : Place} {g : TagName} {n : Option (Place × Cn)} {c u : Cn} {as' : Ats} {xs : Xs}
      {f : Fault}
      → sort_of g ≡ a_form
      → Wants G p no_types u f
      → ElementFault G p (tagged g n c u as' xs) f
  -- <g ..>, where the context c hasn't the kind {Unit}
  context_kind : {G : Sc} {p : Place} {g : TagName} {n : Option (Place × Cn)} {c u : Cn} {as' : Ats} {xs : Xs}
      {f : Fault}
      → LacksKind G p c (row_of units) f
      → ElementFault G p (tagged g n c u as' xs) f
  -- <g ..>, where u, filled before it, hasn't the kind {Type}
  uses_kind : {G : Sc} {p : Place} {g : TagName} {n : Option (Place × Cn)} {c u : Cn} {as' : Ats} {xs : Xs}
      {f : Fault}
      → LacksKind G p u (row_of types) f
      → ElementFault G p (tagged g n c u as' xs) f
  -- <g n={e} ..>, where an attribute has a fault
  in_attributes : {G : Sc} {p : Place} {g : TagName} {n : Option (Place × Cn)} {c u : Cn} {as' : Ats} {xs : Xs}
      {f : Fault}
      → AttributeFault G u g as' f
      → ElementFault G p (tagged g n c u as' xs) f
  -- <g n={e} .. n={d} ..>
  same_attribute : {G : Sc} {p : Place} {g : TagName} {n : Option (Place × Cn)} {c u : Cn} {as' : Ats} {xs : Xs}
      {f : Fault}
      → AttributeTwice as' f
      → ElementFault G p (tagged g n c u as' xs) f
  -- <textbox ../>, without the name of its field
  no_name : {G : Sc} {p : Place} {g : TagName} {t c u : Cn} {as' : Ats} {xs : Xs}
      → sort_of g ≡ an_input t
      → ElementFault G p (tagged g None c u as' xs) (unbound p an_input_name)
  -- <g{n} ..>, where n hasn't the kind Name
  name_kind_of : {G : Sc} {p at : Place} {g : TagName} {c u n : Cn} {as' : Ats} {xs : Xs} {f : Fault}
      → LacksKind G at n names f
      → ElementFault G p (tagged g (Some (at, n)) c u as' xs) f
  -- <g{n} ..>, where n :: Name, and g is no input
  name_on_other : {G : Sc} {p at : Place} {g : TagName} {c u n m : Cn} {as' : Ats} {xs : Xs}
      → ((t : Cn) → sort_of g ≡ an_input t → ⊥)
      → HasKind G n names
      → normal_of n ≡ Some m
      → ElementFault G p (tagged g (Some (at, n)) c u as' xs) (mismatch at G.called no_types (one_field m unit_con))
  -- <g{n} ..>, where n :: Name, g is no input, and the normal form of n is too large
  large_on_other : {G : Sc} {p at : Place} {g : TagName} {c u n : Cn} {as' : Ats} {xs : Xs}
      → ((t : Cn) → sort_of g ≡ an_input t → ⊥)
      → HasKind G n names
      → normal_of n ≡ None
      → ElementFault G p (tagged g (Some (at, n)) c u as' xs) (too_large at)
  -- <br>x ..</br>
  holds_nothing : {G : Sc} {p : Place} {g : TagName} {n : Option (Place × Cn)} {c u b t : Cn} {as' : Ats} {e : Ex}
      {xs : Xs} {f : Fault}
      → sort_of g ≡ empty
      → Found G e t
      → NotHeld G (place_of e) t f
      → ElementFault G p (tagged g n c u as' (a_node b e xs)) f
  -- <textbox{#A} ..>x ..</textbox>
  input_holds_nothing : {G : Sc} {p : Place} {g : TagName} {n : Option (Place × Cn)} {c u b t v : Cn} {as' : Ats}
      {e : Ex} {xs : Xs} {f : Fault}
      → sort_of g ≡ an_input v
      → Found G e t
      → NotHeld G (place_of e) t f
      → ElementFault G p (tagged g n c u as' (a_node b e xs)) f
  -- <submit ..>x ..</submit>
  button_holds_nothing : {G : Sc} {p : Place} {g : TagName} {n : Option (Place × Cn)} {c u b t : Cn} {as' : Ats}
      {e : Ex} {xs : Xs} {f : Fault}
      → sort_of g ≡ a_button
      → Found G e t
      → NotHeld G (place_of e) t f
      → ElementFault G p (tagged g n c u as' (a_node b e xs)) f
  -- <title>.. x ..</title>, where x is the first that is neither text nor {[e]}
  no_words : {G : Sc} {p : Place} {g : TagName} {k : Option (Place × Cn)} {c u t n : Cn} {as' : Ats} {e : Ex}
      {xs : Xs}
      → sort_of g ≡ of_words
      → NotWords xs e
      → Found G e t
      → normal_of t ≡ Some n
      → ElementFault G p (tagged g k c u as' xs) (mismatch (place_of e) G.called (words_like n) n)
  -- <title>.. x ..</title>, where x is the first that is neither text nor {[e]}, and its type is too large
  large_words : {G : Sc} {p : Place} {g : TagName} {k : Option (Place × Cn)} {c u t : Cn} {as' : Ats} {e : Ex}
      {xs : Xs}
      → sort_of g ≡ of_words
      → NotWords xs e
      → Found G e t
      → normal_of t ≡ None
      → ElementFault G p (tagged g k c u as' xs) (too_large (place_of e))
  -- <p ..>x y</p>, where p stands in its context: a fault of a node
  in_nodes : {G : Sc} {p : Place} {g : TagName} {n : Option (Place × Cn)} {w : Where} (o : Bool) {c u : Cn}
      {as' : Ats} {xs : Xs} {f : Fault}
      → sort_of g ≡ holding w
      → MayBeInForm (stands g) o
      → Alike (context_row (stands g) o) c
      → NodeFault G (context_row w o) u xs f
      → ElementFault G p (tagged g n c u as' xs) f
  -- <title>x y</title>, where title stands in its context: a fault of a node
  in_title : {G : Sc} {p : Place} {g : TagName} {n : Option (Place × Cn)} (o : Bool) {c u : Cn} {as' : Ats}
      {xs : Xs} {f : Fault}
      → sort_of g ≡ of_words
      → Alike (context_row (stands g) o) c
      → NodeFault G (context_row (stands g) o) u xs f
      → ElementFault G p (tagged g n c u as' xs) f
  -- <form ..>x y</form>: a fault of a node, with this form around it and nothing filled before
  in_form_nodes : {G : Sc} {p : Place} {g : TagName} {n : Option (Place × Cn)} {c u : Cn} {as' : Ats} {xs : Xs}
      {f : Fault}
      → sort_of g ≡ a_form
      → NodeFault G (context_row in_body true) no_types xs f
      → ElementFault G p (tagged g n c u as' xs) f
  -- <submit ../>, without an action
  no_action : {G : Sc} {p : Place} {g : TagName} {n : Option (Place × Cn)} {c u : Cn} {as' : Ats} {xs : Xs}
      → sort_of g ≡ a_button
      → (HasAttribute as' attr.Action → ⊥)
      → ElementFault G p (tagged g n c u as' xs) (link_not_call p)

-- all patterns are found
pub data PatsFound : Sc → Cn → List Pt → Type 0 where
  -- no pattern
  no_pats : {G : Sc} {t : Cn} → PatsFound G t []
  -- p | .., where p and each later pattern are found at t
  a_pat : {G : Sc} {t : Cn} {q : Pt} {qs : List Pt} {ts : List Cn}
      → PatFound G q t ts
      → PatsFound G t qs
      → PatsFound G t (q ∷ qs)

-- a premise of the node's own rule fails, and this is what it keeps
pub data Own : Sc → Ex → Fault → Type 0 where
  -- x, where no such variable is bound
  no_variable : {G : Sc} {p : Place} {a : Bool} {i : ℕ}
      → slice_get G.locals i ≡ None
      → Own G (node p a (bound i)) (unbound p (a_variable i))
  -- M.x, where no such value is declared before
  no_value : {G : Sc} {p : Place} {a : Bool} {i : ℕ}
      → slice_get G.tops i ≡ None
      → Own G (node p a (top i)) (unbound p (a_value i))
  -- M.f, where there is no such foreign effect
  no_effect : {G : Sc} {p : Place} {a : Bool} {i : ℕ}
      → (i < G.effects → ⊥)
      → Own G (node p a (foreign i)) (unbound p (an_effect i))
  -- fold, where no folder is for the kind k
  no_fold : {G : Sc} {p : Place} {a : Bool} {k : Kd}
      → folder_of G.folders k ≡ None
      → Own G (node p a (fold_over k)) (unbound p (a_folder k))
  -- C, where there is no such datatype, or it has no such constructor
  no_constructor : {G : Sc} {p : Place} {a : Bool} {s j : ℕ}
      → ((d : Dt) (c : Cd) → datatype_of G.datatypes s ≡ Some d → slice_get d.constructors j ≡ Some c → ⊥)
      → Own G (node p a (built s j)) (unbound p (a_constructor s j))
  -- fn p : t => e, where t hasn't the kind Type
  parameter_kind : {G : Sc} {p : Place} {a : Bool} {q : Pt} {t : Cn} {e : Ex} {f : Fault}
      → LacksKind G p t types f
      → Own G (node p a (fn q t e)) f
  -- fn p : t => e, where t :: Type, and p has a fault at t
  parameter_pattern : {G : Sc} {p : Place} {a : Bool} {q : Pt} {t : Cn} {e : Ex} {f : Fault}
      → HasKind G t types
      → PatFault G q t f
      → Own G (node p a (fn q t e)) f
  -- fn p : t => e, where t :: Type, and p doesn't cover t
  parameter_cover : {G : Sc} {p : Place} {a : Bool} {q : Pt} {t : Cn} {ts : List Cn} {e : Ex} {f : Fault}
      → HasKind G t types
      → PatFound G q t ts
      → Uncovered G p (q ∷ []) t f
      → Own G (node p a (fn q t e)) f
  -- fn [c ~ d] => e, where a side has a flaw or is no row, or the comparison of the two would be too large
  bad_guard : {G : Sc} {p : Place} {a : Bool} {c d : Cn} {e : Ex} {w : Flw}
      → guard_forms G.kinds c d ≡ Err w
      → Own G (node p a (fn_guard c d e)) (flaw_at p G.called w)
  -- f e [c] !, where f : t: an item doesn't fit what those before it leave of t
  an_item : {G : Sc} {p : Place} {a : Bool} {g : Ex} {s : Sigil} {is : Its} {t : Cn} {f : Fault}
      → Found G g t
      → ItemFault G (place_of g) t is f
      → Own G (node p a (call g s is)) f
  -- let d in e end, where a declaration has a fault
  a_local : {G : Sc} {p : Place} {a : Bool} {ls : Los} {e : Ex} {f : Fault}
      → LocalFault G ls f
      → Own G (node p a (let_in ls e)) f
  -- case e of p => b | .., where e : t, and p has a fault at t
  first_pattern : {G : Sc} {p q : Place} {a : Bool} {e b : Ex} {r : Pt} {bs : Brs} {t : Cn} {f : Fault}
      → Found G e t
      → PatFault G r t f
      → Own G (node p a (case_of e q r b bs)) f
  -- case e of .. | p => b .., where e : t, and p has a fault at t
  a_later_pattern : {G : Sc} {p q : Place} {a : Bool} {e b : Ex} {r : Pt} {bs : Brs} {t : Cn} {f : Fault}
      → Found G e t
      → BranchFault G t bs f
      → Own G (node p a (case_of e q r b bs)) f
  -- case e of r => b | .. | p => d .., where b : u, and d has another type
  branches_differ : {G : Sc} {p q : Place} {a : Bool} {e b : Ex} {r : Pt} {bs : Brs} {t u : Cn} {ts : List Cn}
      {f : Fault}
      → Found G e t
      → PatFound G r t ts
      → Found (under ts G) b u
      → BranchDiffers G t u bs f
      → Own G (node p a (case_of e q r b bs)) f
  -- case e of p => b | .., where e : t, and the patterns don't cover t
  not_covered : {G : Sc} {p q : Place} {a : Bool} {e b : Ex} {r : Pt} {bs : Brs} {t : Cn} {f : Fault}
      → Found G e t
      → PatsFound G t (r ∷ branch_patterns bs)
      → Uncovered G p (r ∷ branch_patterns bs) t f
      → Own G (node p a (case_of e q r b bs)) f
  -- (e : t), where t hasn't the kind Type
  written_kind : {G : Sc} {p : Place} {a : Bool} {e : Ex} {t : Cn} {f : Fault}
      → LacksKind G p t types f
      → Own G (node p a (ascribed e t)) f
  -- (e : t), where t :: Type, and e has another type
  not_as_written : {G : Sc} {p : Place} {a : Bool} {e : Ex} {t u : Cn} {f : Fault}
      → HasKind G t types
      → Found G e u
      → Wants G (place_of e) t u f
      → Own G (node p a (ascribed e t)) f
  -- {n = e, ..}, where a name has a fault
  a_field : {G : Sc} {p : Place} {a : Bool} {fs : Fds} {f : Fault}
      → FieldFault G fs f
      → Own G (node p a (fields_of fs)) f
  -- {n = e, ..}, where e : t, and [n = t, ..] hasn't the kind {Type}
  same_names : {G : Sc} {p : Place} {a : Bool} {fs : Fds} {ps : Prs} {f : Fault}
      → FieldsFound no_cover G fs ps
      → LacksKind G p (type_row ps) (row_of types) f
      → Own G (node p a (fields_of fs)) f
  -- e.c, where e is no record
  select_no_record : {G : Sc} {p : Place} {a : Bool} {e : Ex} {c t : Cn} {f : Fault}
      → Found G e t
      → NotOf IsRecord G (place_of e) any_record t f
      → Own G (node p a (select e c)) f
  -- e.c, where c hasn't the kind Name
  select_kind : {G : Sc} {p : Place} {a : Bool} {e : Ex} {c : Cn} {f : Fault}
      → LacksKind G p c names f
      → Own G (node p a (select e c)) f
  -- e.c, where c :: Name and e : $r, and the normal forms of e's type and c together are too large
  select_large : {G : Sc} {p : Place} {a : Bool} {e : Ex} {c t r : Cn}
      → Found G e t
      → normal_of t ≡ Some (record_of r)
      → HasKind G c names
      → Large t c
      → Own G (node p a (select e c)) (too_large p)
  -- e.c, where c :: Name and e : $r, and r has no field c
  select_no_field : {G : Sc} {p : Place} {a : Bool} {e : Ex} {c n t r : Cn}
      → Found G e t
      → RecordAnd t c r n
      → HasKind G c names
      → field_of n (ordered_pieces r) ≡ None
      → Own G (node p a (select e c)) (mismatch p G.called (record_of (one_field n unit_con)) (record_of r))
  -- e ++ d, where e is no record
  left_no_record : {G : Sc} {p : Place} {a : Bool} {e d : Ex} {t : Cn} {f : Fault}
      → Found G e t
      → NotOf IsRecord G (place_of e) any_record t f
      → Own G (node p a (concat e d)) f
  -- e ++ d, where d is no record
  right_no_record : {G : Sc} {p : Place} {a : Bool} {e d : Ex} {t : Cn} {f : Fault}
      → Found G d t
      → NotOf IsRecord G (place_of d) any_record t f
      → Own G (node p a (concat e d)) f
  -- e ++ d, where e : $r and d : $s, and r and s aren't apart
  clash : {G : Sc} {p : Place} {a : Bool} {e d : Ex} {t u r s : Cn} {f : Fault}
      → Found G e t
      → Found G d u
      → normal_of t ≡ Some (record_of r)
      → normal_of u ≡ Some (record_of s)
      → Meets G p r s f
      → Own G (node p a (concat e d)) f
  -- e -- c, where e is no record
  without_no_record : {G : Sc} {p : Place} {a : Bool} {e : Ex} {c t : Cn} {f : Fault}
      → Found G e t
      → NotOf IsRecord G (place_of e) any_record t f
      → Own G (node p a (without e c)) f
  -- e -- c, where c hasn't the kind Name
  without_kind : {G : Sc} {p : Place} {a : Bool} {e : Ex} {c : Cn} {f : Fault}
      → LacksKind G p c names f
      → Own G (node p a (without e c)) f
  -- e -- c, where c :: Name and e : $r, and the normal forms of e's type and c together are too large
  without_large : {G : Sc} {p : Place} {a : Bool} {e : Ex} {c t r : Cn}
      → Found G e t
      → normal_of t ≡ Some (record_of r)
      → HasKind G c names
      → Large t c
      → Own G (node p a (without e c)) (too_large p)
  -- e -- c, where c :: Name and e : $r, and r has no field c
  without_no_field : {G : Sc} {p : Place} {a : Bool} {e : Ex} {c n t r : Cn}
      → Found G e t
      → RecordAnd t c r n
      → HasKind G c names
      → field_of n (ordered_pieces r) ≡ None
      → Own G (node p a (without e c)) (mismatch p G.called (record_of (one_field n unit_con)) (record_of r))
  -- e --- c, where e is no record
  row_no_record : {G : Sc} {p : Place} {a : Bool} {e : Ex} {c t : Cn} {f : Fault}
      → Found G e t
      → NotOf IsRecord G (place_of e) any_record t f
      → Own G (node p a (without_row e c)) f
  -- e --- c, where c hasn't the kind {Type}
  row_kind : {G : Sc} {p : Place} {a : Bool} {e : Ex} {c : Cn} {f : Fault}
      → LacksKind G p c (row_of types) f
      → Own G (node p a (without_row e c)) f
  -- e --- c, where c :: {Type} and e : $r, and the normal forms of e's type and c together are too large
  row_large : {G : Sc} {p : Place} {a : Bool} {e : Ex} {c t r : Cn}
      → Found G e t
      → normal_of t ≡ Some (record_of r)
      → HasKind G c (row_of types)
      → Large t c
      → Own G (node p a (without_row e c)) (too_large p)
  -- e --- c, where c :: {Type} and e : $r, and r lacks a piece of c
  row_not_there : {G : Sc} {p : Place} {a : Bool} {e : Ex} {c n t r : Cn}
      → Found G e t
      → RecordAnd t c r n
      → HasKind G c (row_of types)
      → without_pieces (ordered_pieces n) (ordered_pieces r) ≡ None
      → Own G (node p a (without_row e c)) (mismatch p G.called (record_of n) (record_of r))
  -- the folder of a row, where no folder is for the kind k
  no_folder : {G : Sc} {p : Place} {a : Bool} {k : Kd} {ps : Prs}
      → folder_of G.folders k ≡ None
      → Own G (node p a (folder k ps)) (unbound p (a_folder k))
  -- the folder of a row, where the row hasn't the kind {k}
  folder_kind : {G : Sc} {p : Place} {a : Bool} {k : Kd} {ps : Prs} {f : Fault}
      → LacksKind G p (row k ps) (row_of k) f
      → Own G (node p a (folder k ps)) f
  -- <a ..>x y</a>, where the element has a fault
  an_element : {G : Sc} {p : Place} {a : Bool} {m : El} {f : Fault}
      → ElementFault G p m f
      → Own G (node p a (element m)) f
  -- <xml>x y</xml>, where the context c hasn't the kind {Unit}
  literal_context : {G : Sc} {p : Place} {a : Bool} {c u : Cn} {xs : Xs} {f : Fault}
      → LacksKind G p c (row_of units) f
      → Own G (node p a (literal c u xs)) f
  -- <xml>x y</xml>, where u, filled before it, hasn't the kind {Type}
  literal_uses : {G : Sc} {p : Place} {a : Bool} {c u : Cn} {xs : Xs} {f : Fault}
      → LacksKind G p u (row_of types) f
      → Own G (node p a (literal c u xs)) f
  -- <xml>x y</xml>, where c :: {Unit} and u :: {Type}, and a node has a fault
  literal_node : {G : Sc} {p : Place} {a : Bool} {c u : Cn} {xs : Xs} {f : Fault}
      → HasKind G c (row_of units)
      → HasKind G u (row_of types)
      → NodeFault G c u xs f
      → Own G (node p a (literal c u xs)) f
  -- (SELECT ..): no rule is there yet
  no_rule : {G : Sc} {p : Place} {a : Bool} {k : Sk} {es : Exs} → Own G (node p a (sql k es)) (not_built p)
