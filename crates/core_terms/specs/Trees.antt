-- Terms, patterns and declarations as finite trees. A node's place is that of its first token in the source.
-- The Ur/Web Manual, "Core Language".
use Rattle.std.specs.Prelude.{ℕ, ℤ, Bool, List, Option, length}
use Rattle.con_terms.specs.Trees.{Kd, Cn, Prs}
use Rattle.con_terms.specs.declared.place.Place.{Place}
use Rattle.core_terms.specs.declared.exp.Sigil.{Sigil}
use Rattle.core_terms.specs.declared.exp.ConOrigin.{ConOrigin}
use Rattle.core_terms.specs.declared.basis.BasisName.{BasisName}
use Rattle.xml_trees.specs.declared.source_name.TagName.{TagName}
use Rattle.xml_trees.specs.declared.source_name.AttrName.{AttrName}

mutual
  -- patterns
  pub data Pt : Type 0 where
    pattern : Place → Pf → Pt

  pub data Pf : Type 0 where
    -- _
    any : Pf
    -- a variable: its name, and its type, which no source has there: (x : t) is an annotated pattern
    binds : ℕ → Cn → Pf
    is_number : ℤ → Pf
    is_text : List ℕ → Pf
    -- a constructor: its datatype's symbol and its place in it, alone or with a pattern of what it holds
    is_bare : ℕ → ℕ → Pf
    is_holding : ℕ → ℕ → Pt → Pf
    -- fields, and whether further ones may stand beside them
    has_fields : Pfs → Bool → Pf
    -- (p : t)
    annotated : Pt → Cn → Pf

  pub data Pfs : Type 0 where
    no_pat_fields : Pfs
    pat_field : Place → Cn → Pt → Pfs → Pfs

-- what a form of SQL is apart from the terms in it
pub data Sk : Type 0 where
  blank : Sk

mutual
  -- terms: a place, whether the term was inserted, and its form
  pub data Ex : Type 0 where
    node : Place → Bool → Fo → Ex

  pub data Fo : Type 0 where
    -- what the binder that is so many binders further out binds
    bound : ℕ → Fo
    -- the top-level value, the foreign effect with this number
    top : ℕ → Fo
    foreign : ℕ → Fo
    -- a value of the basis; fold over rows of a kind
    basis : BasisName → Fo
    fold_over : Kd → Fo
    number : ℤ → Fo
    text : List ℕ → Fo
    -- a constructor of a datatype: the datatype's symbol, and the constructor's place in it
    built : ℕ → ℕ → Fo
    -- fn p => e, with the type of what it takes: what the source says of it stands in p
    fn : Pt → Cn → Ex → Fo
    -- fn [x :: k] => e: the name, whether it is :::, whether k was written, and k
    fn_con : ℕ → Bool → Bool → Kd → Ex → Fo
    -- fn [c ~ d] => e
    fn_guard : Cn → Cn → Ex → Fo
    -- a term, what the source has before it, and what it is applied to
    call : Ex → Sigil → Its → Fo
    let_in : Los → Ex → Fo
    -- case e of p => e | ..; the first branch stands apart from the rest
    case_of : Ex → Place → Pt → Ex → Brs → Fo
    -- (e : t)
    ascribed : Ex → Cn → Fo
    -- {c = e, ..}
    fields_of : Fds → Fo
    -- e.c
    select : Ex → Cn → Fo
    -- e1 ++ e2
    concat : Ex → Ex → Fo
    -- e -- c
    without : Ex → Cn → Fo
    -- e --- c
    without_row : Ex → Cn → Fo
    -- the folder of a row whose values have this kind
    folder : Kd → Prs → Fo
    element : El → Fo
    -- <xml> .. </xml>: the row of where it stands, the fields filled before it, and its nodes
    literal : Cn → Cn → Xs → Fo
    -- a form of SQL, and the terms in it in text order
    sql : Sk → Exs → Fo

  -- what a term is applied to, from left to right: terms; constructors, each with where it comes from; and guards'
  -- proofs, each with whether it was inserted
  pub data Its : Type 0 where
    no_items : Its
    with_term : Ex → Its → Its
    with_con : Place → ConOrigin → Cn → Its → Its
    with_guard : Place → Bool → Its → Its

  -- names with their terms: the place, the name, whether the type was written, and the type
  pub data Nms : Type 0 where
    no_named : Nms
    named : Place → ℕ → Bool → Cn → Ex → Nms → Nms

  -- the declarations of a let: one name, or names that may be used in each other's terms
  pub data Los : Type 0 where
    no_locals : Los
    local_val : Place → ℕ → Bool → Cn → Ex → Los → Los
    local_rec : Nms → Los → Los

  pub data Brs : Type 0 where
    no_branches : Brs
    branch : Place → Pt → Ex → Brs → Brs

  pub data Fds : Type 0 where
    no_fields : Fds
    field : Place → Cn → Ex → Fds → Fds

  -- an element: its tag, the field that an input fills with its place, the row of where it stands, the fields filled
  -- before it, its attributes, and the nodes in it
  pub data El : Type 0 where
    tagged : TagName → Option (Place × Cn) → Cn → Cn → Ats → Xs → El

  pub data Ats : Type 0 where
    no_attributes : Ats
    attribute : Place → AttrName → Ex → Ats → Ats

  -- nodes beside one another, each with the fields that it fills
  pub data Xs : Type 0 where
    no_nodes : Xs
    a_node : Cn → Ex → Xs → Xs

  pub data Exs : Type 0 where
    no_exps : Exs
    an_exp : Ex → Exs → Exs

-- one item, and one declaration of a let
pub data It : Type 0 where
  a_term : Ex → It
  a_con : Place → ConOrigin → Cn → It
  a_guard : Place → Bool → It

pub data Lo : Type 0 where
  a_val : Place → ℕ → Bool → Cn → Ex → Lo
  a_rec : Nms → Lo

-- a constructor of a datatype: its name, and what it holds, seen from under the datatype's parameters
pub record Cd : Type 0 where
  pub place : Place
  pub name : ℕ
  pub holds : Option Cn

-- a datatype: the structures around it, its module, its name in the source, its type's symbol, the names of the types
-- that it takes, and its constructors
pub record Dt : Type 0 where
  pub path : List ℕ
  pub place : Place
  pub home : Option ℕ
  pub name : ℕ
  pub symbol : ℕ
  pub parameters : List ℕ
  pub constructors : List Cd

-- how many types it takes
abbrev pub arity : Dt → ℕ
arity d = length d.parameters

-- what a value without a term is: a table with the columns of its key, a sequence, a cookie, an item of a functor's
-- parameter
pub data Th : Type 0 where
  a_table : List (Place × ℕ) → Th
  a_sequence : Th
  a_cookie : Th
  a_given : Th

-- declarations, each with the names of the structures around it
pub data De : Type 0 where
  val : List ℕ → Place → ℕ → Bool → Cn → Ex → De
  vals : List ℕ → Nms → De
  con_is : List ℕ → Place → ℕ → Bool → Kd → Cn → De
  datatype : Dt → De
  thing : List ℕ → Place → ℕ → Th → Cn → De

-- a rule on addresses
pub record Ru : Type 0 where
  pub allow : Bool
  pub pattern : List ℕ

-- a program: the texts of its symbols, the modules' names, its declarations, the rules on addresses, the foreign
-- effects by module and name, the symbol of folder at each kind, and the values that a request may name
pub record Pg : Type 0 where
  pub names : List (List ℕ)
  pub modules : List (List ℕ)
  pub decls : List De
  pub rules : List Ru
  pub foreigns : List (List ℕ × List ℕ)
  pub folders : List (Kd × ℕ)
  pub exports : List ℕ
