-- What is found for a term: the type, and the fault that is told. All of it is computed from what is found for the
-- parts, but what cover tells of patterns.
use Rattle.std.specs.Prelude.{◌≡◌, Bool, true, false, List, [], ◌∷◌, Option, Some, None}
use Rattle.con_terms.specs.Trees.{types, Cn}
use Rattle.con_terms.specs.declared.place.Place.{Place}
use Rattle.kind_rules.specs.Kinding.{judged_at}
use Rattle.core_terms.specs.Trees.{Pt, Ex, node, Fo, bound, top, foreign, basis, fold_over, number, text, built, fn, fn_con, fn_guard, call, let_in, case_of, ascribed, fields_of, select, concat, without, without_row, folder, element, literal, sql, Its, no_items, with_term, with_con, with_guard, Nms, no_named, named, Los, no_locals, local_val, local_rec, Brs, no_branches, branch, Fds, no_fields, field, El, tagged, Ats, no_attributes, attribute, Xs, no_nodes, a_node, Exs, no_exps, an_exp}
use Rattle.core_typing.specs.Scopes.{Sc, under, under_con}
use Rattle.core_typing.specs.Faults.{Fault}
use Rattle.core_typing.specs.Own.{place_of, type_place}
use Rattle.core_typing.specs.Typed.{branch_patterns, named_types}
use Rattle.told_faults.specs.Computed.{Jd, neither, faulty, flawed}
use Rattle.node_rules.specs.Names.{of_variable, of_top, of_foreign, of_basis, of_number, of_text, of_fold, of_built}
use Rattle.node_rules.specs.Functions.{of_body, of_fn_con, of_assuming, of_ascribed}
use Rattle.node_rules.specs.Locals.{Ls, none_yet, with_declared, of_let}
use Rattle.node_rules.specs.Records.{Op, selects, cuts, cuts_row, of_operation, of_concat, of_folder}
use Rattle.pattern_rules.specs.Matching.{Uncovered, Br, bad_branch, judged_branch, Cs, first_case, with_case, of_case}
use Rattle.markup_rules.specs.Elements.{ElementJudged, of_literal}
use Rattle.judged_terms.specs.Openings.{pattern_scope, guard_scope, BranchIn, WholeIn, UnlessTold}
use Rattle.judged_terms.specs.Listed.{of_items, of_record, named_found, of_sql}

-- fn p => e, from what is found for its body
abbrev pub OfFunction : Sc → Place → Pt → Cn → Jd → Jd → Type 0
OfFunction G p q t i j = (o : Option Fault) × (Uncovered G p (q ∷ []) t o × (j ≡ of_body t o i))

-- or from what is found under its pattern
abbrev pub OfParameter : Sc → Place → Pt → Cn → Br → Jd → Type 0
OfParameter G p q t (bad_branch f) j = j ≡ faulty f
OfParameter G p q t (judged_branch i) j = OfFunction G p q t i j

-- what cover tells of the patterns of a case, where all of them are found
abbrev pub Missed : Sc → Place → Bool → List Pt → Cn → Option Fault → Type 0
Missed G p false ps t o = o ≡ None
Missed G p true ps t o = Uncovered G p ps t o

-- case e of .., from what is found for e
abbrev pub OfMatched : Jd → (Cn → Type 0) → Option Cn → Jd → Type 0
OfMatched i J None j = j ≡ record { type = None; told = i.told }
OfMatched i J (Some t) j = J t

abbrev mutual
  pub Judges : Sc → Ex → Jd → Type 0
  Judges G (node p a f) j = FormJudges G p f j

  pub FormJudges : Sc → Place → Fo → Jd → Type 0
  FormJudges G p (bound i) j = j ≡ of_variable G p i
  FormJudges G p (top i) j = j ≡ of_top G p i
  FormJudges G p (foreign i) j = j ≡ of_foreign G p i
  FormJudges G p (basis b) j = j ≡ of_basis b
  FormJudges G p (fold_over k) j = j ≡ of_fold G p k
  FormJudges G p (number z) j = j ≡ of_number
  FormJudges G p (text w) j = j ≡ of_text
  FormJudges G p (built s n) j = j ≡ of_built G p s n
  FormJudges G p (fn q t e) j =
      UnlessTold (flawed G p (judged_at G.kinds t types))
      ((b : Br) × (BranchIn (pattern_scope G q t) (λ H k. Judges H e k) b × OfParameter G p q t b j)) j
  FormJudges G p (fn_con x i w k e) j = (b : Jd) × (Judges (under_con x k G) e b × (j ≡ of_fn_con i k b))
  FormJudges G p (fn_guard c d e) j =
      WholeIn (guard_scope G p c d) (λ H k. (b : Jd) × (Judges H e b × (k ≡ of_assuming c d b))) j
  FormJudges G p (call f s is) j =
      (h : Jd) × (js : List Jd) × (Judges G f h × ItemsJudge G is js × (j ≡ of_items G (place_of f) is h js))
  FormJudges G p (let_in ls e) j =
      (H : Sc) × (r : Ls) × (b : Jd) × (LocalsJudge G none_yet ls H r × Judges H e b × (j ≡ of_let r b))
  FormJudges G p (case_of e q r b bs) j =
      (i : Jd) × (Judges G e i × OfMatched i
      (λ t. (c : Cs) × (o : Option Fault) × (((x : Br) × (BranchIn (pattern_scope G r t) (λ H k. Judges H b k) x
      × BranchesJudge G t bs (first_case x) c))
      × Missed G p c.bound (r ∷ branch_patterns bs) t o × (j ≡ of_case i.told c o))) i.type j)
  FormJudges G p (ascribed e t) j =
      (i : Jd) × (Judges G e i × (j ≡ of_ascribed G p (place_of e) t (judged_at G.kinds t types) i))
  FormJudges G p (fields_of fs) j = (js : List Jd) × (FieldsJudge G fs js × (j ≡ of_record G p fs js))
  FormJudges G p (select e c) j = (i : Jd) × (Judges G e i × (j ≡ of_operation selects G p (place_of e) c i))
  FormJudges G p (concat e d) j =
      (i : Jd) × (k : Jd) × (Judges G e i × Judges G d k × (j ≡ of_concat G p (place_of e) (place_of d) i k))
  FormJudges G p (without e c) j = (i : Jd) × (Judges G e i × (j ≡ of_operation cuts G p (place_of e) c i))
  FormJudges G p (without_row e c) j =
      (i : Jd) × (Judges G e i × (j ≡ of_operation cuts_row G p (place_of e) c i))
  FormJudges G p (folder k ps) j = j ≡ of_folder G p k ps
  FormJudges G p (element m) j = ElementJudges G p m j
  FormJudges G p (literal c u xs) j = (js : List Jd) × (NodesJudge G xs js × (j ≡ of_literal G p c u xs js))
  FormJudges G p (sql k es) j = (js : List Jd) × (TermsJudge G es js × (j ≡ of_sql p js))

  pub ElementJudges : Sc → Place → El → Jd → Type 0
  ElementJudges G p (tagged g n c u as' xs) j =
      (js : List Jd) × (ks : List Jd) × (AttributesJudge G as' js × NodesJudge G xs ks
      × ElementJudged G p (tagged g n c u as' xs) js ks j)

  -- lists: for each term what is found for it, and neither a type nor a fault where no term stands
  pub ItemsJudge : Sc → Its → List Jd → Type 0
  ItemsJudge G no_items js = js ≡ []
  ItemsJudge G (with_term e is) [] = ⊥
  ItemsJudge G (with_term e is) (j ∷ js) = Judges G e j × ItemsJudge G is js
  ItemsJudge G (with_con q o c is) [] = ⊥
  ItemsJudge G (with_con q o c is) (j ∷ js) = (j ≡ neither) × ItemsJudge G is js
  ItemsJudge G (with_guard q a is) [] = ⊥
  ItemsJudge G (with_guard q a is) (j ∷ js) = (j ≡ neither) × ItemsJudge G is js

  pub FieldsJudge : Sc → Fds → List Jd → Type 0
  FieldsJudge G no_fields js = js ≡ []
  FieldsJudge G (field q n e fs) [] = ⊥
  FieldsJudge G (field q n e fs) (j ∷ js) = Judges G e j × FieldsJudge G fs js

  pub NamesJudge : Sc → Nms → List Jd → Type 0
  NamesJudge G no_named js = js ≡ []
  NamesJudge G (named p x w t e ns) [] = ⊥
  NamesJudge G (named p x w t e ns) (j ∷ js) = Judges G e j × NamesJudge G ns js

  pub AttributesJudge : Sc → Ats → List Jd → Type 0
  AttributesJudge G no_attributes js = js ≡ []
  AttributesJudge G (attribute p n e as') [] = ⊥
  AttributesJudge G (attribute p n e as') (j ∷ js) = Judges G e j × AttributesJudge G as' js

  pub NodesJudge : Sc → Xs → List Jd → Type 0
  NodesJudge G no_nodes js = js ≡ []
  NodesJudge G (a_node b e xs) [] = ⊥
  NodesJudge G (a_node b e xs) (j ∷ js) = Judges G e j × NodesJudge G xs js

  pub TermsJudge : Sc → Exs → List Jd → Type 0
  TermsJudge G no_exps js = js ≡ []
  TermsJudge G (an_exp e es) [] = ⊥
  TermsJudge G (an_exp e es) (j ∷ js) = Judges G e j × TermsJudge G es js

  -- the declarations of a let: the scope behind them, and what is found for them
  pub LocalsJudge : Sc → Ls → Los → Sc → Ls → Type 0
  LocalsJudge G r no_locals H s = (H ≡ G) × (s ≡ r)
  LocalsJudge G r (local_val p x w t e ls) H s =
      (j : Jd) × (Judges G e j
      × LocalsJudge (under (t ∷ []) G) (with_declared G (type_place w p e) (place_of e) t j r) ls H s)
  LocalsJudge G r (local_rec ns ls) H s =
      (js : List Jd) × (NamesJudge (under (named_types ns) G) ns js
      × LocalsJudge (under (named_types ns) G) (named_found G ns js r) ls H s)

  -- the later branches of a case of a type, behind those before them
  pub BranchesJudge : Sc → Cn → Brs → Cs → Cs → Type 0
  BranchesJudge G t no_branches c d = d ≡ c
  BranchesJudge G t (branch p q e bs) c d =
      (x : Br) × (BranchIn (pattern_scope G q t) (λ H k. Judges H e k) x
      × BranchesJudge G t bs (with_case G (place_of e) x c) d)

-- what is found for a part of a list
abbrev pub PartJudges : Sc → Option Ex → Jd → Type 0
PartJudges G None j = j ≡ neither
PartJudges G (Some e) j = Judges G e j

abbrev pub JudgesAll : Sc → List (Option Ex) → List Jd → Type 0
JudgesAll G [] js = js ≡ []
JudgesAll G (o ∷ os) [] = ⊥
JudgesAll G (o ∷ os) (j ∷ js) = PartJudges G o j × JudgesAll G os js

-- parts of the rules, as the walk has them: e.c, e -- c, e --- c
abbrev pub OperationJudges : Op → Sc → Place → Ex → Cn → Jd → Type 0
OperationJudges o G p e c j = (i : Jd) × (Judges G e i × (j ≡ of_operation o G p (place_of e) c i))

-- the branches of a case of a type
abbrev pub BranchesAt : Sc → Cn → Pt → Ex → Brs → Cs → Type 0
BranchesAt G t r b bs c =
    (x : Br) × (BranchIn (pattern_scope G r t) (λ H k. Judges H b k) x × BranchesJudge G t bs (first_case x) c)

-- case e of .., from what is found for e, and at its type
abbrev pub CaseAt : Sc → Place → Jd → Pt → Ex → Brs → Cn → Jd → Type 0
CaseAt G p i r b bs t j =
    (c : Cs) × (o : Option Fault) × (BranchesAt G t r b bs c
    × Missed G p c.bound (r ∷ branch_patterns bs) t o × (j ≡ of_case i.told c o))

abbrev pub CaseOf : Sc → Place → Jd → Pt → Ex → Brs → Jd → Type 0
CaseOf G p i r b bs j = OfMatched i (λ t. CaseAt G p i r b bs t j) i.type j
