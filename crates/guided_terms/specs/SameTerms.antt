-- Which terms count as one: those that differ in places, and in types that were inserted and are equal. What a source
-- has written is the same in both, and so is the order of a folder's fields.
use Rattle.std.specs.Prelude.{◌≡◌, Bool, true, false, Option, Some, None}
use Rattle.con_terms.specs.Trees.{Cn}
use Rattle.con_terms.specs.Equal.{Equal, EqualPairs}
use Rattle.con_terms.specs.declared.place.Place.{Place}
use Rattle.core_terms.specs.declared.exp.ConOrigin.{ConOrigin}
use Rattle.core_terms.specs.declared.exp.ConOrigin.TheVariants.{Written, Inserted, Wild}
use Rattle.core_terms.specs.Trees.{Pt, pattern, Pf, any, binds, is_number, is_text, is_bare, is_holding, has_fields, annotated, Pfs, no_pat_fields, pat_field, Ex, node, Fo, bound, top, foreign, basis, fold_over, number, text, built, fn, fn_con, fn_guard, call, let_in, case_of, ascribed, fields_of, select, concat, without, without_row, folder, element, literal, sql, Its, no_items, with_term, with_con, with_guard, Nms, no_named, named, Los, no_locals, local_val, local_rec, Brs, no_branches, branch, Fds, no_fields, field, El, tagged, Ats, no_attributes, attribute, Xs, no_nodes, a_node, Exs, no_exps, an_exp}

-- a type: the same where it was written, else equal
abbrev pub SameType : Bool → Cn → Cn → Type 0
SameType true t u = t ≡ u
SameType false t u = Equal t u

-- a constructor of a call, by where it comes from
abbrev pub SameCon : ConOrigin → Cn → Cn → Type 0
SameCon Written c d = c ≡ d
SameCon Inserted c d = Equal c d
SameCon Wild c d = Equal c d

-- the field of an input
abbrev pub SameField : Option (Place × Cn) → Option (Place × Cn) → Type 0
SameField None None = Unit {0}
SameField (Some f) (Some g) = f.1 ≡ g.1
SameField _ _ = ⊥

abbrev mutual
  pub SamePattern : Pt → Pt → Type 0
  SamePattern (pattern p f) (pattern q g) = SamePatternForm f g

  pub SamePatternForm : Pf → Pf → Type 0
  SamePatternForm any any = Unit {0}
  SamePatternForm (binds x t) (binds y u) = (x ≡ y) × Equal t u
  SamePatternForm (is_number y) (is_number z) = y ≡ z
  SamePatternForm (is_text s) (is_text t) = s ≡ t
  SamePatternForm (is_bare s i) (is_bare t j) = (s ≡ t) × (i ≡ j)
  SamePatternForm (is_holding s i p) (is_holding t j q) = (s ≡ t) × (i ≡ j) × SamePattern p q
  SamePatternForm (has_fields fs m) (has_fields gs n) = (m ≡ n) × SamePatternFields fs gs
  SamePatternForm (annotated p t) (annotated q u) = (t ≡ u) × SamePattern p q
  SamePatternForm _ _ = ⊥

  pub SamePatternFields : Pfs → Pfs → Type 0
  SamePatternFields no_pat_fields no_pat_fields = Unit {0}
  SamePatternFields (pat_field p n x fs) (pat_field q m y gs) = (n ≡ m) × SamePattern x y × SamePatternFields fs gs
  SamePatternFields _ _ = ⊥

abbrev mutual
  pub SameTerm : Ex → Ex → Type 0
  SameTerm (node p a f) (node q b g) = (a ≡ b) × SameForm f g

  pub SameForm : Fo → Fo → Type 0
  SameForm (bound i) (bound j) = i ≡ j
  SameForm (top i) (top j) = i ≡ j
  SameForm (foreign i) (foreign j) = i ≡ j
  SameForm (basis b) (basis c) = b ≡ c
  SameForm (fold_over k) (fold_over l) = k ≡ l
  SameForm (number y) (number z) = y ≡ z
  SameForm (text s) (text t) = s ≡ t
  SameForm (built s i) (built t j) = (s ≡ t) × (i ≡ j)
  SameForm (fn q t e) (fn r u d) = SamePattern q r × Equal t u × SameTerm e d
  SameForm (fn_con x i w k e) (fn_con y j v l d) = (x ≡ y) × (i ≡ j) × (w ≡ v) × (k ≡ l) × SameTerm e d
  SameForm (fn_guard b c e) (fn_guard l r d) = (b ≡ l) × (c ≡ r) × SameTerm e d
  SameForm (call e s is) (call d g js) = SameTerm e d × (s ≡ g) × SameItems is js
  SameForm (let_in ls e) (let_in ms d) = SameLocals ls ms × SameTerm e d
  SameForm (case_of e p q x bs) (case_of d o r y cs) =
      SameTerm e d × SamePattern q r × SameTerm x y × SameBranches bs cs
  SameForm (ascribed e t) (ascribed d u) = SameTerm e d × (t ≡ u)
  SameForm (fields_of fs) (fields_of gs) = SameFields fs gs
  SameForm (select e c) (select d n) = SameTerm e d × (c ≡ n)
  SameForm (concat e x) (concat d y) = SameTerm e d × SameTerm x y
  SameForm (without e c) (without d n) = SameTerm e d × (c ≡ n)
  SameForm (without_row e c) (without_row d n) = SameTerm e d × (c ≡ n)
  SameForm (folder k ps) (folder l qs) = (k ≡ l) × EqualPairs ps qs
  SameForm (element m) (element n) = SameElement m n
  SameForm (literal c u xs) (literal d v ys) = Equal c d × Equal u v × SameNodes xs ys
  SameForm (sql k es) (sql l ds) = (k ≡ l) × SameTerms es ds
  SameForm _ _ = ⊥

  pub SameItems : Its → Its → Type 0
  SameItems no_items no_items = Unit {0}
  SameItems (with_term e is) (with_term d js) = SameTerm e d × SameItems is js
  SameItems (with_con p o c is) (with_con q a d js) = (o ≡ a) × SameCon o c d × SameItems is js
  SameItems (with_guard p a is) (with_guard q b js) = (a ≡ b) × SameItems is js
  SameItems _ _ = ⊥

  pub SameNames : Nms → Nms → Type 0
  SameNames no_named no_named = Unit {0}
  SameNames (named p x w t e ns) (named q y v u d ms) =
      (x ≡ y) × (w ≡ v) × SameType w t u × SameTerm e d × SameNames ns ms
  SameNames _ _ = ⊥

  pub SameLocals : Los → Los → Type 0
  SameLocals no_locals no_locals = Unit {0}
  SameLocals (local_val p x w t e ls) (local_val q y v u d ms) =
      (x ≡ y) × (w ≡ v) × SameType w t u × SameTerm e d × SameLocals ls ms
  SameLocals (local_rec ns ls) (local_rec ms os) = SameNames ns ms × SameLocals ls os
  SameLocals _ _ = ⊥

  pub SameBranches : Brs → Brs → Type 0
  SameBranches no_branches no_branches = Unit {0}
  SameBranches (branch p q e bs) (branch o r d cs) = SamePattern q r × SameTerm e d × SameBranches bs cs
  SameBranches _ _ = ⊥

  pub SameFields : Fds → Fds → Type 0
  SameFields no_fields no_fields = Unit {0}
  SameFields (field p n e fs) (field q m d gs) = (n ≡ m) × SameTerm e d × SameFields fs gs
  SameFields _ _ = ⊥

  pub SameElement : El → El → Type 0
  SameElement (tagged g n c u as' xs) (tagged k m d v bs ys) =
      (g ≡ k) × SameField n m × Equal c d × Equal u v × SameAttributes as' bs × SameNodes xs ys

  pub SameAttributes : Ats → Ats → Type 0
  SameAttributes no_attributes no_attributes = Unit {0}
  SameAttributes (attribute p n e as') (attribute q m d bs) = (n ≡ m) × SameTerm e d × SameAttributes as' bs
  SameAttributes _ _ = ⊥

  pub SameNodes : Xs → Xs → Type 0
  SameNodes no_nodes no_nodes = Unit {0}
  SameNodes (a_node c e xs) (a_node d x ys) = Equal c d × SameTerm e x × SameNodes xs ys
  SameNodes _ _ = ⊥

  pub SameTerms : Exs → Exs → Type 0
  SameTerms no_exps no_exps = Unit {0}
  SameTerms (an_exp e es) (an_exp d ds) = SameTerm e d × SameTerms es ds
  SameTerms _ _ = ⊥
