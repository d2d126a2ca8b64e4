-- What is left of lists, one element after another.
use Rattle.std.proofs.Common.{◌≡◌, ℕ, zero, suc, ◌+◌, ◌<◌, ◌≤◌, List, [], ◌∷◌, ◌++◌, length, map, drop, Option, Some, None, slice_get, refl, ap, sym, subst, ◌∙◌, arith, drop_of_length-le, append_assoc, append-nil}
use Rattle.con_terms.specs.Trees.{Cn}
use Rattle.con_terms.specs.declared.place.Place.{Place}
use Rattle.core_terms.specs.Trees.{Ex, It, Lo, Nms, no_named, named, Los, no_locals, local_val, local_rec, Brs, no_branches, branch}
use Rattle.core_terms.specs.Lists.{name_list, local_list, branch_list}
use Rattle.core_terms.specs.View.{FieldTree, NamedTree, BranchTree, named_from, locals_from, with_local, branches_from}
use Rattle.core_typing.specs.Scopes.{Sc}
use Rattle.core_typing.specs.Typed.{named_types}
use Rattle.told_faults.specs.Computed.{Jd}
use Rattle.match_cover.proofs.Fields.{one_less as opened}
use Rattle.node_rules.specs.Calls.{Pa}
use Rattle.node_rules.specs.Locals.{Ls}
use Rattle.node_rules.specs.Records.{Rw}
use Rattle.pattern_rules.specs.Matching.{Cs}
use Rattle.judged_terms.specs.Listed.{part_at, item_found, items_found, field_found, fields_found, name_found, names_found}
use Rattle.judged_terms.specs.Judge.{PartJudges, JudgesAll, LocalsJudge, BranchesJudge}

-- the parts of a list
pub part_some : {X : Type 0} (f : X → Option Ex) (xs : List X) (i : ℕ) (x : X) → slice_get xs i ≡ Some x → part_at (map f xs) i ≡ f x
part_some f [] i x e = absurd (let p : ⊥ = cc in p)
part_some f (y ∷ xs) zero x e = ap f (let p : y ≡ x = cc in p)
part_some f (y ∷ xs) (suc i) x e = part_some f xs i x e

pub part_none : {X : Type 0} (f : X → Option Ex) (xs : List X) (i : ℕ) → length xs ≤ i → part_at (map f xs) i ≡ None
part_none f [] i h = refl
part_none f (y ∷ xs) zero h = absurd (let p : ⊥ = omega (arith, h) in p)
part_none f (y ∷ xs) (suc i) h = part_none f xs i (omega (arith, h))

all_drop : (G : Sc) (os : List (Option Ex)) (i : ℕ) (j : Jd) (js : List Jd) → i < length os → PartJudges G (part_at os i) j → JudgesAll G (drop (suc i) os) js → JudgesAll G (drop i os) (j ∷ js)
all_drop G [] i j js l h a = absurd (let p : ⊥ = omega (arith, l) in p)
all_drop G (o ∷ os) zero j js l h a = (h, a)
all_drop G (o ∷ os) (suc i) j js l h a = all_drop G os i j js (omega (arith, l)) h a

pub parts_step : (G : Sc) (os : List (Option Ex)) (i : ℕ) (past more : List Jd) (j : Jd) → i < length os → PartJudges G (part_at os i) j → more ≡ past ++ j ∷ [] → ((js : List Jd) → JudgesAll G (drop i os) js → JudgesAll G os (past ++ js)) → (js : List Jd) → JudgesAll G (drop (i + 1) os) js → JudgesAll G os (more ++ js)
parts_step G os i past more j l h e go js a =
    subst (λ (z : List Jd). JudgesAll G os z) (sym (ap (λ z. z ++ js) e ∙ append_assoc past (j ∷ []) js))
    (go (j ∷ js) (all_drop G os i j js l h (subst (λ (n : ℕ). JudgesAll G (drop n os) js) (let p : i + 1 ≡ suc i = omega arith in p) a)))

pub parts_end : (G : Sc) (os : List (Option Ex)) (i : ℕ) (past : List Jd) → length os ≤ i → ((js : List Jd) → JudgesAll G (drop i os) js → JudgesAll G os (past ++ js)) → JudgesAll G os past
parts_end G os i past h go =
    subst (λ (z : List Jd). JudgesAll G os z) (append-nil past)
    (go [] (subst (λ (z : List (Option Ex)). JudgesAll G z []) (sym (drop_of_length-le os h)) refl))

-- items, fields and names
pub items_step : (G : Sc) (p : Place) (j : Jd) (js : List Jd) (is : List It) (i : ℕ) (x : It) (r : Pa) → slice_get is i ≡ Some x → items_found G p (j ∷ js) (drop i is) r ≡ items_found G p js (drop (i + 1) is) (item_found G p x j r)
items_step G p j js is i x r e = ap (λ ys. items_found G p (j ∷ js) ys r) (opened is i x e)

pub items_end : (G : Sc) (p : Place) (j : Jd) (js : List Jd) (is : List It) (i : ℕ) (r : Pa) → length is ≤ i → items_found G p (j ∷ js) (drop i is) r ≡ r
items_end G p j js is i r h = ap (λ ys. items_found G p (j ∷ js) ys r) (drop_of_length-le is h)

pub fields_step : (G : Sc) (j : Jd) (js : List Jd) (fs : List FieldTree) (i : ℕ) (x : FieldTree) (r : Rw) → slice_get fs i ≡ Some x → fields_found G (j ∷ js) (drop i fs) r ≡ fields_found G js (drop (i + 1) fs) (field_found G x j r)
fields_step G j js fs i x r e = ap (λ ys. fields_found G (j ∷ js) ys r) (opened fs i x e)

pub fields_end : (G : Sc) (j : Jd) (js : List Jd) (fs : List FieldTree) (i : ℕ) (r : Rw) → length fs ≤ i → fields_found G (j ∷ js) (drop i fs) r ≡ r
fields_end G j js fs i r h = ap (λ ys. fields_found G (j ∷ js) ys r) (drop_of_length-le fs h)

pub names_step : (G : Sc) (j : Jd) (js : List Jd) (ns : List NamedTree) (i : ℕ) (x : NamedTree) (r : Ls) → slice_get ns i ≡ Some x → names_found G (j ∷ js) (drop i ns) r ≡ names_found G js (drop (i + 1) ns) (name_found G x j r)
names_step G j js ns i x r e = ap (λ ys. names_found G (j ∷ js) ys r) (opened ns i x e)

pub names_end : (G : Sc) (j : Jd) (js : List Jd) (ns : List NamedTree) (i : ℕ) (r : Ls) → length ns ≤ i → names_found G (j ∷ js) (drop i ns) r ≡ r
names_end G j js ns i r h = ap (λ ys. names_found G (j ∷ js) ys r) (drop_of_length-le ns h)

-- the types of names
names_rebuilt : (ns : Nms) → named_from (name_list ns) ≡ ns
names_rebuilt no_named = refl
names_rebuilt (named p x w t e ns) = ap (named p x w t e) (names_rebuilt ns)

pub types_start : (ns : Nms) → named_types (named_from (drop 0 (name_list ns))) ≡ named_types ns
types_start ns = ap named_types (names_rebuilt ns)

pub types_step : (ns : List NamedTree) (i : ℕ) (x : NamedTree) (L : List Cn) → slice_get ns i ≡ Some x → named_types (named_from (drop i ns)) ++ L ≡ named_types (named_from (drop (i + 1) ns)) ++ x.3 ∷ L
types_step ns i x L e =
    ap (λ ys. named_types (named_from ys) ++ L) (opened ns i x e) ∙ append_assoc (named_types (named_from (drop (i + 1) ns))) (x.3 ∷ []) L

pub types_end : (ns : List NamedTree) (i : ℕ) (L : List Cn) → length ns ≤ i → named_types (named_from (drop i ns)) ++ L ≡ L
types_end ns i L h = ap (λ ys. named_types (named_from ys) ++ L) (drop_of_length-le ns h)

-- the declarations of a let
locals_rebuilt : (ls : Los) → locals_from (local_list ls) ≡ ls
locals_rebuilt no_locals = refl
locals_rebuilt (local_val p x w t e ls) = ap (local_val p x w t e) (locals_rebuilt ls)
locals_rebuilt (local_rec ns ls) = ap (local_rec ns) (locals_rebuilt ls)

pub locals_start : (ls : Los) (G A : Sc) (r a : Ls) → A ≡ G → a ≡ r → (H : Sc) (u : Ls) → LocalsJudge A a (locals_from (drop 0 (local_list ls))) H u → LocalsJudge G r ls H u
locals_start ls G A r a h k H u x =
    subst (λ (z : Los). LocalsJudge G r z H u) (locals_rebuilt ls)
    (subst (λ (z : Ls). LocalsJudge G z (locals_from (local_list ls)) H u) k
    (subst (λ (z : Sc). LocalsJudge z a (locals_from (local_list ls)) H u) h x))

pub locals_step : (ls : List Lo) (i : ℕ) (x : Lo) (G A B : Sc) (r a b : Ls) (all : Los) → slice_get ls i ≡ Some x → ((rest : Los) (H : Sc) (u : Ls) → LocalsJudge B b rest H u → LocalsJudge A a (with_local x rest) H u) → ((H : Sc) (u : Ls) → LocalsJudge A a (locals_from (drop i ls)) H u → LocalsJudge G r all H u) → (H : Sc) (u : Ls) → LocalsJudge B b (locals_from (drop (i + 1) ls)) H u → LocalsJudge G r all H u
locals_step ls i x G A B r a b all e step before H u y =
    before H u (subst (λ (ys : List Lo). LocalsJudge A a (locals_from ys) H u) (sym (opened ls i x e)) (step (locals_from (drop (i + 1) ls)) H u y))

pub locals_end : (ls : List Lo) (i : ℕ) (G A : Sc) (r a : Ls) (all : Los) → length ls ≤ i → ((H : Sc) (u : Ls) → LocalsJudge A a (locals_from (drop i ls)) H u → LocalsJudge G r all H u) → LocalsJudge G r all A a
locals_end ls i G A r a all h before =
    before A a (subst (λ (ys : List Lo). LocalsJudge A a (locals_from ys) A a) (sym (drop_of_length-le ls h)) (refl, refl))

-- the branches of a case
branches_rebuilt : (bs : Brs) → branches_from (branch_list bs) ≡ bs
branches_rebuilt no_branches = refl
branches_rebuilt (branch p q e bs) = ap (branch p q e) (branches_rebuilt bs)

pub branches_start : (G : Sc) (t : Cn) (bs : Brs) (c : Cs) (d : Cs) → BranchesJudge G t (branches_from (drop 0 (branch_list bs))) c d → BranchesJudge G t bs c d
branches_start G t bs c d x = subst (λ (z : Brs). BranchesJudge G t z c d) (branches_rebuilt bs) x

pub branches_step : (G : Sc) (t : Cn) (bs : List BranchTree) (i : ℕ) (x : BranchTree) (c a b : Cs) (all : Brs) → slice_get bs i ≡ Some x → ((rest : Brs) (d : Cs) → BranchesJudge G t rest b d → BranchesJudge G t (branch x.0 x.1 x.2 rest) a d) → ((d : Cs) → BranchesJudge G t (branches_from (drop i bs)) a d → BranchesJudge G t all c d) → (d : Cs) → BranchesJudge G t (branches_from (drop (i + 1) bs)) b d → BranchesJudge G t all c d
branches_step G t bs i x c a b all e step before d y =
    before d (subst (λ (ys : List BranchTree). BranchesJudge G t (branches_from ys) a d) (sym (opened bs i x e)) (step (branches_from (drop (i + 1) bs)) d y))

pub branches_end : (G : Sc) (t : Cn) (bs : List BranchTree) (i : ℕ) (c a : Cs) (all : Brs) → length bs ≤ i → ((d : Cs) → BranchesJudge G t (branches_from (drop i bs)) a d → BranchesJudge G t all c d) → BranchesJudge G t all c a
branches_end G t bs i c a all h before =
    before a (subst (λ (ys : List BranchTree). BranchesJudge G t (branches_from ys) a a) (sym (drop_of_length-le bs h)) refl)
