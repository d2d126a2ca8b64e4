-- Steps of the recursions and loops that give shapes.
use Rattle.std.proofs.Common.{◌≡◌, ℕ, zero, suc, ◌+◌, ◌-◌, ◌<◌, ◌≤◌, List, [], ◌∷◌, ◌++◌, length, map, get_or, drop, Option, Some, None, option_map, slice_get, rules, refl, ap, sym, ◌∙◌, arith, drop-cons, drop_of_length-le}
use Rattle.std.proofs.lemmas.List.{append_assoc, append-nil, map-append}
use Rattle.con_terms.specs.Trees.{Cn, con_list}
use Rattle.con_terms.specs.View.{con_tree, cons_from}
use Rattle.con_terms.specs.declared.con.Con.{Con}
use Rattle.con_terms.proofs.Lists.{con_list_from}
use Rattle.table_rows.specs.Shapes.{Sh, Cases}
use Rattle.table_rows.specs.Shapes.{a_data}
use Rattle.table_rows.specs.View.{shape_tree, maybe_shape, case_view, shapes_from}
use Rattle.table_rows.specs.declared.shape.Shape.TheVariants.{Data}
use Rattle.table_rows.specs.declared.shape.Shape.TheViews.{roll-Arguments}
use Rattle.table_rows.specs.declared.shape.Shape.TheFolds.{the_lemmas}
use Rattle.std.specs.Global.{Vec}
use Rattle.site_routes.specs.View.{maybe_shapes}
use Rattle.table_rows.specs.declared.shape.Shape.{Shape}
use Rattle.table_rows.specs.declared.shape.Case.{Case}
use Rattle.core_terms.specs.Trees.{Cd, Dt}
use Rattle.core_terms.specs.View.{maybe_con, constructor_view}
use Rattle.core_terms.specs.declared.decl.Constructor.{Constructor}
use Rattle.core_typing.specs.Scopes.{normal_of}
use Rattle.site_routes.specs.Shaping.{Told, told_map, then_shapes, shapes_by, type_by, normal_by, shaped, case_by, held_by, then_cases, cases_by}

-- a type, one level down
pub shaped_step : (room : ℕ) (names : List (List ℕ)) (ds : List Dt) (k : ℕ) (t : Cn) → 0 < room →
    shaped room names ds k t ≡ type_by (shaped (room - 1) names ds k) names ds k (normal_of t)
unfolding shaped
shaped_step zero names ds k t h = absurd (omega arith)
shaped_step (suc r) names ds k t h = ap (λ n. type_by (shaped n names ds k) names ds k (normal_of t)) (let p : r ≡ suc r - 1 = omega arith in p)

pub shaped_more : (r : ℕ) (names : List (List ℕ)) (ds : List Dt) (k : ℕ) (t : Cn) → shaped (suc r) names ds k t ≡ type_by (shaped r names ds k) names ds k (normal_of t)
unfolding shaped
shaped_more r names ds k t = refl

pub shaped_none : (names : List (List ℕ)) (ds : List Dt) (k : ℕ) (t : Cn) (o : Option Sh) → shaped zero names ds k t ≡ Some o → ⊥
unfolding shaped
shaped_none names ds k t o h = cc

pub shaped_nowhere : (room : ℕ) (names : List (List ℕ)) (ds : List Dt) (k : ℕ) (t : Cn) (o : Option Con) → 0 < room → maybe_con o ≡ normal_of t → o ≡ None →
    shaped room names ds k t ≡ Some None
shaped_nowhere room names ds k t o h e n = shaped_step room names ds k t h ∙ ap (type_by (shaped (room - 1) names ds k) names ds k) (sym e ∙ ap maybe_con n)

pub shaped_within : (room : ℕ) (names : List (List ℕ)) (ds : List Dt) (k : ℕ) (t : Cn) (o : Option Con) (n : Con) (r : Option Sh) → 0 < room → maybe_con o ≡ normal_of t → o ≡ Some n →
    normal_by (shaped (room - 1) names ds k) names ds k (con_tree n) ≡ Some r → shaped room names ds k t ≡ Some r
shaped_within room names ds k t o n r h e s p = shaped_step room names ds k t h ∙ ap (type_by (shaped (room - 1) names ds k) names ds k) (sym e ∙ ap maybe_con s) ∙ p

-- shapes, one after another
abbrev pub behind : {A : Type 0} → List A → Told (List A) → Told (List A)
behind xs o = told_map (λ more. xs ++ more) o

pub open_at : {X : Type 0} (xs : List X) (i : ℕ) (x : X) → x ≡ get_or xs i x → i < length xs → drop i xs ≡ x ∷ drop (i + 1) xs
open_at xs i x e h = drop-cons xs i x h ∙ ap (λ y. y ∷ drop (suc i) xs) (sym e) ∙ ap (λ n. x ∷ drop n xs) (let p : suc i ≡ i + 1 = omega arith in p)

pub cons_next : (xs : List Con) (i : ℕ) (x : Con) → x ≡ get_or xs i x → i < length xs →
    con_list (cons_from (map con_tree (drop i xs))) ≡ con_tree x ∷ con_list (cons_from (map con_tree (drop (i + 1) xs)))
cons_next xs i x e h = ap (λ ys. con_list (cons_from (map con_tree ys))) (open_at xs i x e h)

behind_last : {A : Type 0} (xs : List A) (x : A) (o : Told (List A)) → behind (xs ++ x ∷ []) o ≡ behind xs (told_map (λ more. x ∷ more) o)
behind_last xs x None = refl
behind_last xs x (Some None) = refl
behind_last xs x (Some (Some more)) = ap (λ z. Some (Some z)) (append_assoc xs (x ∷ []) more)

shapes_next : (f : Cn → Told Sh) (items : List Sh) (s : Sh) (t : Cn) (ts : List Cn) (all : Told (List Sh)) → f t ≡ Some (Some s) →
    behind items (shapes_by f (t ∷ ts)) ≡ all → behind (items ++ s ∷ []) (shapes_by f ts) ≡ all
shapes_next f items s t ts all e h = behind_last items s (shapes_by f ts) ∙ ap (λ o. behind items (then_shapes o (shapes_by f ts))) (sym e) ∙ h

pub shapes_on : (f : Cn → Told Sh) (xs : List Con) (i : ℕ) (x : Con) (old new : List Shape) (s : Shape) (all : Told (List Sh)) → x ≡ get_or xs i x → i < length xs →
    f (con_tree x) ≡ Some (Some (shape_tree s)) → new ≡ old ++ s ∷ [] →
    behind (map shape_tree old) (shapes_by f (con_list (cons_from (map con_tree (drop i xs))))) ≡ all →
    behind (map shape_tree new) (shapes_by f (con_list (cons_from (map con_tree (drop (i + 1) xs))))) ≡ all
shapes_on f xs i x old new s all e h p n k =
    ap (λ ys. behind ys (shapes_by f (con_list (cons_from (map con_tree (drop (i + 1) xs)))))) (ap (map shape_tree) n ∙ map-append shape_tree old (s ∷ []))
    ∙ shapes_next f (map shape_tree old) (shape_tree s) (con_tree x) (con_list (cons_from (map con_tree (drop (i + 1) xs)))) all p
    (ap (λ ts. behind (map shape_tree old) (shapes_by f ts)) (sym (cons_next xs i x e h)) ∙ k)

pub shapes_stop : (f : Cn → Told Sh) (xs : List Con) (i : ℕ) (x : Con) (old : List Sh) (all : Told (List Sh)) → x ≡ get_or xs i x → i < length xs →
    f (con_tree x) ≡ Some None →
    behind old (shapes_by f (con_list (cons_from (map con_tree (drop i xs))))) ≡ all → all ≡ Some None
shapes_stop f xs i x old all e h p k =
    sym k ∙ ap (λ ts. behind old (shapes_by f ts)) (cons_next xs i x e h)
    ∙ ap (λ o. behind old (then_shapes o (shapes_by f (con_list (cons_from (map con_tree (drop (i + 1) xs))))))) p

pub shapes_end : (f : Cn → Told Sh) (xs : List Con) (i : ℕ) (old : List Sh) (all : Told (List Sh)) → length xs ≤ i →
    behind old (shapes_by f (con_list (cons_from (map con_tree (drop i xs))))) ≡ all → all ≡ Some (Some old)
shapes_end f xs i old all h k =
    sym k ∙ ap (λ ys. behind old (shapes_by f (con_list (cons_from (map con_tree ys))))) (drop_of_length-le xs h)
    ∙ ap (λ z. Some (Some z)) (append-nil old)

-- cases, one after another
cases_next : (f : Cn → Told Sh) (names : List (List ℕ)) (items : Cases) (s : List ℕ × Option Sh) (c : Cd) (cs : List Cd) (all : Told Cases) →
    case_by (slice_get names c.name) (held_by f c.holds) ≡ Some (Some s) →
    behind items (cases_by f names (c ∷ cs)) ≡ all → behind (items ++ s ∷ []) (cases_by f names cs) ≡ all
cases_next f names items s c cs all e h = behind_last items s (cases_by f names cs) ∙ ap (λ o. behind items (then_cases o (cases_by f names cs))) (sym e) ∙ h

pub cases_on : (f : Cn → Told Sh) (names : List (List ℕ)) (xs : List Constructor) (i : ℕ) (x : Constructor) (old new : List Case) (s : Case) (all : Told Cases) → x ≡ get_or xs i x → i < length xs →
    case_by (slice_get names (constructor_view x).name) (held_by f (constructor_view x).holds) ≡ Some (Some (case_view s)) → new ≡ old ++ s ∷ [] →
    behind (map case_view old) (cases_by f names (map constructor_view (drop i xs))) ≡ all →
    behind (map case_view new) (cases_by f names (map constructor_view (drop (i + 1) xs))) ≡ all
cases_on f names xs i x old new s all e h p n k =
    ap (λ ys. behind ys (cases_by f names (map constructor_view (drop (i + 1) xs)))) (ap (map case_view) n ∙ map-append case_view old (s ∷ []))
    ∙ cases_next f names (map case_view old) (case_view s) (constructor_view x) (map constructor_view (drop (i + 1) xs)) all p
    (ap (λ ys. behind (map case_view old) (cases_by f names (map constructor_view ys))) (sym (open_at xs i x e h)) ∙ k)

pub cases_stop : (f : Cn → Told Sh) (names : List (List ℕ)) (xs : List Constructor) (i : ℕ) (x : Constructor) (old : Cases) (all : Told Cases) → x ≡ get_or xs i x → i < length xs →
    case_by (slice_get names (constructor_view x).name) (held_by f (constructor_view x).holds) ≡ Some None →
    behind old (cases_by f names (map constructor_view (drop i xs))) ≡ all → all ≡ Some None
cases_stop f names xs i x old all e h p k =
    sym k ∙ ap (λ ys. behind old (cases_by f names (map constructor_view ys))) (open_at xs i x e h)
    ∙ ap (λ o. behind old (then_cases o (cases_by f names (map constructor_view (drop (i + 1) xs))))) p

pub cases_end : (f : Cn → Told Sh) (names : List (List ℕ)) (xs : List Constructor) (i : ℕ) (old : Cases) (all : Told Cases) → length xs ≤ i →
    behind old (cases_by f names (map constructor_view (drop i xs))) ≡ all → all ≡ Some (Some old)
cases_end f names xs i old all h k =
    sym k ∙ ap (λ ys. behind old (cases_by f names (map constructor_view ys))) (drop_of_length-le xs h)
    ∙ ap (λ z. Some (Some z)) (append-nil old)

-- a datatype's shape
data_tree : (i : ℕ) (v : Vec Shape) → shape_tree (Data i (roll-Arguments (record { items = v }))) ≡ a_data i (shapes_from (map shape_tree v.items))
data_tree i v = search (rules, the_lemmas)

pub data_told : (i : ℕ) {o : Told (List Sh)} (x : Option (Vec Shape)) (v : Vec Shape) → o ≡ Some (maybe_shapes x) → x ≡ Some v →
    told_map (λ ss. a_data i (shapes_from ss)) o ≡ Some (Some (shape_tree (Data i (roll-Arguments (record { items = v })))))
data_told i x v e h = ap (told_map (λ ss. a_data i (shapes_from ss))) (e ∙ ap (λ z. Some (maybe_shapes z)) h) ∙ ap (λ z. Some (Some z)) (sym (data_tree i v))
