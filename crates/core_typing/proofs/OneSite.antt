-- The entries and routes of an accepted program are one.
use Rattle.std.proofs.Common.{◌≡◌, ℕ, zero, suc, Bool, true, false, List, [], ◌∷◌, ◌++◌, map, Option, Some, None, slice_get, refl, ap, sym, ◌∙◌}
use Rattle.std.specs.Prelude.{Ok}
use Rattle.con_terms.specs.Trees.{Kd, Cn, arrow}
use Rattle.table_rows.specs.Shapes.{Sh, Shs, shape, Cases}
use Rattle.link_router.specs.Calls.{Ent, Rts}
use Rattle.row_normal.specs.NormalForm.{nf}
use Rattle.kind_rules.specs.Compared.{comparison_units, with_first, with_second}
use Rattle.core_terms.specs.Trees.{Dt, Pg}
use Rattle.core_terms.specs.Types.{transaction_of, page_type}
use Rattle.core_typing.specs.Scopes.{normal_of, basis_kinds, datatype_kinds, folder_kinds}
use Rattle.core_typing.specs.Compared.{Alike}
use Rattle.core_typing.specs.Declarations.{Value, values, Distinct}
use Rattle.core_typing.specs.Entries.{all_datatypes, value_name, TakesToPage, no_argument, an_argument, TakesFormToPage, form_last, form_behind, IsEntry, by_export, by_link, by_action, EntriesFrom, no_values, neither, get_alone, post_alone, get_and_post, entries_of, RoutesOf}
use Rattle.core_typing.specs.Accepts.{Accepts, Formed}
use Rattle.core_typing.proofs.OneShape.{OnePlace, one_shape, one_shape_each}
use Rattle.core_typing.proofs.SiteRoutes.{distinct_places}

pub some_is : {X : Type 0} {x y : X} → Some x ≡ Some y → x ≡ y
some_is e = cc

-- the action of a page is its own normal form
page_form : (left : ℕ) (r : Cn × ℕ) → nf left (transaction_of page_type) ≡ Some r → transaction_of page_type ≡ r.0
page_form zero r e = cc
page_form (suc left) r e = ap (λ (z : Cn × ℕ). z.0) (some_is e)

second_form : (m form : Cn) (o : Option (Cn × ℕ)) → ((r : Cn × ℕ) → o ≡ Some r → transaction_of page_type ≡ r.0) → with_second m o ≡ Ok (form, form) → m ≡ transaction_of page_type
second_form m form None h e = cc
second_form m form (Some n) h e =
    let both : ◌≡◌ {A = Cn × Cn} (m, n.0) (form, form) = cc in
    ap (λ (z : Cn × Cn). z.0) both ∙ sym (ap (λ (z : Cn × Cn). z.1) both) ∙ sym (h n refl)

first_form : (form : Cn) (o : Option (Cn × ℕ)) → with_first o (transaction_of page_type) ≡ Ok (form, form) → elim o [ None ↦ None | Some r ↦ Some r.0 ] ≡ Some (transaction_of page_type)
first_form form None e = cc
first_form form (Some m) e = ap (λ c. Some c) (second_form m.0 form (nf m.1 (transaction_of page_type)) (page_form m.1) e)

alike_page : {t : Cn} → Alike t (transaction_of page_type) → normal_of t ≡ Some (transaction_of page_type)
alike_page {t} a = first_form a.form (nf comparison_units t) a.forms

-- no function is such an action
no_function : {P : Type 0} {t u a b : Cn} → t ≡ u → Alike t (transaction_of page_type) → normal_of u ≡ Some (arrow a b) → P
no_function {a = a} {b = b} q h g = let both : Some (transaction_of page_type) ≡ Some (arrow a b) = sym (alike_page h) ∙ ap normal_of q ∙ g in cc

one_arrow : {t u a b c d : Cn} → t ≡ u → normal_of t ≡ Some (arrow a b) → normal_of u ≡ Some (arrow c d) → (a ≡ c) × (b ≡ d)
one_arrow {a = a} {b = b} {c = c} {d = d} q h g = let both : Some (arrow a b) ≡ Some (arrow c d) = sym h ∙ ap normal_of q ∙ g in (left both, right both)
  where
    left : {a b c d : Cn} → Some (arrow a b) ≡ Some (arrow c d) → a ≡ c
    left e = cc

    right : {a b c d : Cn} → Some (arrow a b) ≡ Some (arrow c d) → b ≡ d
    right e = cc

-- the arguments of a function are of one list of shapes
takes_one : {p : Pg} {t u : Cn} {ss rs : Shs} → OnePlace (all_datatypes p) → TakesToPage p t ss → TakesToPage p u rs → t ≡ u → ss ≡ rs
takes_one o (no_argument h) (no_argument g) q = refl
takes_one o (no_argument h) (an_argument e c s r) q = no_function q h e
takes_one o (an_argument e c s r) (no_argument h) q = no_function (sym q) h e
takes_one o (an_argument {ss = ss} e c s r) (an_argument {s = y} f d z k) q =
    let (here, rest) = one_arrow q e f in
    ap (λ x. shape x ss) (one_shape o s z here) ∙ ap (shape y) (takes_one o r k rest)

is_function : {p : Pg} {t : Cn} {ss : Shs} {f : Sh} → TakesFormToPage p t ss f → (a : Cn) × (b : Cn) × (normal_of t ≡ Some (arrow a b))
is_function (form_last {a = a} {b = b} e g s h) = (a, b, e)
is_function (form_behind {a = a} {b = b} e c s r) = (a, b, e)

no_form_behind : {P : Type 0} {p : Pg} {t u : Cn} {ss : Shs} {f : Sh} → t ≡ u → Alike t (transaction_of page_type) → TakesFormToPage p u ss f → P
no_form_behind q h r = let (a, b, e) = is_function r in no_function q h e

form_one : {p : Pg} {t u : Cn} {ss rs : Shs} {f g : Sh} → OnePlace (all_datatypes p) → TakesFormToPage p t ss f → TakesFormToPage p u rs g → t ≡ u → (ss ≡ rs) × (f ≡ g)
form_one o (form_last e c s h) (form_last f d z k) q = (refl, one_shape o s z (one_arrow q e f).0)
form_one o (form_last e c s h) (form_behind f d z r) q = no_form_behind (one_arrow q e f).1 h r
form_one o (form_behind e c s r) (form_last f d z k) q = no_form_behind (sym (one_arrow q e f).1) k r
form_one o (form_behind {ss = ss} e c s r) (form_behind {s = y} f d z k) q =
    let (here, rest) = one_arrow q e f in
    let (more, last) = form_one o r k rest in
    (ap (λ x. shape x ss) (one_shape o s z here) ∙ ap (shape y) more, last)

-- a value has one entry by each method
abbrev entry_for : Pg → Value → Shs → Option Sh → Ent
entry_for p v ss f = record { name = value_name p v; arguments = ss; form = f }

same_value : (p : Pg) (i : ℕ) {v w : Value} → slice_get (values p.decls) i ≡ Some v → slice_get (values p.decls) i ≡ Some w → v ≡ w
same_value p i h g = some_is (sym h ∙ g)

get_one : (p : Pg) (i : ℕ) {v w : Value} {ss rs : Shs} → OnePlace (all_datatypes p) → slice_get (values p.decls) i ≡ Some v → slice_get (values p.decls) i ≡ Some w → TakesToPage p v.con ss → TakesToPage p w.con rs → entry_for p v ss None ≡ entry_for p w rs None
get_one p i {v = v} {w = w} {ss = ss} o h g a b =
    let same : v ≡ w = same_value p i h g in
    ap (λ (x : Value). entry_for p x ss None) same ∙ ap (λ xs. entry_for p w xs None) (takes_one o a b (ap (λ (x : Value). x.con) same))

post_one : (p : Pg) (i : ℕ) {v w : Value} {ss rs : Shs} {f g : Sh} → OnePlace (all_datatypes p) → slice_get (values p.decls) i ≡ Some v → slice_get (values p.decls) i ≡ Some w → TakesFormToPage p v.con ss f → TakesFormToPage p w.con rs g → entry_for p v ss (Some f) ≡ entry_for p w rs (Some g)
post_one p i {v = v} {w = w} {ss = ss} {rs = rs} {f = f} o h g a b =
    let same : v ≡ w = same_value p i h g in
    let (more, last) = form_one o a b (ap (λ (x : Value). x.con) same) in
    ap (λ (x : Value). entry_for p x ss (Some f)) same ∙ ap (λ xs. entry_for p w xs (Some f)) more ∙ ap (λ x. entry_for p w rs (Some x)) last

entry_one : {p : Pg} {i : ℕ} {post : Bool} {e d : Ent} → OnePlace (all_datatypes p) → IsEntry p i post e → IsEntry p i post d → e ≡ d
entry_one {p = p} {i = i} o (by_export h c a) (by_export g k b) = get_one p i o h g a b
entry_one {p = p} {i = i} o (by_export h c a) (by_link g k b) = get_one p i o h g a b
entry_one {p = p} {i = i} o (by_link h c a) (by_export g k b) = get_one p i o h g a b
entry_one {p = p} {i = i} o (by_link h c a) (by_link g k b) = get_one p i o h g a b
entry_one {p = p} {i = i} o (by_action h c a) (by_action g k b) = post_one p i o h g a b

one_list : {p : Pg} {i : ℕ} {vs : List Value} {xs ys : List (ℕ × Ent)} → OnePlace (all_datatypes p) → EntriesFrom p i vs xs → EntriesFrom p i vs ys → xs ≡ ys
one_list o no_values no_values = refl
one_list o (neither n r) (neither m t) = one_list o r t
one_list o (neither n r) (get_alone g m t) = absurd (n false _ g)
one_list o (neither n r) (post_alone m g t) = absurd (n true _ g)
one_list o (neither n r) (get_and_post g l t) = absurd (n false _ g)
one_list o (get_alone h n r) (neither m t) = absurd (m false _ h)
one_list {i = i} o (get_alone {rest = rest} h n r) (get_alone {e = d} g m t) = ap (λ x. (i, x) ∷ rest) (entry_one o h g) ∙ ap (λ xs. (i, d) ∷ xs) (one_list o r t)
one_list o (get_alone h n r) (post_alone m g t) = absurd (m _ h)
one_list o (get_alone h n r) (get_and_post g l t) = absurd (n _ l)
one_list o (post_alone n h r) (neither m t) = absurd (m true _ h)
one_list o (post_alone n h r) (get_alone g m t) = absurd (n _ g)
one_list {i = i} o (post_alone {rest = rest} n h r) (post_alone {e = d} m g t) = ap (λ x. (i, x) ∷ rest) (entry_one o h g) ∙ ap (λ xs. (i, d) ∷ xs) (one_list o r t)
one_list o (post_alone n h r) (get_and_post g l t) = absurd (n _ g)
one_list o (get_and_post h k r) (neither m t) = absurd (m false _ h)
one_list o (get_and_post h k r) (get_alone g m t) = absurd (m _ k)
one_list o (get_and_post h k r) (post_alone m g t) = absurd (m _ h)
one_list {i = i} o (get_and_post {d = d} {rest = rest} h k r) (get_and_post {e = x} {d = y} g l t) =
    ap (λ z. (i, z) ∷ (i, d) ∷ rest) (entry_one o h g) ∙ ap (λ z. (i, x) ∷ (i, z) ∷ rest) (entry_one o k l) ∙ ap (λ xs. (i, x) ∷ (i, y) ∷ xs) (one_list o r t)

-- no two datatypes of a program are one
behind : (bs rest : List (ℕ × Kd)) → Distinct (map (λ (b : ℕ × Kd). b.0) (bs ++ rest)) → Distinct (map (λ (b : ℕ × Kd). b.0) rest)
behind [] rest h = h
behind (b ∷ bs) rest h = behind bs rest h.1

symbol_at : (ds : List Dt) (fs : List (ℕ × Kd)) (i : ℕ) (d : Dt) → slice_get ds i ≡ Some d → slice_get (map (λ (b : ℕ × Kd). b.0) (datatype_kinds ds ++ fs)) i ≡ Some d.symbol
symbol_at [] fs i d e = cc
symbol_at (x ∷ xs) fs zero d e = ap (λ (y : Dt). Some y.symbol) (some_is e)
symbol_at (x ∷ xs) fs (suc i) d e = symbol_at xs fs i d e

pub one_place : (p : Pg) → Formed p → OnePlace (all_datatypes p)
one_place p w i j d h g =
    let fs = folder_kinds p.folders in
    distinct_places (map (λ (b : ℕ × Kd). b.0) (datatype_kinds (all_datatypes p) ++ fs)) (behind basis_kinds (datatype_kinds (all_datatypes p) ++ fs) w.symbols) i j d.symbol
    (symbol_at (all_datatypes p) fs i d h) (symbol_at (all_datatypes p) fs j d g)

same_routes : (r s : Rts) → r.datatypes ≡ s.datatypes → r.entries ≡ s.entries → r ≡ s
same_routes r s d e =
    let by_datatypes : r ≡ record { datatypes = s.datatypes; entries = r.entries } = ap (λ (x : List Cases). record { datatypes = x; entries = r.entries }) d in
    let by_entries : record { datatypes = s.datatypes; entries = r.entries } ≡ s = ap (λ (x : List Ent). record { datatypes = s.datatypes; entries = x }) e in
    by_datatypes ∙ by_entries

pub one_site : (p : Pg) (routes others : Rts) (callees numbers : List ℕ) → Accepts p → RoutesOf p routes callees → RoutesOf p others numbers → (routes ≡ others) × (callees ≡ numbers)
one_site p routes others callees numbers a r s =
    let o = one_place p a.formed in
    let listed : r.listed ≡ s.listed = one_list o r.are_entries s.are_entries in (
      same_routes routes others (one_shape_each o r.datatypes s.datatypes) (r.entries ∙ ap entries_of listed ∙ sym s.entries),
      r.called ∙ ap (λ es. map (λ (e : ℕ × Ent). e.0) es) listed ∙ sym s.called,
    )
