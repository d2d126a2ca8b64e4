-- Fields of rows, and their parts in byte order.
use Rattle.std.proofs.Common.{◌≡◌, ℕ, zero, suc, ◌+◌, ◌-◌, ◌<◌, ◌≤◌, Bool, true, false, List, [], ◌∷◌, ◌++◌, length, map, get_or, take, drop, Option, Some, None, option_map, slice_get, if◌then◌else◌, refl, ap, sym, ◌∙◌, arith, drop-cons, drop_of_length-le}
use Rattle.std.specs.List.{insert}
use Rattle.std.specs.Ordering.{is_lt, nat_cmp}
use Rattle.std.specs.Cmp.Lexicographic.{slice_cmp}
use Rattle.std.proofs.lemmas.List.{append_assoc, append-nil, map-append}
use Rattle.con_terms.specs.Trees.{Cn, var, name, Prs, pair}
use Rattle.con_terms.specs.View.{pair_tree, pairs_from}
use Rattle.con_terms.specs.declared.con.Pair.{Pair}
use Rattle.table_rows.specs.Shapes.{Sh, Shs, Pts}
use Rattle.table_rows.specs.View.{shape_step, arguments_step, part_step, parts_step}
use Rattle.table_rows.specs.declared.shape.Shape.TheFolds.{fold_out-Part}
use Rattle.core_typing.specs.Seen.{literal_pairs}
use Rattle.core_typing.specs.Entries.{put_part}
use Rattle.site_routes.specs.Shaping.{Told, told_map, FieldParts, part_of, put_in, with_field, fields_by, literal_pair, place_among}
use Rattle.site_routes.specs.View.{field_view, part_view}
use Rattle.site_routes.specs.declared.shapes.Field.{Field}
use Rattle.table_rows.specs.declared.shape.Part.{Part}
use Rattle.site_routes.proofs.Steps.{open_at}

-- fields with literal names
pub pair_more : (n v : Cn) (ps : Prs) → literal_pairs (pair n v ps) ≡ literal_pair n v ++ literal_pairs ps
pair_more (name s) v ps = refl
pair_more _ v ps = refl

pub pairs_on : (xs : List Pair) (i : ℕ) (x : Pair) (old new : List (ℕ × Cn)) (all : List (ℕ × Cn)) → x ≡ get_or xs i x → i < length xs →
    new ≡ old ++ literal_pair (pair_tree x).0 (pair_tree x).1 →
    old ++ literal_pairs (pairs_from (map pair_tree (drop i xs))) ≡ all →
    new ++ literal_pairs (pairs_from (map pair_tree (drop (i + 1) xs))) ≡ all
pairs_on xs i x old new all e h n k =
    let rest = literal_pairs (pairs_from (map pair_tree (drop (i + 1) xs))) in
    ap (λ ys. ys ++ rest) n
    ∙ append_assoc old (literal_pair (pair_tree x).0 (pair_tree x).1) rest
    ∙ ap (λ ys. old ++ ys) (sym (pair_more (pair_tree x).0 (pair_tree x).1 (pairs_from (map pair_tree (drop (i + 1) xs)))))
    ∙ ap (λ ys. old ++ literal_pairs (pairs_from (map pair_tree ys))) (sym (open_at xs i x e h)) ∙ k

-- a part in its place
put_one : (n : List ℕ) (s : Sh) (p : List ℕ × Sh) (ps : FieldParts) (b : Bool) → put_part n s ps ≡ insert ps (place_among n ps) (n, s) →
    (if b then p ∷ put_part n s ps else (n, s) ∷ p ∷ ps) ≡ insert (p ∷ ps) (if b then suc (place_among n ps) else 0) (n, s)
put_one n s p ps true h = ap (λ qs. p ∷ qs) h
put_one n s p ps false h = refl

put_is : (n : List ℕ) (s : Sh) (ps : FieldParts) → put_part n s ps ≡ insert ps (place_among n ps) (n, s)
put_is n s [] = refl
put_is n s (p ∷ ps) = put_one n s p ps (is_lt (slice_cmp nat_cmp p.0 n)) (put_is n s ps)

map-take : {A B : Type 0} (f : A → B) (i : ℕ) (xs : List A) → map f (take i xs) ≡ take i (map f xs)
map-take f zero xs = refl
map-take f (suc i) [] = refl
map-take f (suc i) (x ∷ xs) = ap (λ ys. f x ∷ ys) (map-take f i xs)

map-drop : {A B : Type 0} (f : A → B) (i : ℕ) (xs : List A) → map f (drop i xs) ≡ drop i (map f xs)
map-drop f zero xs = refl
map-drop f (suc i) [] = refl
map-drop f (suc i) (x ∷ xs) = map-drop f i xs

map-insert : {A B : Type 0} (f : A → B) (xs : List A) (i : ℕ) (x : A) → map f (insert xs i x) ≡ insert (map f xs) i (f x)
map-insert f xs i x =
    map-append f (take i xs) (x ∷ drop i xs) ∙ ap (λ ys. ys ++ f x ∷ map f (drop i xs)) (map-take f i xs)
    ∙ ap (λ ys. take i (map f xs) ++ f x ∷ ys) (map-drop f i xs)

pub put_at : (p : Part) (ps new : List Part) (i : ℕ) → new ≡ insert ps i p → i ≡ place_among (part_view p).0 (map part_view ps) →
    map part_view new ≡ put_part (part_view p).0 (part_view p).1 (map part_view ps)
put_at p ps new i e h =
    ap (map part_view) e ∙ map-insert part_view ps i p ∙ ap (λ n. insert (map part_view ps) n (part_view p)) h
    ∙ sym (put_is (part_view p).0 (part_view p).1 (map part_view ps))

-- fields, the last first
pub fields_next : (f : Cn → Told Sh) (names : List (List ℕ)) (xs : List Field) (done : ℕ) (x : Field) → done < length xs → x ≡ get_or xs (length xs - 1 - done) x →
    map field_view (drop (length xs - (done + 1)) xs) ≡ field_view x ∷ map field_view (drop (length xs - done) xs)
fields_next f names xs done x h e =
    let at : length xs - (done + 1) ≡ length xs - 1 - done = omega arith in
    let after : length xs - 1 - done + 1 ≡ length xs - done = omega arith in
    ap (λ n. map field_view (drop n xs)) at ∙ ap (map field_view) (open_at xs (length xs - 1 - done) x e (omega arith))
    ∙ ap (λ n. field_view x ∷ map field_view (drop n xs)) after

pub fields_on : (f : Cn → Told Sh) (names : List (List ℕ)) (xs : List Field) (done : ℕ) (x : Field) (ps : FieldParts) (new : Told FieldParts) → done < length xs → x ≡ get_or xs (length xs - 1 - done) x →
    put_in (part_of (slice_get names (field_view x).0) (f (field_view x).1)) ps ≡ new →
    fields_by f names (map field_view (drop (length xs - done) xs)) ≡ Some (Some ps) →
    fields_by f names (map field_view (drop (length xs - (done + 1)) xs)) ≡ new
fields_on f names xs done x ps new h e p k =
    ap (fields_by f names) (fields_next f names xs done x h e)
    ∙ ap (with_field (part_of (slice_get names (field_view x).0) (f (field_view x).1))) k ∙ p

none_before : (f : Cn → Told Sh) (names : List (List ℕ)) (i : ℕ) (xs : List (ℕ × Cn)) → fields_by f names (drop i xs) ≡ Some None → fields_by f names xs ≡ Some None
none_before f names zero xs h = h
none_before f names (suc i) [] h = h
none_before f names (suc i) (x ∷ xs) h = ap (with_field (part_of (slice_get names x.0) (f x.1))) (none_before f names i xs h)

pub fields_stop : (f : Cn → Told Sh) (names : List (List ℕ)) (xs : List Field) (i : ℕ) → fields_by f names (map field_view (drop i xs)) ≡ Some None → fields_by f names (map field_view xs) ≡ Some None
fields_stop f names xs i h = none_before f names i (map field_view xs) (ap (fields_by f names) (sym (map-drop field_view i xs)) ∙ h)

pub fields_none : (f : Cn → Told Sh) (names : List (List ℕ)) (xs : List Field) → fields_by f names (map field_view (drop (length xs - 0) xs)) ≡ Some (Some [])
fields_none f names xs = ap (λ ys. fields_by f names (map field_view ys)) (drop_of_length-le xs (omega arith))

pub fields_all : (f : Cn → Told Sh) (names : List (List ℕ)) (xs : List Field) (done : ℕ) (o : Told FieldParts) → length xs ≤ done → fields_by f names (map field_view (drop (length xs - done) xs)) ≡ o → fields_by f names (map field_view xs) ≡ o
fields_all f names xs done o h k = ap (λ n. fields_by f names (map field_view (drop n xs))) (let p : 0 ≡ length xs - done = omega arith in p) ∙ k

pub fields_gone : (f : Cn → Told Sh) (names : List (List ℕ)) (xs : List Field) (done n : ℕ) (x : Field) (ps : FieldParts) → n ≡ length xs → done < n → x ≡ get_or xs (n - 1 - done) x →
    put_in (part_of (slice_get names (field_view x).0) (f (field_view x).1)) ps ≡ Some None →
    fields_by f names (map field_view (drop (length xs - done) xs)) ≡ Some (Some ps) → fields_by f names (map field_view xs) ≡ Some None
fields_gone f names xs done n x ps e h at p k =
    fields_stop f names xs (length xs - (done + 1))
    (fields_on f names xs done x ps (Some None) (omega arith) (at ∙ ap (λ m. get_or xs (m - 1 - done) x) e) p k)

pub part_name : (p : Part) → p.name ≡ (part_view p).0
part_name p = sym (ap (λ (z : List ℕ × Sh). z.0) (fold_out-Part Sh Shs (List ℕ × Sh) Pts shape_step arguments_step part_step parts_step p))
