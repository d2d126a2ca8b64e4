-- A path is a link of the calls that it is read as, and these are one at most.
use Rattle.std.proofs.Common.{◌≡◌, ℕ, ◌<◌, ◌⊎◌, inl, inr, Bool, List, [], ◌∷◌, ◌++◌, length, Some, slice_get, refl, ap, sym, subst, ◌∙◌, arith}
use Rattle.std.specs.List.{Contains}
use Rattle.std.proofs.lemmas.List.{append-nil}
use Rattle.std.proofs.lemmas.Option.{same_Some}
use Rattle.table_rows.specs.Wires.{Wrs}
use Rattle.table_rows.specs.Pieces.{all_pieces}
use Rattle.link_router.specs.Calls.{Ent, Rts, Cl}
use Rattle.link_router.specs.Links.{joined, link, path_pieces, Route}
use Rattle.link_router.specs.Reading.{ReadsAll}
use Rattle.link_router.specs.RouteLaws.{AreNamed, ReadAs}
use Rattle.link_router.proofs.Sent.{Decodes, nothing, a_piece, decodes_both, path_of_joined, names_decode, values_decode, all_sent, listed_in}
use Rattle.link_router.proofs.ReadBack.{values_read, all_were_sent, all_one}

pieces_of_joined : {ps qs : List (List ℕ)} → Decodes ps qs → 0 < length ps → path_pieces (joined ps) ≡ Some qs
pieces_of_joined nothing h = absurd (omega (arith, h))
pieces_of_joined (a_piece s e d) h = path_of_joined (a_piece s e d)

longer : (xs ys : List (List ℕ)) → 0 < length xs → 0 < length (xs ++ ys)
longer [] ys h = absurd (omega (arith, h))
longer (x ∷ xs) ys h = omega arith

-- the pieces of a link
link_pieces : (routes : Rts) (e : Ent) (ws : Wrs) → AreNamed routes → Contains routes.entries e → Decodes (all_pieces ws) (all_sent ws) → path_pieces (link e ws) ≡ Some (e.name ++ all_sent ws)
link_pieces routes e ws n i d = pieces_of_joined (decodes_both (names_decode e.name (n.plain_names e i)) d) (longer e.name (all_pieces ws) (n.some_pieces e i))

pub route_read : (routes : Rts) (post : Bool) (target : List ℕ) (call : Cl) → AreNamed routes → Route routes post target call → ReadAs routes post target call
route_read routes post target call n r =
    let i = listed_in routes.entries call.entry r.entry r.is_entry in
    record {
      entry = r.entry;
      is_entry = r.is_entry;
      by_method = r.by_method;
      left = all_sent call.wires;
      named = r.same_pieces ∙ link_pieces routes r.entry call.wires n i (values_decode n.plain_constructors r.shapes r.carried);
      arguments = subst (λ ps. ReadsAll routes.datatypes r.entry.arguments ps call.wires []) (append-nil (all_sent call.wires)) (values_read [] r.shapes r.carried);
      no_form = r.no_form;
      no_cookie = r.no_cookie;
    }

pub read_route : (routes : Rts) (post : Bool) (target : List ℕ) (call : Cl) → AreNamed routes → ReadAs routes post target call → Route routes post target call
read_route routes post target call n r =
    let i = listed_in routes.entries call.entry r.entry r.is_entry in
    let w = all_were_sent r.arguments in
    record {
      entry = r.entry;
      is_entry = r.is_entry;
      by_method = r.by_method;
      shapes = w.shaped;
      carried = w.carried;
      same_pieces = r.named ∙ ap (λ ps. Some (r.entry.name ++ ps)) (w.pieces ∙ append-nil (all_sent call.wires)) ∙ sym (link_pieces routes r.entry call.wires n i (values_decode n.plain_constructors w.shaped w.carried));
      no_form = r.no_form;
      no_cookie = r.no_cookie;
    }

-- of two lists that begin one list, one begins the other
one_begins : (xs ys us vs : List (List ℕ)) → xs ++ us ≡ ys ++ vs → ((more : List (List ℕ)) × (xs ++ more ≡ ys)) ⊎ ((more : List (List ℕ)) × (ys ++ more ≡ xs))
one_begins [] ys us vs e = inl (ys, refl)
one_begins (x ∷ xs) [] us vs e = inr (x ∷ xs, refl)
one_begins (x ∷ xs) (y ∷ ys) us vs e =
    let first : x ≡ y = cc in
    let rest : xs ++ us ≡ ys ++ vs = cc in
    elim (one_begins xs ys us vs rest) [
      | inl (more, h) ↦ inl (more, ap (λ zs. x ∷ zs) h ∙ ap (λ z. z ∷ ys) first)
      | inr (more, h) ↦ inr (more, ap (λ zs. y ∷ zs) h ∙ ap (λ z. z ∷ xs) (sym first))
    ]

same_rest : (xs us vs : List (List ℕ)) → xs ++ us ≡ xs ++ vs → us ≡ vs
same_rest [] us vs e = e
same_rest (x ∷ xs) us vs e = let rest : xs ++ us ≡ xs ++ vs = cc in same_rest xs us vs rest

none_behind : (xs ys more : List (List ℕ)) → more ≡ [] → xs ++ more ≡ ys → xs ≡ ys
none_behind xs ys more h e = sym (append-nil xs) ∙ ap (λ zs. xs ++ zs) (sym h) ∙ e

-- Pieces that begin with the names of two entries begin with one name, and the same is left.
pub both_parts : (routes : Rts) (d e : Ent) (us vs : List (List ℕ)) → AreNamed routes → Contains routes.entries d → Contains routes.entries e → d.name ++ us ≡ e.name ++ vs → (d.name ≡ e.name) × (us ≡ vs)
both_parts routes d e us vs n h k s = (same, same_rest e.name us vs (ap (λ xs. xs ++ us) (sym same) ∙ s))
  where
    same : d.name ≡ e.name
    same = elim (one_begins d.name e.name us vs s) [
      | inl (more, i) ↦ none_behind d.name e.name more (n.none_begins d e more h k i) i
      | inr (more, i) ↦ sym (none_behind e.name d.name more (n.none_begins e d more k h i) i)
    ]

same_call : (c d : Cl) → c.entry ≡ d.entry → c.wires ≡ d.wires → c.form ≡ d.form → c.cookie ≡ d.cookie → c ≡ d
same_call c d e w f k =
    let by_entry : c ≡ record { entry = d.entry; wires = c.wires; form = c.form; cookie = c.cookie } = ap (λ (x : ℕ). record { entry = x; wires = c.wires; form = c.form; cookie = c.cookie }) e in
    let by_wires : record { entry = d.entry; wires = c.wires; form = c.form; cookie = c.cookie } ≡ record { entry = d.entry; wires = d.wires; form = c.form; cookie = c.cookie } = ap (λ (x : Wrs). record { entry = d.entry; wires = x; form = c.form; cookie = c.cookie }) w in
    let by_form : record { entry = d.entry; wires = d.wires; form = c.form; cookie = c.cookie } ≡ record { entry = d.entry; wires = d.wires; form = d.form; cookie = c.cookie } = ap (λ x. record { entry = d.entry; wires = d.wires; form = x; cookie = c.cookie }) f in
    let by_cookie : record { entry = d.entry; wires = d.wires; form = d.form; cookie = c.cookie } ≡ d = ap (λ (x : List ℕ). record { entry = d.entry; wires = d.wires; form = d.form; cookie = x }) k in
    by_entry ∙ by_wires ∙ by_form ∙ by_cookie

read_one : (routes : Rts) (post : Bool) (target : List ℕ) (c d : Cl) → AreNamed routes → ReadAs routes post target c → ReadAs routes post target d → c ≡ d
read_one routes post target c d n r s =
    let i = listed_in routes.entries c.entry r.entry r.is_entry in
    let j = listed_in routes.entries d.entry s.entry s.is_entry in
    let (names, lefts) = both_parts routes r.entry s.entry r.left s.left n i j (same_Some _ _ (sym r.named ∙ s.named)) in
    let numbers : c.entry ≡ d.entry = n.entries_differ c.entry d.entry r.entry s.entry r.is_entry s.is_entry (r.by_method ∙ sym s.by_method) names in
    let entries : s.entry ≡ r.entry = same_Some _ _ (sym s.is_entry ∙ ap (λ k. slice_get routes.entries k) (sym numbers) ∙ r.is_entry) in
    let wires : c.wires ≡ d.wires = all_one n.constructors_differ r.arguments (subst (λ (e : Ent). ReadsAll routes.datatypes e.arguments s.left d.wires []) entries s.arguments) lefts in
    same_call c d numbers wires (r.no_form ∙ sym s.no_form) (r.no_cookie ∙ sym s.no_cookie)

pub one_call : (routes : Rts) (post : Bool) (target : List ℕ) (c d : Cl) → AreNamed routes → Route routes post target c → Route routes post target d → c ≡ d
one_call routes post target c d n r s = read_one routes post target c d n (route_read routes post target c n r) (route_read routes post target d n s)
