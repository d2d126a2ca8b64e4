-- A program that is found is accepted, and tells no fault.
use Rattle.std.proofs.Common.{◌≡◌, ◌≢◌, ℕ, zero, suc, ◌<◌, List, [], ◌∷◌, map, Some, slice_get, ap, sym, ◌∙◌, arith}
use Rattle.std.specs.List.{AllByRecursion}
use Rattle.std.proofs.lemmas.List.Elements.{recursion_from_All}
use Rattle.con_terms.specs.Trees.{Cn}
use Rattle.con_terms.specs.Equal.{back}
use Rattle.core_terms.specs.Trees.{Ex, De, Cd, Dt, Pg}
use Rattle.core_typing.specs.Asks.{cover_asked}
use Rattle.core_typing.specs.Scopes.{Sc}
use Rattle.core_typing.specs.Cover.{Covers}
use Rattle.core_typing.specs.Typed.{by_equal}
use Rattle.core_typing.specs.Found.{FoundBy}
use Rattle.core_typing.specs.Declarations.{DeclsTyped, no_decls, a_val, some_vals, a_con, a_datatype, Distinct}
use Rattle.core_typing.specs.Faults.{Fault}
use Rattle.core_typing.specs.Tells.{DeclAt, here, past_val, past_vals, past_con, past_datatype, DeclSub, of_val, of_vals, DeclOwn, type_kind, other_type, in_named, con_kind, held_kind, same_constructor, no_thing_rule, ProgramOwn, of_declaration, same_entry, in_declaration, tells_outside, tells_in_term, Tells, tells_own, tells_inner, Fails, itself, inside, past_thing}
use Rattle.core_typing.specs.FoundProgram.{DeclsFound, no_decls_found, a_val_found, vals_found, con_found, datatype_found, ProgramFound, FoundIsAccepted, FoundIsClear}
use Rattle.core_typing.proofs.Normal.{alike_equal}
use Rattle.core_typing.proofs.Judging.{has_kind}
use Rattle.core_typing.proofs.Founded.{found_typed, named_typed}
use Rattle.core_typing.proofs.Excluded.{wants_out, kind_out, named_out, alike_found}
use Rattle.core_typing.proofs.Silent.{name_in, fails_out}

-- accepted
decls_typed : {p : Pg} {tops : List Cn} {ds : List Dt} {decls : List De} → DeclsFound p tops ds decls → DeclsTyped cover_asked p tops ds decls
decls_typed no_decls_found = no_decls
decls_typed (a_val_found k e a rest) = a_val (has_kind k) (by_equal (found_typed e) (back (alike_equal a)) tt) (decls_typed rest)
decls_typed (vals_found ns rest) = some_vals (named_typed ns) (decls_typed rest)
decls_typed (con_found k rest) = a_con (has_kind k) (decls_typed rest)
decls_typed (datatype_found h d rest) = a_datatype (λ c held i e. has_kind (h c held i e)) d (decls_typed rest)

pub found_is_accepted : FoundIsAccepted
found_is_accepted p f = record { formed = f.formed; typed = decls_typed f.declarations; entries = f.entries }

-- each declaration is found where it stands
found_at : {p : Pg} {tops us : List Cn} {ds es : List Dt} {decls : List De} {d : De} → DeclAt tops ds decls us es d → DeclsFound p tops ds decls → (rest : List De) × DeclsFound p us es (d ∷ rest)
found_at (here {rest = rest}) f = (rest, f)
found_at (past_val a) (a_val_found k e h rest) = found_at a rest
found_at (past_vals a) (vals_found ns rest) = found_at a rest
found_at (past_thing a) h = elim h [ ]
found_at (past_con a) (con_found k rest) = found_at a rest
found_at (past_datatype a) (datatype_found h d rest) = found_at a rest

-- names that differ
elsewhere : (x : ℕ) (cs : List Cd) (j : ℕ) (c : Cd) → AllByRecursion (λ y. x ≢ y) (map (λ (c : Cd). c.name) cs) → slice_get cs j ≡ Some c → x ≢ c.name
elsewhere x [] j c h e = cc
elsewhere x (b ∷ cs) zero c h e = let i : b ≡ c = cc in λ n. h.0 (n ∙ ap (λ (z : Cd). z.name) (sym i))
elsewhere x (b ∷ cs) (suc j) c h e = elsewhere x cs j c h.1 e

names_out : (cs : List Cd) (i j : ℕ) (b c : Cd) → Distinct (map (λ (c : Cd). c.name) cs) → slice_get cs i ≡ Some b → slice_get cs j ≡ Some c → i < j → b.name ≢ c.name
names_out [] i j b c h e g l = cc
names_out (a ∷ cs) zero zero b c h e g l = absurd (omega (arith, l))
names_out (a ∷ cs) zero (suc j) b c h e g l =
    let k : a ≡ b = cc in
    λ n. elsewhere a.name cs j c (recursion_from_All (λ y. a.name ≢ y) (map (λ (c : Cd). c.name) cs) h.0) g (ap (λ (z : Cd). z.name) k ∙ n)
names_out (a ∷ cs) (suc i) zero b c h e g l = absurd (omega (arith, l))
names_out (a ∷ cs) (suc i) (suc j) b c h e g l = names_out cs i j b c h.1 e g (omega (arith, l))

declaration_out : {p : Pg} {tops : List Cn} {ds : List Dt} {d : De} {rest : List De} {f : Fault} → DeclOwn p tops ds d f → DeclsFound p tops ds (d ∷ rest) → ⊥
declaration_out (type_kind f) (a_val_found k e a rest) = kind_out k f
declaration_out (other_type l g w) (a_val_found k e a rest) = wants_out (alike_found g e a) w
declaration_out (in_named f) (vals_found ns rest) = named_out f ns
declaration_out (con_kind f) (con_found k rest) = kind_out k f
declaration_out (held_kind {c = c} {held = held} i e f) (datatype_found h d rest) = kind_out (h c held i e) f
declaration_out (same_constructor {d = d} {i = i} {j = j} {b = b} {c = c} e g l n) (datatype_found h x rest) = names_out d.constructors i j b c x e g l n
declaration_out no_thing_rule h = elim h [ ]

apart_below : (i j : ℕ) → i < j → i ≢ j
apart_below i j l e = absurd (omega (arith, l, e))

outside_out : {p : Pg} {f : Fault} → ProgramOwn p f → ProgramFound p → ⊥
outside_out (of_declaration a h) w = let (rest, f) = found_at a w.declarations in declaration_out h f
outside_out (same_entry {i = i} {j = j} {post = post} {b = b} {e = e} x y l n v) w = w.entries i j post b e x y (apart_below i j l) n

-- the terms of declarations are found
term_found : {p : Pg} {tops : List Cn} {ds : List Dt} {d : De} {rest : List De} {G : Sc} {e : Ex} → DeclSub p tops ds d G e → DeclsFound p tops ds (d ∷ rest) → (t : Cn) × FoundBy Covers G e t
term_found of_val (a_val_found {u = u} k e a rest) = (u, e)
term_found (of_vals i) (vals_found ns rest) = name_in i ns

told_fails : {G : Sc} {e : Ex} {f : Fault} → Tells G e f → Fails G e f
told_fails (tells_own h first parts) = itself h
told_fails (tells_inner s h first) = inside s (told_fails h)

pub found_is_clear : FoundIsClear
found_is_clear p w f (tells_outside h first parts) = outside_out h w
found_is_clear p w f (tells_in_term (in_declaration a s) h first) =
    let (rest, d) = found_at a w.declarations in
    let (t, k) = term_found s d in
    fails_out (told_fails h) k
