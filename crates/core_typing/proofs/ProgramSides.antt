-- The sides of a mismatch that a program tells differ.
use Rattle.std.proofs.Common.{◌≡◌, ◌≢◌, ℕ, Bool, true, false, ◌==◌, List, [], ◌∷◌, ◌++◌, map, drop, Option, Some, if◌then◌else◌, refl, sym, ◌∙◌}
use Rattle.std.specs.List.{All, AllByRecursion}
use Rattle.std.proofs.lemmas.Bool.Decides.{Decides-eqb}
use Rattle.std.proofs.lemmas.List.Elements.{recursion_from_All}
use Rattle.con_terms.specs.Trees.{Kd, Cn}
use Rattle.core_terms.specs.Names.{int_name, string_name}
use Rattle.core_terms.specs.Trees.{Ex, De, Dt, Pg}
use Rattle.core_terms.specs.Datatypes.{datatype_of, basis_datatypes}
use Rattle.core_typing.specs.Scopes.{Sc, basis_kinds, datatype_kinds, folder_kinds}
use Rattle.core_typing.specs.Declarations.{datatypes, value_types, named_values, scope_with}
use Rattle.core_typing.specs.Accepts.{Formed}
use Rattle.core_typing.specs.Entries.{all_datatypes}
use Rattle.core_typing.specs.Faults.{Fault}
use Rattle.core_typing.specs.Tells.{DeclAt, here, past_val, past_vals, past_con, past_datatype, of_val, of_vals, DeclOwn, type_kind, other_type, in_named, con_kind, held_kind, same_constructor, no_thing_rule, ProgramOwn, of_declaration, same_entry, ProgramSub, in_declaration, tells_outside, tells_in_term, past_thing}
use Rattle.core_typing.specs.FaultLaws.{SidesDiffer, OwnSymbols, ProgramSidesDiffer}
use Rattle.core_typing.proofs.SidesDiffer.{kind_differs, wants_differ, named_differs, told_differs}

-- no datatype of a list has this symbol
abbrev Fresh : ℕ → List Dt → Type 0
Fresh x [] = Unit {0}
Fresh x (d ∷ ds) = (x ≢ d.symbol) × Fresh x ds

fresh_both : (x : ℕ) (ds es : List Dt) → Fresh x ds → Fresh x es → Fresh x (ds ++ es)
fresh_both x [] es h k = k
fresh_both x (d ∷ ds) es h k = (h.0, fresh_both x ds es h.1 k)

fresh_front : (x : ℕ) (ds es : List Dt) → Fresh x (ds ++ es) → Fresh x ds
fresh_front x [] es h = tt
fresh_front x (d ∷ ds) es h = (h.0, fresh_front x ds es h.1)

fresh_behind : (x : ℕ) (ds es : List Dt) → Fresh x (ds ++ es) → Fresh x es
fresh_behind x [] es h = h
fresh_behind x (d ∷ ds) es h = fresh_behind x ds es h.1

first_symbol : (x s : ℕ) (b d : Dt) (more : Option Dt) (c : Bool) → x ≢ b.symbol → (b.symbol == s) ≡ c → (more ≡ Some d → s ≢ x) → (if c then Some b else more) ≡ Some d → s ≢ x
first_symbol x s b d more true h t later e = λ i. h (sym ((Decides-eqb b.symbol s).0 t ∙ i))
first_symbol x s b d more false h t later e = later e

fresh_symbol : (x : ℕ) (ds : List Dt) (s : ℕ) (d : Dt) → Fresh x ds → datatype_of ds s ≡ Some d → s ≢ x
fresh_symbol x [] s d h e = cc
fresh_symbol x (b ∷ bs) s d h e = first_symbol x s b d (datatype_of bs s) (b.symbol == s) h.0 refl (fresh_symbol x bs s d h.1) e

-- the datatypes before a declaration are among those of the program
fresh_at : {tops us : List Cn} {ds es : List Dt} {decls : List De} {d : De} (x : ℕ) → DeclAt tops ds decls us es d → Fresh x (ds ++ datatypes decls) → Fresh x es
fresh_at x (here {ds = ds} {d = d} {rest = rest}) h = fresh_front x ds (datatypes (d ∷ rest)) h
fresh_at x (past_val a) h = fresh_at x a h
fresh_at x (past_vals a) h = fresh_at x a h
fresh_at x (past_con a) h = fresh_at x a h
fresh_at x (past_thing a) h = fresh_at x a h
fresh_at x (past_datatype {ds = ds} {b = b} {rest = rest} a) h =
    let k = fresh_behind x ds (b ∷ datatypes rest) h in
    fresh_at x a (fresh_both x (ds ++ b ∷ []) (datatypes rest) (fresh_both x ds (b ∷ []) (fresh_front x ds (b ∷ datatypes rest) h) (k.0, tt)) k.1)

-- what is different from all of a list is different from all behind its first part
behind_these : (x : ℕ) (bs rest : List (ℕ × Kd)) → AllByRecursion (λ y. x ≢ y) (map (λ (b : ℕ × Kd). b.0) (bs ++ rest)) → AllByRecursion (λ y. x ≢ y) (map (λ (b : ℕ × Kd). b.0) rest)
behind_these x [] rest h = h
behind_these x (b ∷ bs) rest h = behind_these x bs rest h.1

fresh_from : (x : ℕ) (ds : List Dt) (fs : List (ℕ × Kd)) → AllByRecursion (λ y. x ≢ y) (map (λ (b : ℕ × Kd). b.0) (datatype_kinds ds ++ fs)) → Fresh x ds
fresh_from x [] fs h = tt
fresh_from x (d ∷ ds) fs h = (h.0, fresh_from x ds fs h.1)

-- the symbols of datatypes and folders of a program
abbrev own_kinds : Pg → List (ℕ × Kd)
own_kinds p = datatype_kinds (all_datatypes p) ++ folder_kinds p.folders

-- a type of the basis that no datatype of a program is
not_declared : (p : Pg) (x : ℕ) (bs : List (ℕ × Kd)) → All (λ y. x ≢ y) (map (λ (b : ℕ × Kd). b.0) (bs ++ own_kinds p)) → Fresh x (all_datatypes p)
not_declared p x bs h =
    fresh_from x (all_datatypes p) (folder_kinds p.folders)
    (behind_these x bs (own_kinds p) (recursion_from_All (λ y. x ≢ y) (map (λ (b : ℕ × Kd). b.0) (bs ++ own_kinds p)) h))

-- a program that is built has a datatype of neither symbol
no_int : (p : Pg) → Formed p → Fresh int_name (all_datatypes p)
no_int p w = not_declared p int_name (drop 1 basis_kinds) w.symbols.0

no_string : (p : Pg) → Formed p → Fresh string_name (all_datatypes p)
no_string p w = not_declared p string_name (drop 2 basis_kinds) w.symbols.1.0

still_fresh : {tops : List Cn} {ds : List Dt} {d : De} (x : ℕ) (p : Pg) → DeclAt [] [] p.decls tops ds d → Fresh x (all_datatypes p) → Fresh x (basis_datatypes ++ ds)
still_fresh {ds = ds} x p a h = fresh_both x basis_datatypes ds (fresh_front x basis_datatypes (datatypes p.decls) h) (fresh_at x a (fresh_behind x basis_datatypes (datatypes p.decls) h))

own_symbols : {tops : List Cn} {ds : List Dt} {d : De} (p : Pg) → Formed p → DeclAt [] [] p.decls tops ds d → (us : List Cn) → OwnSymbols (scope_with p us ds)
own_symbols {ds = ds} p w a us s b e = (
  fresh_symbol int_name (basis_datatypes ++ ds) s b (still_fresh int_name p a (no_int p w)) e,
  fresh_symbol string_name (basis_datatypes ++ ds) s b (still_fresh string_name p a (no_string p w)) e,
)

declaration_differs : {p : Pg} {tops : List Cn} {ds : List Dt} {d : De} {f : Fault} → DeclOwn p tops ds d f → SidesDiffer f
declaration_differs (type_kind k) = kind_differs k
declaration_differs (other_type k e w) = wants_differ w
declaration_differs (in_named h) = named_differs h
declaration_differs (con_kind k) = kind_differs k
declaration_differs (held_kind c h k) = kind_differs k
declaration_differs (same_constructor i j l e) = tt
declaration_differs no_thing_rule = tt

outside_differs : {p : Pg} {f : Fault} → ProgramOwn p f → SidesDiffer f
outside_differs (of_declaration a h) = declaration_differs h
outside_differs (same_entry b e l n v) = tt

term_symbols : {p : Pg} {G : Sc} {e : Ex} → Formed p → ProgramSub p G e → OwnSymbols G
term_symbols {p} w (in_declaration {tops = tops} a of_val) = own_symbols p w a tops
term_symbols {p} w (in_declaration {tops = tops} a (of_vals {path = path} {ns = ns} h)) = own_symbols p w a (tops ++ value_types (named_values path ns))

pub program_sides_differ : ProgramSidesDiffer
program_sides_differ p f w (tells_outside h first parts) = outside_differs h
program_sides_differ p f w (tells_in_term s h first) = told_differs (term_symbols w s) h
