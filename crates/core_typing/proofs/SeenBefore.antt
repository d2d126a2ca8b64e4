-- A declaration's scope has what is declared before it.
use Rattle.std.proofs.Common.{◌≡◌, ℕ, suc, List, [], ◌∷◌, ◌++◌, take, Some, slice_get, refl, ap, ap₂, sym, ◌∙◌}
use Rattle.std.proofs.lemmas.List.{append_assoc, append-nil, map-append}
use Rattle.con_terms.specs.Trees.{Cn}
use Rattle.core_terms.specs.Trees.{De, Dt}
use Rattle.core_terms.specs.Datatypes.{basis_datatypes}
use Rattle.core_typing.specs.Declarations.{Value, values, named_values, value_types, datatypes, scope_with}
use Rattle.core_typing.specs.Tells.{DeclAt, here, past_val, past_vals, past_con, past_datatype, past_thing}
use Rattle.core_typing.specs.ScopeLaws.{DeclarationsSeeWhatIsBefore}

-- the number of a declaration, with what is declared before it behind what was there
record Numbered (tops us : List Cn) (ds es : List Dt) (decls : List De) (d : De) : Type 0 where
  number : ℕ
  at_number : slice_get decls number ≡ Some d
  values_before : us ≡ tops ++ value_types (values (take number decls))
  datatypes_before : es ≡ ds ++ datatypes (take number decls)

numbered : {tops us : List Cn} {ds es : List Dt} {decls : List De} {d : De} → DeclAt tops ds decls us es d → Numbered tops us ds es decls d
numbered (here {tops = tops} {ds = ds}) = record { number = 0; at_number = refl; values_before = sym (append-nil tops); datatypes_before = sym (append-nil ds) }
numbered (past_val {tops = tops} {t = t} {rest = rest} a) =
    let r = numbered a in
    record { number = suc r.number; at_number = r.at_number; values_before = r.values_before ∙ append_assoc tops (t ∷ []) (value_types (values (take r.number rest))); datatypes_before = r.datatypes_before }
numbered (past_thing {tops = tops} {t = t} {rest = rest} a) =
    let r = numbered a in
    record { number = suc r.number; at_number = r.at_number; values_before = r.values_before ∙ append_assoc tops (t ∷ []) (value_types (values (take r.number rest))); datatypes_before = r.datatypes_before }
numbered (past_vals {tops = tops} {path = path} {ns = ns} {rest = rest} a) =
    let r = numbered a in
    record {
      number = suc r.number;
      at_number = r.at_number;
      values_before = r.values_before ∙ append_assoc tops (value_types (named_values path ns)) (value_types (values (take r.number rest)))
          ∙ ap (λ ts. tops ++ ts) (sym (map-append (λ (v : Value). v.con) (named_values path ns) (values (take r.number rest))));
      datatypes_before = r.datatypes_before;
    }
numbered (past_con a) =
    let r = numbered a in
    record { number = suc r.number; at_number = r.at_number; values_before = r.values_before; datatypes_before = r.datatypes_before }
numbered (past_datatype {ds = ds} {b = b} {rest = rest} a) =
    let r = numbered a in
    record { number = suc r.number; at_number = r.at_number; values_before = r.values_before; datatypes_before = r.datatypes_before ∙ append_assoc ds (b ∷ []) (datatypes (take r.number rest)) }

pub see_what_is_before : DeclarationsSeeWhatIsBefore
see_what_is_before p tops ds d a =
    let r = numbered a in
    (r.number, r.at_number, ap₂ (λ us es. scope_with p us es) r.values_before r.datatypes_before, ap (λ es. basis_datatypes ++ es) r.datatypes_before)
