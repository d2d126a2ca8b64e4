-- Fields of a row that no field of a pattern takes.
use Rattle.std.proofs.Common.{◌≡◌, Bool, false, List, [], ◌∷◌, length, refl, ap, sym, ◌∙◌}
use Rattle.con_terms.specs.Trees.{Cn}
use Rattle.con_terms.specs.declared.place.Place.{Place}
use Rattle.core_terms.specs.Types.{unit_type}
use Rattle.core_typing.specs.Scopes.{Sc}
use Rattle.core_typing.specs.Faults.{Fault, mismatch}
use Rattle.core_typing.specs.PatternFaults.{left_over}
use Rattle.judgements.specs.Bindings.{bad_pattern}
use Rattle.pattern_rules.specs.Binds.{Fb, bind_fields, rest_binding, whole_binding}

rest_left : (G : Sc) (p : Place) (rs ts : List Cn) → (length rs ≡ 0 → ⊥) → bad_pattern (mismatch p G.called (left_over rs) unit_type) ≡ rest_binding G p false rs ts
rest_left G p [] ts k = absurd (k refl)
rest_left G p (c ∷ rs) ts k = refl

pub left_told : (G : Sc) (p : Place) (more : Bool) (rs ts : List Cn) (f : Fault) (w u : Cn) (b : Fb)
    → b ≡ bind_fields rs ts → more ≡ false → (length rs ≡ 0 → ⊥) → w ≡ left_over rs → u ≡ unit_type → f ≡ mismatch p G.called w u
    → bad_pattern f ≡ whole_binding G p more b
left_told G p more rs ts f w u b h m k x y e =
    ap bad_pattern (e ∙ ap (λ z. mismatch p G.called z u) x ∙ ap (mismatch p G.called (left_over rs)) y)
    ∙ rest_left G p rs ts k ∙ sym (ap (whole_binding G p more) h ∙ ap (λ z. rest_binding G p z rs ts) m)
