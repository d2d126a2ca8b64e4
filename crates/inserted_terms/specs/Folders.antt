-- The fields of a row that is put together of literals, step by step.
use Rattle.std.specs.Prelude.{◌≡◌, ℕ, Bool, true, false, Option, Some, None, option_and_then}
use Rattle.std.specs.List.{Contains}
use Rattle.con_terms.specs.Trees.{Kd, Cn, app, basic, row, Prs, no_pairs, pair}
use Rattle.guided_terms.specs.Forms.{pieces_of, literal_fields}
use Rattle.guided_terms.specs.Heres.{Here}

-- fields with others behind them
abbrev pub beside : Prs → Prs → Prs
beside no_pairs qs = qs
beside (pair n v ps) qs = pair n v (beside ps qs)

-- a literal whose fields stand before others
abbrev pub IsLiteral : Cn → Prs → Prs → Type 0
IsLiteral (row k ps) all others = all ≡ beside ps others
IsLiteral _ all others = ⊥

-- the fields of a row, in the written order
abbrev pub fields_of : Cn → Option Prs
fields_of r = option_and_then literal_fields (pieces_of r)

-- whether a constructor is a literal
abbrev pub is_row : Cn → Bool
is_row (row k ps) = true
is_row _ = false

-- a type is that of folders of a row with these fields
pub record IsFolderAt (h : Here) (c : Cn) (k : Kd) (ps : Prs) : Type 0 where
  pub symbol : ℕ
  pub row : Cn
  pub form : c ≡ app (basic symbol) row
  pub of_kind : Contains h.types.folders (k, symbol)
  pub fields : fields_of row ≡ Some ps

-- a type is that of folders of a row whose fields aren't known
pub record IsOpenFolder (h : Here) (c : Cn) : Type 0 where
  pub symbol : ℕ
  pub kind : Kd
  pub row : Cn
  pub form : c ≡ app (basic symbol) row
  pub of_kind : Contains h.types.folders (kind, symbol)
  pub unknown : fields_of row ≡ None
