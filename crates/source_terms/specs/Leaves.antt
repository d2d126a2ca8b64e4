-- What numbers, sigils and the values that sugar stands for are in the explicit language.
use Rattle.std.specs.Prelude.{ℕ, ℤ, pos, neg_ℤ, ◌%◌, ◌^◌, Bool, true, false}
use Rattle.core_terms.specs.declared.basis.BasisName.TheVariants as value
use Rattle.core_terms.specs.declared.exp.Sigil.{Sigil}
use Rattle.core_terms.specs.declared.exp.Sigil.TheVariants.{Plain, At, AtAt}
use Rattle.core_terms.specs.Trees.{Pt, pattern, is_bare, Ex, node, Fo, basis, built}
use Rattle.plain_tree.specs.declared.names.Path.{Path}
use Rattle.plain_tree.specs.declared.names.Sigil as source
use Rattle.plain_tree.specs.declared.names.Sigil.TheVariants as written
use Rattle.plain_tree.specs.declared.names.Basis.{Basis}
use Rattle.plain_tree.specs.declared.names.Basis.TheVariants as sugar
use Rattle.plain_tree.specs.declared.names.BasisBuilder.{BasisBuilder}
use Rattle.plain_tree.specs.declared.names.Infix.{Infix}
use Rattle.plain_tree.specs.declared.names.Infix.TheVariants as op
use Rattle.source_names.specs.Scopes.{Scope}
use Rattle.source_names.specs.Standing.{names_builder, names_basis_builder}

-- the number that digits stand for, behind `-` where the flag is true. One of 2^63 or more wraps
abbrev pub number_of : Bool → ℕ → ℤ
number_of false n = pos (n % 2 ^ 63)
number_of true n = neg_ℤ (pos (n % 2 ^ 63))

-- whether a sigil before a head is the one that is written: nothing, `@`, `@@`
abbrev pub is_sigil : source.Sigil → Sigil → Bool
is_sigil written.Nothing Plain = true
is_sigil written.At At = true
is_sigil written.AtAt AtAt = true
is_sigil _ _ = false

-- what a term is, whatever its place, and whether or not it was inserted
abbrev pub form_of : Ex → Fo
form_of (node p a f) = f

-- whether a form is the constructor of a datatype that a path names
abbrev pub builds : Scope → Path → Fo → Bool
builds s p (built d i) = names_builder s p d i
builds s p _ = false

-- whether a form is a constructor of the basis: of truth values, of lists
abbrev pub is_basis_builder : Scope → BasisBuilder → Fo → Bool
is_basis_builder s b (built d i) = names_basis_builder s b d i
is_basis_builder s b _ = false

-- whether a form is the value of the basis that sugar stands for
abbrev pub is_sugar : Scope → Basis → Fo → Bool
is_sugar s sugar.Bind (basis value.Bind) = true
is_sugar s sugar.Txt (basis value.Txt) = true
is_sugar s sugar.Neg (basis value.Neg) = true
is_sugar s sugar.Eq (basis value.Eq) = true
is_sugar s sugar.Ne (basis value.Ne) = true
is_sugar s sugar.Lt (basis value.Lt) = true
is_sugar s sugar.Le (basis value.Le) = true
is_sugar s (sugar.Builder b) f = is_basis_builder s b f
is_sugar s _ _ = false

-- whether a form is the value of the basis that an operator stands for
abbrev pub is_operator : Infix → Fo → Bool
is_operator op.Strcat (basis value.Strcat) = true
is_operator op.Plus (basis value.Plus) = true
is_operator op.Minus (basis value.Minus) = true
is_operator op.Times (basis value.Times) = true
is_operator op.Divide (basis value.Divide) = true
is_operator op.Mod (basis value.Mod) = true
is_operator _ _ = false

-- whether a form is `cdata`, which makes a tree of a text
abbrev pub is_cdata : Fo → Bool
is_cdata (basis value.Cdata) = true
is_cdata _ = false

-- whether a pattern is a bare constructor of the basis
abbrev pub is_bare_of : Scope → BasisBuilder → Pt → Bool
is_bare_of s b (pattern p (is_bare d i)) = names_basis_builder s b d i
is_bare_of s b _ = false
