-- What declarations see.
use Rattle.std.specs.Prelude.{◌≡◌, ℕ, List, [], Some, slice_get}
use Rattle.con_terms.specs.Trees.{Cn}
use Rattle.core_terms.specs.Trees.{De, Dt, Pg}
use Rattle.core_typing.specs.Declarations.{datatypes_before, scope_before, scope_with}
use Rattle.core_typing.specs.Tells.{DeclAt}

-- The scope of a declaration of a program has what is declared before it, and no more; so cover is asked with the
-- datatypes that are declared before it.
abbrev pub DeclarationsSeeWhatIsBefore : Type 0
DeclarationsSeeWhatIsBefore = (p : Pg) (tops : List Cn) (ds : List Dt) (d : De)
    → DeclAt [] [] p.decls tops ds d
    → (n : ℕ)
    × (slice_get p.decls n ≡ Some d)
    × (scope_with p tops ds ≡ scope_before p n)
    × ((scope_with p tops ds).datatypes ≡ datatypes_before n p.decls)
