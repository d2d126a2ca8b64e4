-- What has to hold of a refusal before it is told: a name that is told as unbound stands at its place and isn't in
-- scope there; the two types that a mismatch tells have normal forms that differ; and the two kinds that one tells
-- differ. That two rows aren't disjoint, and that there is no instance or no folder, inference never tells: the checker
-- does.
use Rattle.std.specs.Prelude.{Bool, true, false, not, List}
use Rattle.con_terms.specs.Same.{kd_eq}
use Rattle.con_terms.specs.View.{con_tree, kind_tree}
use Rattle.kind_rules.specs.Comparison.{Comparison, alike, differing, incomparable, compared}
use Rattle.kind_rules.specs.declared.flaw.Differing.{Differing}
use Rattle.plain_tree.specs.Trees.{DeclTree}
use Rattle.source_names.specs.Scopes.{Words}
use Rattle.unbound_names.specs.Programs.{unbound}
use Rattle.type_faults.specs.declared.fault.Fault.{Fault}
use Rattle.type_faults.specs.declared.fault.Fault.TheVariants as told
use Rattle.type_faults.specs.declared.fault.Types.{Types}
use Rattle.name_scopes.specs.declared.fault.ElabFault.{ElabFault}
use Rattle.name_scopes.specs.declared.fault.ElabFault.TheVariants as elab

-- whether two constructors have normal forms, and these differ
abbrev pub is_differing : Comparison → Bool
is_differing alike = false
is_differing (differing m n) = true
is_differing incomparable = false

-- whether the two sides that a fault keeps differ
abbrev pub differ : Types → Bool
differ t = is_differing (compared (con_tree t.wanted) (con_tree t.found))

-- whether the two kinds that a fault keeps differ
abbrev pub kinds_differ : Differing → Bool
kinds_differ d = not (kd_eq (kind_tree d.wanted) (kind_tree d.found))

-- A fault of types. Names that aren't bound are no such faults of inference, and the rest the checker alone tells.
abbrev pub is_told_rightly : Fault → Bool
is_told_rightly (told.Mismatch p s t) = differ t.value
is_told_rightly (told.Unbound p n) = false
is_told_rightly (told.KindMismatch p d) = kinds_differ d.value
is_told_rightly (told.NotDisjoint p s d) = false
is_told_rightly (told.Inexhaustive p s d) = false
is_told_rightly (told.Redeclared p t) = false
is_told_rightly (told.LinkNotCall p) = false
is_told_rightly (told.NotSerialisable p) = false
is_told_rightly (told.TooLarge p) = true
is_told_rightly (told.NotBuilt p) = false

-- A fault that is told of modules of these names, with these foreign effects. Where the rules choose no folder or no
-- instance inference leaves a gap, which the checker tells.
abbrev pub is_caused : List Words → List (List DeclTree) → List (Words × Words) → ElabFault → Bool
is_caused names trees effects (elab.Unbound p n) = unbound names trees effects p.file p.at n
is_caused names trees effects (elab.Told f) = is_told_rightly f
is_caused names trees effects (elab.NoInstance p) = false
is_caused names trees effects (elab.NoFolder p) = false
is_caused names trees effects (elab.Unsolved p) = true
is_caused names trees effects (elab.NotBuilt p) = true
is_caused names trees effects (elab.WantsFolder k) = true
is_caused names trees effects elab.Memory = true
