-- The types of parts, level by level without repeats, and whether one of them is too large.
use Rattle.std.specs.Prelude.{ℕ, zero, suc, Bool, true, false, List, [], ◌∷◌, ◌++◌, Option, Some, None, if◌then◌else◌}
use Rattle.con_terms.specs.Trees.{Cn}
use Rattle.row_normal.specs.SameTree.{cn_eq}
use Rattle.core_terms.specs.Trees.{Cd, Dt}
use Rattle.core_terms.specs.Datatypes.{held_at}
use Rattle.core_typing.specs.Scopes.{normal_of}
use Rattle.core_typing.specs.Seen.{Seen, a_datatype, a_record, seen}

-- a type behind others, where it isn't among them
abbrev pub is_among : Cn → List Cn → Bool
is_among t [] = false
is_among t (u ∷ us) = if cn_eq u t then true else is_among t us

abbrev pub added : Cn → List Cn → List Cn
added t us = if is_among t us then us else us ++ t ∷ []

-- the types of what constructors hold, and of fields, behind others
abbrev pub add_held : List Cn → List Cd → List Cn → List Cn
add_held args [] us = us
add_held args (c ∷ cs) us = elim c.holds [
  | None ↦ add_held args cs us
  | Some h ↦ add_held args cs (added (held_at args h) us)
]

abbrev pub add_fields : List (Cn × Cn) → List Cn → List Cn
add_fields [] us = us
add_fields (f ∷ fs) us = add_fields fs (added f.1 us)

abbrev pub add_parts : Seen → List Cn → List Cn
add_parts (a_datatype x args) us = add_held args x.constructors us
add_parts (a_record fs) us = add_fields fs us
add_parts _ us = us

-- the types of the parts of values of some types, behind others; none where one of the types is too large
abbrev pub next_level : List Dt → List Cn → List Cn → Option (List Cn)
next_level ds [] us = Some us
next_level ds (t ∷ ts) us = elim (normal_of t) [ None ↦ None | Some n ↦ next_level ds ts (add_parts (seen ds n) us) ]

-- whether one of these types is too large, or that of a part that lies no deeper than a depth
abbrev pub large_among : List Dt → ℕ → List Cn → Bool
large_among ds zero ts = false
large_among ds (suc d) ts = elim (next_level ds ts []) [ None ↦ true | Some us ↦ large_among ds d us ]
