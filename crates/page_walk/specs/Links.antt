-- The link of a top-level value that is given values.
use Rattle.std.specs.Prelude.{ℕ, List, [], ◌∷◌, ◌++◌, map, length, get_or, nat_lt, Option, Some, None, if◌then◌else◌}
use Rattle.table_rows.specs.Shapes.{no_shapes}
use Rattle.table_rows.specs.Pieces.{all_pieces}
use Rattle.link_router.specs.Links.{joined, link}
use Rattle.core_terms.specs.Trees.{Dt}
use Rattle.core_terms.specs.View.{decls_view}
use Rattle.core_terms.specs.declared.program.Program.{Program}
use Rattle.value_trees.specs.Values.{V, Out, done, fault, wrong, link_too_long}
use Rattle.value_trees.specs.Wired.{wires_of}
use Rattle.run_values.specs.Known.{Tp, all_datatypes}

abbrev pub longest_link : ℕ
longest_link = 8192

-- all datatypes of a program
abbrev pub datatypes_in : Program → List Dt
datatypes_in p = all_datatypes (decls_view p.decls)

-- the name that a top-level value has in links: its module, the structures around it, and its name
abbrev pub link_name : Program → Tp → List (List ℕ)
link_name p t = get_or p.modules t.place.file [] ∷ map (λ x. get_or p.names x []) (t.path ++ t.name ∷ [])

-- the link, where it isn't too long; no case applies where one of the values can't be given
abbrev pub linked : Program → Tp → List V → Out (List ℕ)
linked p t vs =
    elim (wires_of p.names (datatypes_in p) vs) [
      | None ↦ wrong
      | Some ws ↦ let text = link (record { name = link_name p t; arguments = no_shapes; form = None }) ws in
          if nat_lt longest_link (length text) then fault link_too_long else done text 0
    ]

-- what values write of a link
abbrev pub values_text : List (List ℕ) → List Dt → List V → Option (List ℕ)
values_text names ds vs = elim (wires_of names ds vs) [ None ↦ None | Some ws ↦ Some (joined (all_pieces ws)) ]
