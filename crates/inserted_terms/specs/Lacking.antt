-- Gaps: what stands where the rules choose nothing to insert. A gap is a value of a number that no program reaches, so
-- that it is bound nowhere, and a program that has one isn't accepted.
-- The Ur/Web Manual, "Type Inference", "Folders" and "Type Classes".
use Rattle.std.specs.Prelude.{◌≡◌, ℕ, true, Option, Some, None, option_and_then}
use Rattle.std.specs.List.{Contains}
use Rattle.con_terms.specs.Trees.{Kd, Cn, app, basic}
use Rattle.con_terms.specs.declared.place.Place.{Place}
use Rattle.core_terms.specs.Trees.{Ex, node, Fo, top}
use Rattle.core_typing.specs.Scopes.{normal_of}
use Rattle.guided_terms.specs.Forms.{head_of}
use Rattle.guided_terms.specs.Heres.{Here}
use Rattle.guided_terms.specs.Implied.{candidates, first_of_form, is_class}
use Rattle.inserted_terms.specs.Folders.{fields_of}

-- the value that stands where no instance is in scope: 2 ^ 32 - 1
abbrev pub no_instance_here : ℕ
no_instance_here = 4294967295

-- the value that stands where the fields of a folder's row aren't known: 2 ^ 32 - 2
abbrev pub no_folder_here : ℕ
no_folder_here = 4294967294

-- of all values that may be instances, the first whose type has the normal form of this one
abbrev pub chosen_instance : Here → Cn → Option Fo
chosen_instance h t = option_and_then (λ n. first_of_form n (candidates h)) (normal_of t)

-- a gap stands for a parameter of this type, for which the rules insert something and choose nothing
pub data Lacks (h : Here) : Cn → Ex → Type 0 where
  -- of a class at a type: no value in scope has a type of its normal form
  no_instance : {t u : Cn} {s : ℕ} {p : Place}
      (form : head_of t ≡ Some (app (basic s) u))
      (class : is_class s ≡ true)
      (none : chosen_instance h t ≡ None)
      → Lacks h t (node p true (top no_instance_here))
  -- of folder r: r isn't put together of literals
  no_folder : {t r : Cn} {s : ℕ} {k : Kd} {p : Place}
      (form : head_of t ≡ Some (app (basic s) r))
      (of_kind : Contains h.types.folders (k, s))
      (unknown : fields_of r ≡ None)
      → Lacks h t (node p true (top no_folder_here))
