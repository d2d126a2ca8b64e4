-- What the line of a refusal says behind its place: the name of the fault, and behind it what the fault keeps.
use Rattle.std.specs.Prelude.{◌≡◌, ℕ, Bool, true, false, List, [], ◌∷◌, ◌++◌, codes, ◌⊎◌}
use Rattle.con_terms.specs.Trees.{Cn, lambda}
use Rattle.con_terms.specs.declared.place.Place.{Place}
use Rattle.core_terms.specs.Trees.{Pg}
use Rattle.core_typing.specs.Faults.{Fault, Unbound, Twice, twice_constructor, twice_attribute, twice_entry, a_variable, a_value, an_effect, a_con_variable, a_symbol, a_constructor, an_attribute, a_folder, an_input_name, at, unbound, kind_mismatch, mismatch, not_disjoint, inexhaustive, redeclared, link_not_call, not_serialisable, too_large, not_built}
use Rattle.fault_lines.specs.Shapes.{shape_words}
use Rattle.shown_types.specs.Names.{Known, text_of, new_name}
use Rattle.shown_types.specs.Programs.{known_of, known_by, texts_of}
use Rattle.shown_types.specs.Shown.{con_words, differing_words, kind_words}
use Rattle.shown_types.specs.Words.{spaced}
use Rattle.type_faults.specs.View.{fault_tree}
use Rattle.xml_trees.specs.SourceNames.{attribute_text}
use Rattle.inserted_terms.specs.Lacking.{no_instance_here, no_folder_here}
use Rattle.name_scopes.specs.declared.fault.ElabFault.{ElabFault}
use Rattle.name_scopes.specs.declared.fault.ElabFault.TheVariants as elab

-- The text of a value that isn't bound and that the checker tells: of a gap that stands where no instance could be
-- inserted, or no folder. All other values inference tells.
abbrev pub IsMissingText : ℕ → List ℕ → Type 0
IsMissingText i text =
    ((i ≡ no_instance_here) × (text ≡ codes "NoInstance")) ⊎ ((i ≡ no_folder_here) × (text ≡ codes "NoFolder"))

-- The text of a name that isn't bound and that the checker tells: a gap, an attribute that its tag hasn't, or an
-- input's name in no form. All other names inference tells, which has none of these.
abbrev pub IsUnboundText : Unbound → List ℕ → Type 0
IsUnboundText (a_variable i) text = ⊥
IsUnboundText (a_value i) text = IsMissingText i text
IsUnboundText (an_effect i) text = ⊥
IsUnboundText (a_con_variable i) text = ⊥
IsUnboundText (a_symbol s) text = ⊥
IsUnboundText (a_constructor s i) text = ⊥
IsUnboundText (an_attribute name) text = text ≡ codes "Unbound " ++ attribute_text name
IsUnboundText (a_folder kind) text = ⊥
IsUnboundText an_input_name text = text ≡ codes "Unbound _"

-- a name that is declared twice: a constructor's, an attribute's, or the address of an entry, its parts behind slashes
abbrev pub slash_before : Bool → List ℕ
slash_before true = []
slash_before false = codes "/"

abbrev pub slashed : Bool → List (List ℕ) → List ℕ
slashed first [] = []
slashed first (p ∷ ps) = (slash_before first ++ p) ++ slashed false ps

abbrev pub twice_word : Known → Twice → List ℕ
twice_word g (twice_constructor s) = text_of g s
twice_word g (twice_attribute name) = attribute_text name
twice_word g (twice_entry parts) = slashed true parts

-- Two pieces of rows, over what variables are called. A piece is no function: where both are, they are closed by a
-- binder under which they touch, which isn't printed; its variable gets a name as that of a printed binder does.
abbrev pub touching_words : Known → List (List ℕ) → Cn → Cn → List (List ℕ)
touching_words g called (lambda k l) (lambda j r) = touching_words g (new_name called k ∷ called) l r
touching_words g called l r = con_words g called 0 l ++ con_words g called 0 r

-- The text of a fault that the checker tells, over what is known of the program: its name, alone where the fault keeps
-- nothing; behind it two kinds or types that differ, two pieces of rows that aren't separated, a shape that no pattern
-- takes, or a name that is declared twice.
abbrev pub IsTextOf : Known → Fault → List ℕ → Type 0
IsTextOf g (unbound p name) text = IsUnboundText name text
IsTextOf g (kind_mismatch p wanted found) text =
    text ≡ codes "KindMismatch" ++ spaced (differing_words (kind_words false wanted) (kind_words false found))
IsTextOf g (mismatch p called wanted found) text =
    text ≡ codes "Mismatch"
    ++ spaced (differing_words (con_words g (texts_of g called) 0 wanted) (con_words g (texts_of g called) 0 found))
IsTextOf g (not_disjoint p called left right) text =
    text ≡ codes "NotDisjoint" ++ spaced (touching_words g (texts_of g called) left right)
IsTextOf g (inexhaustive p called shape) text =
    text ≡ codes "Inexhaustive" ++ spaced (shape_words g (texts_of g called) true shape)
IsTextOf g (redeclared p name) text = text ≡ codes "Redeclared " ++ twice_word g name
IsTextOf g (link_not_call p) text = text ≡ codes "LinkNotCall"
IsTextOf g (not_serialisable p) text = text ≡ codes "NotSerialisable"
IsTextOf g (too_large p) text = text ≡ codes "TooLarge"
IsTextOf g (not_built p) text = text ≡ codes "NotBuilt"

-- what is told of such a fault: its place, and its text
abbrev pub IsToldOver : Known → Fault → Place → List ℕ → Type 0
IsToldOver g fault place text = (place ≡ at fault) × IsTextOf g fault text

-- the same over a program, as the text of the module at that place
abbrev pub IsToldOf : Pg → Fault → Place → List ℕ → Type 0
IsToldOf p fault place text = IsToldOver (known_of p (at fault).file) fault place text

-- the same where no more is known than the texts of the symbols and the modules' names
abbrev pub IsToldBy : List (List ℕ) → List (List ℕ) → Fault → Place → List ℕ → Type 0
IsToldBy texts modules fault place text = IsToldOver (known_by texts modules (at fault).file) fault place text

-- What is told of a fault of inference, whose symbols have these texts: its place, and its text. A name that isn't
-- bound is told whole. Want of memory isn't told, and neither is a symbol that is wanted, for which the declaration is
-- elaborated anew, nor a form that isn't built yet: such forms are told before inference begins. Nor does inference
-- tell that there is no instance or no folder: it leaves a gap, which the checker tells.
abbrev pub IsToldOfElaboration : List (List ℕ) → List (List ℕ) → ElabFault → Place → List ℕ → Type 0
IsToldOfElaboration texts modules (elab.Unbound p name) place text = (place ≡ p) × (text ≡ codes "Unbound " ++ name)
IsToldOfElaboration texts modules (elab.Told fault) place text = IsToldBy texts modules (fault_tree fault) place text
IsToldOfElaboration texts modules (elab.NoInstance p) place text = ⊥
IsToldOfElaboration texts modules (elab.NoFolder p) place text = ⊥
IsToldOfElaboration texts modules (elab.Unsolved p) place text = (place ≡ p) × (text ≡ codes "Unsolved")
IsToldOfElaboration texts modules (elab.NotBuilt p) place text = ⊥
IsToldOfElaboration texts modules (elab.WantsFolder kind) place text = ⊥
IsToldOfElaboration texts modules elab.Memory place text = ⊥
