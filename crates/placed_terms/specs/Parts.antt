-- What is still to be listed of two declarations, part by part: what the parts stand for.
use Rattle.std.specs.Borrow.{Bor}
use Rattle.std.specs.Prelude.{ℕ, Bool, false, List, [], ◌∷◌, map, Option, Some, None}
use Rattle.con_terms.specs.declared.place.Place.{Place}
use Rattle.core_terms.specs.Strip.{strip, strip_pattern}
use Rattle.core_terms.specs.Trees.{De}
use Rattle.core_terms.specs.View.{decl_tree, pat_tree, exp_tree}
use Rattle.core_terms.specs.declared.decl.Decl.{Decl}
use Rattle.plain_tree.specs.ConView as pattern
use Rattle.plain_tree.specs.ExpView as plain
use Rattle.placed_terms.specs.Made as place
use Rattle.placed_terms.specs.MadeItems.{named_places}
use Rattle.placed_terms.specs.Source as byte
use Rattle.placed_terms.specs.SourceItems.{named_bytes}
use Rattle.placed_terms.specs.declared.made_parts.MadePart.{MadePart}
use Rattle.placed_terms.specs.declared.made_parts.MadePart.TheVariants as of_made
use Rattle.placed_terms.specs.declared.source_parts.SourcePart.{SourcePart}
use Rattle.placed_terms.specs.declared.source_parts.SourcePart.TheVariants as of_source

-- what each element of a list gives before what follows it
abbrev pub then_all : {A B : Type 0} → (A → B → B) → List A → B → B
then_all one [] more = more
then_all one (x ∷ xs) more = one x (then_all one xs more)

-- the places of a part of a program, without what was inserted, before those that follow
abbrev pub made_then : MadePart → List Place → List Place
made_then (of_made.At p) more = p ∷ more
made_then (of_made.Term e) more = place.exp_then (strip (exp_tree e.now)) more
made_then (of_made.Pattern p) more = place.pattern_then (strip_pattern (pat_tree p.now)) more
made_then (of_made.Names ns) more = then_all named_places ns.now more

-- the places of parts, of which the last one comes first, before those that follow
abbrev pub made_before : List MadePart → List Place → List Place
made_before [] more = more
made_before (x ∷ xs) more = made_before xs (made_then x more)

abbrev pub made_listed : List MadePart → List Place
made_listed xs = made_before xs []

-- the bytes of a part of a source, before those that follow
abbrev pub source_then : SourcePart → List ℕ → List ℕ
source_then (of_source.At n) more = n ∷ more
source_then (of_source.Term e) more = byte.exp_then (plain.exp_tree e.now) more
source_then (of_source.Pattern p) more = byte.pattern_then (pattern.pat_tree p.now) more
source_then (of_source.Names ns) more = then_all named_bytes ns.now more
source_then (of_source.Node n) more = byte.node_then (plain.node_tree n.now) more

-- the bytes of parts, of which the last one comes first, before those that follow
abbrev pub source_before : List SourcePart → List ℕ → List ℕ
source_before [] more = more
source_before (x ∷ xs) more = source_before xs (source_then x more)

abbrev pub source_listed : List SourcePart → List ℕ
source_listed xs = source_before xs []

-- a first element before a list; without one all was listed
abbrev pub first_before : {A : Type 0} → Option A → List A → List A
first_before None xs = []
first_before (Some x) xs = x ∷ xs

-- a test of the declarations behind a module, where these are reached
abbrev pub behind : Option (Bor (List Decl)) → (List De → Bool) → Bool
behind None test = false
behind (Some es) test = test (map decl_tree es.now)
