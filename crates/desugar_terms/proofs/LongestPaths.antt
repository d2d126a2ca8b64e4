-- A path that is read dot by dot is the longest one.
use Rattle.std.proofs.Common.{◌≡◌, ℕ, Bool, true, false, if◌then◌else◌, List, [], ◌∷◌, ◌++◌, refl, ap, sym, ◌∙◌, append_assoc}
use Rattle.plain_tree.specs.Trees.{LinkTree}
use Rattle.desugar_values.specs.Meanings.{MeaningTree, MeaningsTree, meaning}
use Rattle.desugar_terms.specs.Dots.{dot_of, dots_of}
use Rattle.desugar_terms.specs.Paths.{NamesTree, ReachedTree, going, ended, path_to, text_of, is_upper, is_lower, longest, one_more, finish}

-- upper-case names, with one more dot, by what the dot is
pub go_on_more : (upper lower : Bool) (modules : List (List ℕ)) (name text : List ℕ) (m : MeaningTree)
    (rest : MeaningsTree)
    → finish (if upper then going (modules ++ name ∷ []) text
    else if lower then ended (record { path = path_to (modules ++ name ∷ []) text; is_value = true; links = [] })
    else ended (record { path = path_to modules name; is_value = false; links = dot_of m ∷ [] })) rest
    ≡ (if upper then longest (modules ++ name ∷ []) text rest
    else if lower then record { path = path_to (modules ++ name ∷ []) text; is_value = true; links = dots_of rest }
    else record { path = path_to modules name; is_value = false; links = dots_of (meaning m rest) })
go_on_more true lower modules name text m rest = refl
go_on_more false true modules name text m rest = refl
go_on_more false false modules name text m rest = refl

-- the same path with these projections
abbrev with_these : NamesTree → List LinkTree → NamesTree
with_these names links = record { path = names.path; is_value = names.is_value; links = links }

-- one more dot is one fewer that is left
pub finish_more : (r : ReachedTree) (m : MeaningTree) (rest : MeaningsTree)
    → finish (one_more r m) rest ≡ finish r (meaning m rest)
finish_more (going modules name) m rest = go_on_more (is_upper m) (is_lower m) modules name (text_of m) m rest
finish_more (ended names) m rest = ap (with_these names) (append_assoc names.links (dot_of m ∷ []) (dots_of rest))

-- what a loop keeps: what has been read, finished with what is left
pub step_kept : (r more : ReachedTree) (m : MeaningTree) (rest all : MeaningsTree) (x : NamesTree)
    → more ≡ one_more r m → all ≡ meaning m rest → finish r all ≡ x → finish more rest ≡ x
step_kept r more m rest all x is_more is_all kept =
    ap (λ z. finish z rest) is_more ∙ finish_more r m rest ∙ ap (λ ms. finish r ms) (sym is_all) ∙ kept
