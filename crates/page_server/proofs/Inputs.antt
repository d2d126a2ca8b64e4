-- From the bytes that were read to what the top call says of the input.
use Rattle.std.proofs.Common.{take, ◌≡◌, ℕ, ◌≤◌, ◌<◌, List, [], ◌++◌, ◌⊎◌, Some, None, IfSome, length, refl, sym, ap, ◌∙◌, subst, inl, inr, append-nil, length-append, arith}
use Rattle.std.proofs.lemmas.Bool.{cases_lt}
use Rattle.std.proofs.lemmas.List.{take_at}
use Rattle.std.specs.declared.option.Option.{Option}
use Rattle.std.specs.Io.KnownBytes.{Consumes, Appends, IsAtEnd}
use Rattle.xml_trees.specs.Trees.{Trees}
use Rattle.xml_trees.specs.Written.{written}
use Rattle.page_bytes.specs.Pages.{WritesPage, WritesFront}
use Rattle.ur_outside.specs.Files.{Told}
use Rattle.ur_outside.specs.Whole.{AppendsFront}
use Rattle.ur_parser.specs.Sources.{module_part}
use Rattle.project_sources.specs.Texts.{HasNoTree, too_long, no_text, no_tokens, no_node}
use Rattle.project_sources.specs.declared.fault.SourceFault.{SourceFault}
use Rattle.site_build.specs.Causes.{IsCauseIn, IsCauseOfFile, IsCauseOfText, only_file}
use Rattle.site_build.specs.Lines.{line_of as line_of_build}
use Rattle.site_build.specs.Unshown.{HasNoPage}
use Rattle.site_build.specs.declared.fault.BuildFault.{BuildFault}
use Rattle.site_build.specs.declared.fault.BuildFault.TheVariants.{Source, NotBuilt, Refused, ReadFault, Memory}
use Rattle.page_server.specs.Top.{PageIsWritten, RefusalIsWritten, FrontIsWritten, IsMeant, UnbuiltIsWritten}

-- what was read to the end is all there was
whole : (x y v : List ℕ) → x ≡ v ++ y → y ≡ [] → v ≡ x
whole x y v p q = sym (p ∙ ap (λ (l : List ℕ). v ++ l) q ∙ append-nil v)

-- what was read is no longer than what there was
no_longer : (x y v : List ℕ) → x ≡ v ++ y → length v ≤ length x
no_longer x y v p = omega (arith, ap (λ (l : List ℕ). length l) p, length-append v y)

-- what is too long for a file is no module's text
over : (n : ℕ) → 4194304 < n → n ≤ 4194304 → ⊥
over n long few = omega (arith, long, few)

-- a front that is too long has no tree for the cause for which the whole has none
long_tree : (x v : List ℕ) (fault : SourceFault) → length v ≤ length x → 4194304 < length v
    → HasNoTree module_part only_file v fault → HasNoTree module_part only_file x fault
long_tree x v fault le long (too_long l e) = too_long (omega (arith, le, long)) e
long_tree x v fault le long (no_text few bad e) = absurd (over (length v) long few)
long_tree x v fault le long (no_tokens text tokens told lexes e) = absurd (over (length v) long text.0)
long_tree x v fault le long (no_node text ts told tokens exact other e) = absurd (over (length v) long text.0)

long_file : (x v : List ℕ) (fault : SourceFault) → length v ≤ length x → 4194304 < length v → IsCauseOfFile v fault → IsCauseOfFile x fault
long_file x v fault le long (inl h) = inl (long_tree x v fault le long h)
long_file x v fault le long (inr (tree, is, many, e)) = absurd (over (length v) long is.text.0)

long_cause : (x v : List ℕ) (fault : BuildFault) → length v ≤ length x → 4194304 < length v → IsCauseOfText v fault → IsCauseOfText x fault
long_cause x v (Source fault) le long h = long_file x v fault le long h
long_cause x v (NotBuilt file at) le long (tree, is, few, h) = absurd (over (length v) long is.text.0)
long_cause x v (Refused file at told) le long (tree, is, few, h) = absurd (over (length v) long is.text.0)
long_cause x v ReadFault le long h = tt
long_cause x v Memory le long h = tt

-- a front that is too long has no page for the cause for which the whole has none
long_page : (x v line : List ℕ) → length v ≤ length x → 4194304 < length v → HasNoPage v line → HasNoPage x line
long_page x v line le long (inl (fault, cause, is)) = inl (fault, long_cause x v fault le long cause, is)
long_page x v line le long (inr (p, (tree, is, says), accepted, unshown)) = absurd (over (length v) long is.text.0)

-- what was read has no page, so the input has none
no_page : (x y v line : List ℕ) → x ≡ v ++ y → (length v < 4194305 → y ≡ []) → HasNoPage v line → HasNoPage x line
no_page x y v line p q h = elim (cases_lt (length v) 4194305) [
  | inl short ↦ subst (λ (l : List ℕ). HasNoPage l line) (whole x y v p (q short)) h
  | inr long ↦ long_page x v line (no_longer x y v p) (omega (arith, long)) h
]

-- and the line that says why was written
pub refusal : (before left old new : Option (List ℕ)) (v : List ℕ) → Consumes before left v → (length v < 4194305 → IsAtEnd left)
    → ((line : List ℕ) × HasNoPage v line × Appends old new line) → RefusalIsWritten before old new
refusal None left old new v p q w = tt
refusal (Some x) None old new v p q w = absurd p
refusal (Some x) (Some y) old new v p q (line, h, grew) = (line, no_page x y v line p q h, grew)

-- a text with a page isn't too long, so that it was read whole
meant_whole : (x y v : List ℕ) (trees : Trees) → x ≡ v ++ y → (length v < 4194305 → y ≡ []) → IsMeant v trees → (y ≡ []) × IsMeant x trees
meant_whole x y v trees p q (g, (tree, is, says), accepted, shown) =
    let end : y ≡ [] = q (omega (arith, is.text.0)) in
    (end, subst (λ (l : List ℕ). IsMeant l trees) (whole x y v p end) (g, (tree, is, says), accepted, shown))

-- its page was written
pub page : (before left old new : Option (List ℕ)) (v : List ℕ) → Consumes before left v → (length v < 4194305 → IsAtEnd left)
    → ((trees : Trees) × IsMeant v trees × WritesPage old new (written trees)) → PageIsWritten before left old new
page None left old new v p q w = tt
page (Some x) None old new v p q w = absurd p
page (Some x) (Some y) old new v p q (trees, meant, w) =
    let (end, here) = meant_whole x y v trees p q meant in
    (end, trees, here, w)

-- what was written is a front of the page, or of the line that says why there is none
abbrev FrontOf : List ℕ → Option (List ℕ) → Option (List ℕ) → Type 0
FrontOf v old new = ((line : List ℕ) × HasNoPage v line × AppendsFront old new line)
    ⊎ ((trees : Trees) × IsMeant v trees × WritesFront old new (written trees))

front_read : (before left old new : Option (List ℕ)) (v : List ℕ) → Consumes before left v → (length v < 4194305 → IsAtEnd left)
    → FrontOf v old new → FrontIsWritten before old new
front_read None left old new v p q w = tt
front_read (Some x) None old new v p q w = absurd p
front_read (Some x) (Some y) old new v p q (inl (line, h, grew)) = (line, inr (no_page x y v line p q h), grew)
front_read (Some x) (Some y) old new v p q (inr (trees, meant, (some, rest, is, grew))) =
    let (end, here) = meant_whole x y v trees p q meant in
    let same : take (length some) (some ++ rest) ≡ some = take_at some rest (length some) refl in
    (some ++ rest, inl (trees, here, is), (length some, subst (Appends old new) (sym same) grew))

pub front : (before left old new : Option (List ℕ)) (v u : List ℕ) → Consumes before left v → (length v < 4194305 → IsAtEnd left) → u ≡ v
    → FrontOf u old new → FrontIsWritten before old new
front before left old new v u p q same w = front_read before left old new v p q (subst (λ (l : List ℕ). FrontOf l old new) same w)

-- ---- projects

-- a project isn't built, and the line that says why was written
pub unbuilt : (told : Option Told) (dir : List ℕ) (old new : Option (List ℕ)) (fault : BuildFault) → IfSome told (λ files. IsCauseIn files dir [] fault)
    → ((line : List ℕ) × (line_of_build fault ≡ Some line) × Appends old new line) → UnbuiltIsWritten told dir old new
unbuilt told dir old new fault h (line, is, grew) = (fault, line, is, grew, h)
