-- Names among others.
use Rattle.std.proofs.Common.{◌≡◌, ℕ, ◌<◌, ◌≤◌, ◌+◌, true, false, ◌||◌, ◌&&◌, List, ◌∷◌, ◌++◌, length, take}
use Rattle.std.proofs.Common.{drop, get_or, sym, ap, ap₂, ◌∙◌, subst}
use Rattle.std.specs.Prelude.{bytes_eq}
use Rattle.std.proofs.lemmas.List.{take-append-drop, take_all, drop_more, at_drop_more, at_drop_all}
use Rattle.std.proofs.lemmas.List.Folds.{list_all_more}
use Rattle.project_files.specs.Lines.{Line}
use Rattle.project_files.specs.Projects.{is_among}
use Rattle.project_sources.specs.Projects.{AllThere, IsFirstUnknown}

-- a text is among the others from a place on where it stands there, or behind it
among_more : (text : Line) (others : List Line) (i : ℕ) (x : Line) → i < length others → x ≡ get_or others i x
    → is_among text (drop i others) ≡ (bytes_eq x text || is_among text (drop (i + 1) others))
among_more text others i x below is =
    at_drop_more (λ rest. is_among text rest) others i x below ∙ ap (λ y. bytes_eq y text || is_among text (drop
    (i + 1) others)) (sym is)

pub among_here : (text : Line) (others : List Line) (i : ℕ) (x : Line) → i < length others → x ≡ get_or others i x
    → bytes_eq x text ≡ true
    → is_among text (drop i others) ≡ is_among text others → true ≡ is_among text others
among_here text others i x below is same so = sym (among_more text others i x below is ∙ ap (λ b. b || is_among text
    (drop (i + 1) others)) same) ∙ so

pub among_behind : (text : Line) (others : List Line) (i : ℕ) (x : Line) → i < length others → x ≡ get_or others i x
    → bytes_eq x text ≡ false
    → is_among text (drop i others) ≡ is_among text others → is_among text (drop (i + 1) others) ≡ is_among text others
among_behind text others i x below is other so = sym (among_more text others i x below is ∙ ap
    (λ b. b || is_among text (drop (i + 1) others)) other) ∙ so

pub among_none : (text : Line) (others : List Line) (i : ℕ) → length others ≤ i → is_among text
    (drop i others) ≡ is_among text others → false ≡ is_among text others
among_none text others i past so = sym (at_drop_all (λ rest. is_among text rest) others i past) ∙ so

-- one name more that is there
pub known_more : (objects names : List Line) (i : ℕ) (name : Line) → i < length names → name ≡ get_or names i name
    → is_among name objects ≡ true
    → AllThere objects (take i names) → AllThere objects (take (i + 1) names)
known_more objects names i name below is there known =
    list_all_more (λ n. is_among n objects) names i name below ∙ ap₂ (λ a b. a && b) known (ap
    (λ n. is_among n objects) (sym is) ∙ there)

-- or the first that isn't
pub first_unknown : (objects names : List Line) (i : ℕ) (name : Line) → i < length names
    → name ≡ get_or names i name → is_among name objects ≡ false
    → AllThere objects (take i names) → IsFirstUnknown objects names name
first_unknown objects names i name below is unknown known = record {
  before = take i names;
  after = drop (i + 1) names;
  names_are = sym (take-append-drop i names) ∙ ap (λ l. take i names ++ l) (drop_more names i name below ∙ ap
      (λ l. l ∷ drop (i + 1) names) (sym is));
  known = known;
  unknown = unknown;
}

pub all_known : (objects names : List Line) (i : ℕ) → length names ≤ i → AllThere objects (take i names)
    → AllThere objects names
all_known objects names i past known = subst (λ ns. AllThere objects ns) (take_all i names past) known
