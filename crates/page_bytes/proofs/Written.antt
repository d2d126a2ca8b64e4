-- From what was put out to what writing a page does.
use Rattle.std.proofs.Common.{◌≡◌, ℕ, List, [], ◌++◌, Result, Ok, Err, OnOk, OnErr, sym, ap, ◌∙◌, subst, append-nil}
use Rattle.std.specs.declared.option.Option.{Option}
use Rattle.std.specs.Io.KnownBytes.{Appends}
use Rattle.xml_trees.specs.declared.page.Piece.{Piece}
use Rattle.xml_trees.specs.Trees.{Whole, Nothing, built, trees_of, IsWhole, AreNested}
use Rattle.xml_trees.specs.Markup.{Markup}
use Rattle.xml_trees.specs.Written.{written}
use Rattle.xml_trees.specs.Grammar.{IsPage}
use Rattle.xml_trees.specs.PieceText.{page_bytes, PiecesArePages}
use Rattle.page_bytes.specs.Puts.{Puts}
use Rattle.page_bytes.specs.Pages.{WritesPage, WritesFront}

pub page_of : PiecesArePages → (pieces page : List Piece) → AreNested (Whole Nothing) pieces → IsWhole (built page) → pieces ≡ page → IsPage (page_bytes pieces) (written (trees_of (built page)))
page_of law pieces page nested whole same =
    subst (λ (ps : List Piece). IsPage (page_bytes pieces) (written (trees_of (built ps)))) same
    (law pieces nested (subst (λ (ps : List Piece). IsWhole (built ps)) (sym same) whole))

pub writes_page : {E : Type 0} (r : Result (Unit {0}) E) (a b : Option (List ℕ)) (h k : List ℕ) (f g : ℕ) (bytes : List ℕ) (trees : Markup)
    → h ≡ [] → OnOk r (k ≡ []) → IsPage bytes trees → Puts r a b h k f g bytes → OnOk r (WritesPage a b trees)
writes_page (Err e) a b h k f g bytes trees none all page p = tt
writes_page (Ok u) a b h k f g bytes trees none all page p =
    let whole : p.sends.0 ≡ bytes =
    sym (append-nil p.sends.0) ∙ ap (λ (l : List ℕ). p.sends.0 ++ l) (sym all) ∙ p.sends.2 ∙ ap (λ (l : List ℕ). l ++ bytes) none in
    (bytes, page, subst (λ (l : List ℕ). Appends a b l) whole p.sends.1)

pub writes_front : {E : Type 0} (r : Result (Unit {0}) E) (a b : Option (List ℕ)) (h k : List ℕ) (f g : ℕ) (bytes : List ℕ) (trees : Markup)
    → h ≡ [] → IsPage bytes trees → Puts r a b h k f g bytes → OnErr r (WritesFront a b trees)
writes_front (Ok u) a b h k f g bytes trees none page p = tt
writes_front (Err e) a b h k f g bytes trees none page p =
    let whole : p.stops.0 ++ p.stops.1 ≡ bytes = p.stops.3 ∙ ap (λ (l : List ℕ). l ++ bytes) none in
    (p.stops.0, p.stops.1, subst (λ (l : List ℕ). IsPage l trees) (sym whole) page, p.stops.2)
