-- The grammar of a page's text: which bytes stand for which trees.
use Rattle.std.specs.Prelude.{◌≡◌, ◌≢◌, ℕ, true, false, List, [], ◌∷◌, ◌++◌, codes}
use Rattle.xml_trees.specs.Trees.{Trees}
use Rattle.xml_trees.specs.Markup.{Attribute, Markup, Empty, Characters, Tagged, IsName, is_void, BeginsNoText, IsNormal}
use Rattle.xml_trees.specs.Written.{written}

-- A byte of a text: an escape for `&`, `<` and `>`, and any other byte as it is.
pub data IsCharacter : List ℕ → ℕ → Type 0 where
  Ampersand : IsCharacter (codes "&amp;") 38
  Less : IsCharacter (codes "&lt;") 60
  Greater : IsCharacter (codes "&gt;") 62
  Itself : (c : ℕ) → c ≢ 38 → c ≢ 60 → c ≢ 62 → IsCharacter (c ∷ []) c

-- A byte of an attribute's text: an escape for `"` too.
pub data IsQuoted : List ℕ → ℕ → Type 0 where
  Quote : IsQuoted (codes "&quot;") 34
  Other : (bytes : List ℕ) (c : ℕ) → c ≢ 34 → IsCharacter bytes c → IsQuoted bytes c

-- A text: the bytes of each of its bytes, one after another.
pub data IsText : List ℕ → List ℕ → Type 0 where
  NoText : IsText [] []
  MoreText : (front behind : List ℕ) (c : ℕ) (text : List ℕ) → IsCharacter front c → IsText behind text
      → IsText (front ++ behind) (c ∷ text)

-- An attribute's text.
pub data IsValue : List ℕ → List ℕ → Type 0 where
  NoValue : IsValue [] []
  MoreValue : (front behind : List ℕ) (c : ℕ) (text : List ℕ) → IsQuoted front c → IsValue behind text
      → IsValue (front ++ behind) (c ∷ text)

-- Attributes: for each one a space, its name, and its text in quotes behind an equals sign.
pub data AreAttributes : List ℕ → List Attribute → Type 0 where
  NoAttributes : AreAttributes [] []
  MoreAttributes : (value behind : List ℕ) (a : Attribute) (more : List Attribute)
      → IsName a.name → IsValue value a.text → AreAttributes behind more
      → AreAttributes (codes " " ++ (a.name ++ (codes "=\"" ++ (value ++ (codes "\"" ++ behind))))) (a ∷ more)

-- Trees one after another.
pub data IsMarkup : List ℕ → Markup → Type 0 where
  -- nothing
  NoMarkup : IsMarkup [] Empty
  -- a text that isn't empty, and what follows it, which is no text
  Text : (front behind text : List ℕ) (rest : Markup)
      → text ≢ [] → BeginsNoText rest → IsText front text → IsMarkup behind rest
      → IsMarkup (front ++ behind) (Characters text rest)
  -- a tag that holds nothing and isn't closed
  Void : (name front behind : List ℕ) (attributes : List Attribute) (rest : Markup) → IsName name → is_void name ≡ true
      → AreAttributes front attributes → IsMarkup behind rest
      → IsMarkup (codes "<" ++ (name ++ (front ++ (codes ">" ++ behind)))) (Tagged name attributes Empty rest)
  -- a tag, what it holds, and its closing tag
  Closed : (name front content behind : List ℕ) (attributes : List Attribute) (inside rest : Markup)
      → IsName name → is_void name ≡ false
      → AreAttributes front attributes → IsMarkup content inside → IsMarkup behind rest
      → IsMarkup
      (codes "<" ++ (name ++ (front ++ (codes ">" ++ (content ++ (codes "</" ++ (name ++ (codes ">" ++ behind))))))))
      (Tagged name attributes inside rest)

-- A page: the doctype, and the trees within `html`.
abbrev pub IsPage : List ℕ → Markup → Type 0
IsPage bytes trees =
    (content : List ℕ) × (bytes ≡ codes "<!DOCTYPE html><html>" ++ (content ++ codes "</html>"))
    × IsMarkup content trees

-- No two trees have one text.
abbrev pub PagesAreUnique : Type 0
PagesAreUnique = (bytes : List ℕ) (t u : Markup) → IsPage bytes t → IsPage bytes u → t ≡ u

-- No two texts stand for one tree.
abbrev pub TextsAreUnique : Type 0
TextsAreUnique = (bytes other : List ℕ) (t : Markup) → IsPage bytes t → IsPage other t → bytes ≡ other

-- What is written has no empty text and no two neighbouring ones, and nothing in a void tag.
abbrev pub WrittenIsNormal : Type 0
WrittenIsNormal = (t : Trees) → IsNormal (written t)
