-- Trees as a page's text has them: tags and attributes by their bytes, and texts.
use Rattle.std.specs.Prelude.{◌≡◌, ◌≢◌, ℕ, Bool, true, false, List, [], ◌∷◌, ◌==◌, ◌||◌, ◌&&◌, nat_le, IsTrue, codes}
use Rattle.std.specs.List.{list_all}

-- an attribute's name, and the text that it holds
pub record Attribute : Type 0 where
  pub name : List ℕ
  pub text : List ℕ

-- trees one after another: none, a text and what follows it, or a tag with what it holds and what follows it
pub data Markup : Type 0 where
  Empty : Markup
  Characters : List ℕ → Markup → Markup
  Tagged : List ℕ → List Attribute → Markup → Markup → Markup

-- a small letter
abbrev pub is_letter : ℕ → Bool
is_letter c = nat_le 97 c && nat_le c 122

-- a byte that stands in a name
abbrev pub is_name_byte : ℕ → Bool
is_name_byte c = is_letter c || (nat_le 48 c && nat_le c 57) || (c == 45) || (c == 95)

-- a small letter, and then small letters, digits, dashes and low lines
abbrev pub IsName : List ℕ → Type 0
IsName [] = ⊥
IsName (c ∷ cs) = IsTrue (is_letter c) × IsTrue (list_all is_name_byte cs)

-- two lists of bytes are the same
abbrev pub same_bytes : List ℕ → List ℕ → Bool
same_bytes [] [] = true
same_bytes [] (d ∷ ds) = false
same_bytes (c ∷ cs) [] = false
same_bytes (c ∷ cs) (d ∷ ds) = (c == d) && same_bytes cs ds

-- a tag of this name has neither content nor a closing tag: a void element of HTML
abbrev pub is_void : List ℕ → Bool
is_void name =
    same_bytes name (codes "br") || same_bytes name (codes "hr") || same_bytes name (codes "img")
    || same_bytes name (codes "input")

-- the first of these trees is no text
abbrev pub BeginsNoText : Markup → Type 0
BeginsNoText Empty = Unit {0}
BeginsNoText (Characters text rest) = ⊥
BeginsNoText (Tagged name attributes inside rest) = Unit {0}

-- each attribute's name is a name
abbrev pub AreNamed : List Attribute → Type 0
AreNamed [] = Unit {0}
AreNamed (a ∷ more) = IsName a.name × AreNamed more

-- no text is empty, no two texts are neighbours, names are names, and a void tag holds nothing
abbrev pub IsNormal : Markup → Type 0
IsNormal Empty = Unit {0}
IsNormal (Characters text rest) = (text ≢ []) × BeginsNoText rest × IsNormal rest
IsNormal (Tagged name attributes inside rest) =
    IsName name × AreNamed attributes × IsNormal inside × IsNormal rest × (IsTrue (is_void name) → inside ≡ Empty)
