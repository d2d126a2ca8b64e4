-- The tags that take text and one another, by the names that sources give them.
use Rattle.std.proofs.Common.{◌≡◌, ◌≢◌, ℕ, List, Some, refl, subst}
use Rattle.std.specs.Prelude.{IsTrue}
use Rattle.xml_trees.specs.declared.tag.Tag.{Tag}
use Rattle.xml_trees.specs.declared.tag.Tag.TheVariants as page
use Rattle.xml_trees.specs.declared.source_name.TagName.{TagName}
use Rattle.xml_trees.specs.declared.source_name.TagName.TheVariants.{Head, Body, Title, P, Div, Span, B, I, Em, Strong, H1, H2, H3, H4, Ul, Ol, Li, Code, Blockquote, Br, Hr, A, Img, Table, Tr, Th, Td, Form, Textbox, Password, Hidden, Checkbox, Submit}
use Rattle.xml_trees.specs.Names.{name_bytes}
use Rattle.xml_trees.specs.Tags.{name_of, is_simple}
use Rattle.xml_trees.specs.SourceNames.{tag_text, simple_tag}

-- such a tag has the name's letters
pub simple_has : (text : List ℕ) (name : TagName) (tag : Tag) → tag_text name ≡ text → simple_tag name ≡ Some tag → IsTrue (is_simple tag) × (name_bytes (name_of tag) ≡ text)
simple_has text Head tag h e = cc
simple_has text Body tag h e = cc
simple_has text Title tag h e = cc
simple_has text P tag h e = let same : page.P ≡ tag = cc in subst (λ x. IsTrue (is_simple x) × (name_bytes (name_of x) ≡ text)) same (refl, h)
simple_has text Div tag h e = let same : page.Div ≡ tag = cc in subst (λ x. IsTrue (is_simple x) × (name_bytes (name_of x) ≡ text)) same (refl, h)
simple_has text Span tag h e = let same : page.Span ≡ tag = cc in subst (λ x. IsTrue (is_simple x) × (name_bytes (name_of x) ≡ text)) same (refl, h)
simple_has text B tag h e = let same : page.B ≡ tag = cc in subst (λ x. IsTrue (is_simple x) × (name_bytes (name_of x) ≡ text)) same (refl, h)
simple_has text I tag h e = let same : page.I ≡ tag = cc in subst (λ x. IsTrue (is_simple x) × (name_bytes (name_of x) ≡ text)) same (refl, h)
simple_has text Em tag h e = let same : page.Em ≡ tag = cc in subst (λ x. IsTrue (is_simple x) × (name_bytes (name_of x) ≡ text)) same (refl, h)
simple_has text Strong tag h e = let same : page.Strong ≡ tag = cc in subst (λ x. IsTrue (is_simple x) × (name_bytes (name_of x) ≡ text)) same (refl, h)
simple_has text H1 tag h e = let same : page.H1 ≡ tag = cc in subst (λ x. IsTrue (is_simple x) × (name_bytes (name_of x) ≡ text)) same (refl, h)
simple_has text H2 tag h e = let same : page.H2 ≡ tag = cc in subst (λ x. IsTrue (is_simple x) × (name_bytes (name_of x) ≡ text)) same (refl, h)
simple_has text H3 tag h e = let same : page.H3 ≡ tag = cc in subst (λ x. IsTrue (is_simple x) × (name_bytes (name_of x) ≡ text)) same (refl, h)
simple_has text H4 tag h e = let same : page.H4 ≡ tag = cc in subst (λ x. IsTrue (is_simple x) × (name_bytes (name_of x) ≡ text)) same (refl, h)
simple_has text Ul tag h e = let same : page.Ul ≡ tag = cc in subst (λ x. IsTrue (is_simple x) × (name_bytes (name_of x) ≡ text)) same (refl, h)
simple_has text Ol tag h e = let same : page.Ol ≡ tag = cc in subst (λ x. IsTrue (is_simple x) × (name_bytes (name_of x) ≡ text)) same (refl, h)
simple_has text Li tag h e = let same : page.Li ≡ tag = cc in subst (λ x. IsTrue (is_simple x) × (name_bytes (name_of x) ≡ text)) same (refl, h)
simple_has text Code tag h e = let same : page.Code ≡ tag = cc in subst (λ x. IsTrue (is_simple x) × (name_bytes (name_of x) ≡ text)) same (refl, h)
simple_has text Blockquote tag h e = let same : page.Blockquote ≡ tag = cc in subst (λ x. IsTrue (is_simple x) × (name_bytes (name_of x) ≡ text)) same (refl, h)
simple_has text Br tag h e = let same : page.Br ≡ tag = cc in subst (λ x. IsTrue (is_simple x) × (name_bytes (name_of x) ≡ text)) same (refl, h)
simple_has text Hr tag h e = let same : page.Hr ≡ tag = cc in subst (λ x. IsTrue (is_simple x) × (name_bytes (name_of x) ≡ text)) same (refl, h)
simple_has text A tag h e = cc
simple_has text Img tag h e = cc
simple_has text Table tag h e = cc
simple_has text Tr tag h e = cc
simple_has text Th tag h e = cc
simple_has text Td tag h e = cc
simple_has text Form tag h e = cc
simple_has text Textbox tag h e = cc
simple_has text Password tag h e = cc
simple_has text Hidden tag h e = cc
simple_has text Checkbox tag h e = cc
simple_has text Submit tag h e = cc

-- and each such tag has a name
pub simple_named : (text : List ℕ) → ((name : TagName) → tag_text name ≢ text) → (tag : Tag) → IsTrue (is_simple tag) → name_bytes (name_of tag) ≢ text
simple_named text h page.Head s = λ e. cc s
simple_named text h page.Body s = λ e. cc s
simple_named text h page.Title s = λ e. cc s
simple_named text h page.P s = h P
simple_named text h page.Div s = h Div
simple_named text h page.Span s = h Span
simple_named text h page.B s = h B
simple_named text h page.I s = h I
simple_named text h page.Em s = h Em
simple_named text h page.Strong s = h Strong
simple_named text h page.H1 s = h H1
simple_named text h page.H2 s = h H2
simple_named text h page.H3 s = h H3
simple_named text h page.H4 s = h H4
simple_named text h page.Ul s = h Ul
simple_named text h page.Ol s = h Ol
simple_named text h page.Li s = h Li
simple_named text h page.Code s = h Code
simple_named text h page.Blockquote s = h Blockquote
simple_named text h page.Br s = h Br
simple_named text h page.Hr s = h Hr
simple_named text h page.A s = λ e. cc s
simple_named text h page.Img s = λ e. cc s
simple_named text h page.Table s = λ e. cc s
simple_named text h page.Tr s = λ e. cc s
simple_named text h page.Th s = λ e. cc s
simple_named text h page.Td s = λ e. cc s
simple_named text h page.Form s = λ e. cc s
simple_named text h (page.Textbox field) s = λ e. cc s
simple_named text h (page.Password field) s = λ e. cc s
simple_named text h (page.Hidden field) s = λ e. cc s
simple_named text h (page.Checkbox field) s = λ e. cc s
simple_named text h page.Submit s = λ e. cc s
