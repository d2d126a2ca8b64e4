-- Whole programs, worked out: one value, main, that returns one page; and one with a fault.
use Rattle.std.specs.Prelude.{true, false, [], ◌∷◌, ◌++◌, None, codes}
use Rattle.con_terms.specs.Trees.{Cn, name}
use Rattle.core_terms.specs.declared.exp.Sigil.TheVariants.{Plain}
use Rattle.core_terms.specs.declared.basis.BasisName.TheVariants.{Return}
use Rattle.xml_trees.specs.declared.source_name.TagName.TheVariants as word
use Rattle.core_terms.specs.Names.{basis_texts}
use Rattle.core_terms.specs.Types.{no_types, page_type, transaction_of}
use Rattle.core_terms.specs.Trees.{Ex, basis, call, element, no_items, with_term, tagged, no_attributes, no_nodes, a_sequence, val, thing, Pg}
use Rattle.core_typing.specs.Accepts.{Accepts}
use Rattle.core_typing.specs.Faults.{not_disjoint, not_built}
use Rattle.core_typing.specs.Tells.{ProgramTells}
use Rattle.core_typing.specs.ExampleTerms.{byte, said, with_added, in_html_row, a_name, x_name, s_name, example_texts, clashing}

-- <xml><body></body></xml>
abbrev pub empty_body : Ex
empty_body = said (element (tagged word.Body None in_html_row no_types no_attributes no_nodes))

-- val main : transaction page = return <xml><body></body></xml>
abbrev pub one_page : Pg
one_page = record {
  names = basis_texts ++ codes "main" ∷ [];
  modules = codes "Main" ∷ [];
  decls = val [] (byte 0) 36 true (transaction_of page_type) (said (call (said (basis Return)) Plain
      (with_added page_type (with_term empty_body no_items)))) ∷ [];
  rules = [];
  foreigns = [];
  folders = [];
  exports = 0 ∷ [];
}

-- The program is accepted.
abbrev pub OnePageIsAccepted : Type 0
OnePageIsAccepted = Accepts one_page

-- val x = {A = 1} ++ {A = 2}, with some type in place of the one that isn't written
abbrev pub clashing_program : Cn → Pg
clashing_program t = record {
  names = example_texts;
  modules = codes "Main" ∷ [];
  decls = val [] (byte 0) x_name false t clashing ∷ [];
  rules = [];
  foreigns = [];
  folders = [];
  exports = [];
}

-- Whatever that type is, told is not disjoint #A #A, at the first byte of the term.
abbrev pub ClashOfProgramIsTold : Type 0
ClashOfProgramIsTold = (t : Cn)
    → ProgramTells (clashing_program t) (not_disjoint (byte 8) [] (name a_name) (name a_name))

-- sequence s, with some type
abbrev pub one_sequence : Cn → Pg
one_sequence t = record {
  names = example_texts;
  modules = codes "Main" ∷ [];
  decls = thing [] (byte 0) s_name a_sequence t ∷ [];
  rules = [];
  foreigns = [];
  folders = [];
  exports = [];
}

-- Whatever that type is, told is that it isn't built, at the declaration.
abbrev pub SequenceIsTold : Type 0
SequenceIsTold = (t : Cn) → ProgramTells (one_sequence t) (not_built (byte 0))
