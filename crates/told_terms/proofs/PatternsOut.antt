-- A fault of a pattern excludes that the pattern is found, and what keeps patterns from covering a type excludes cover.
use Rattle.std.proofs.Common.{List, [], ap, ap₂, sym, ◌∙◌, subst}
use Rattle.con_terms.specs.Trees.{Cn}
use Rattle.row_normal.specs.Ordered.{ordered_pieces}
use Rattle.core_terms.specs.Trees.{Pt, Pfs}
use Rattle.core_terms.specs.Datatypes.{held_at}
use Rattle.core_typing.specs.Scopes.{Sc}
use Rattle.core_typing.specs.Compared.{field_of}
use Rattle.core_typing.specs.Faults.{Fault}
use Rattle.core_typing.specs.PatternFaults.{PatFound, binds_one, number_binds, text_binds, bare_binds, holding_binds, fields_bind, more_fields_bind, annotated_binds, PatFieldsFound, one_binds, PatFault, PatFieldsFault}
use Rattle.core_typing.specs.PatternFaults as pat
use Rattle.core_typing.proofs.OneType.{one_value, one_record, one_constructor, held_alike, one_left}
use Rattle.core_typing.proofs.Excluded.{differ_out, large_out, kind_out, none_left}
pub use Rattle.core_typing.proofs.Excluded.{cover_out, other_out, holds_out}
use Rattle.told_terms.proofs.Tests.{no_value}

mutual
  pub pattern_out : {G : Sc} {q : Pt} {t : Cn} {ts : List Cn} {f : Fault} → PatFault G q t f → PatFound G q t ts → ⊥
  pattern_out (pat.bad_kind f) (binds_one k h) = kind_out k f
  pattern_out (pat.other_type l d) (binds_one k h) = differ_out h d
  pattern_out (pat.large_type l d) (binds_one k h) = large_out h d
  pattern_out (pat.no_number d) (number_binds h) = differ_out h d
  pattern_out (pat.large_number l) (number_binds h) = large_out h l
  pattern_out (pat.no_text d) (text_binds h) = differ_out h d
  pattern_out (pat.large_text l) (text_binds h) = large_out h l
  pattern_out (pat.no_bare e) (bare_binds {c = c} a h) = e a.d c a.constructs
  pattern_out (pat.no_holding e) (holding_binds {c = c} a h q) = e a.d c a.constructs
  pattern_out (pat.other_bare x n e) (bare_binds a h) = other_out x n e a
  pattern_out (pat.other_holding x n e) (holding_binds a h q) = other_out x n e a
  pattern_out (pat.large_bare n) (bare_binds a h) = no_value n a.normal
  pattern_out (pat.large_holding n) (holding_binds a h q) = no_value n a.normal
  pattern_out (pat.holds_more a h d e) (bare_binds b g) = holds_out a b h g
  pattern_out (pat.holds_too_much a h d) (bare_binds b g) = holds_out a b h g
  pattern_out (pat.holds_less a h n) (holding_binds b g q) = holds_out b a g h
  pattern_out {G} (pat.in_held {held = m} {f = f} a h q) (holding_binds {ts = ts} {q = r} b g x) =
      let (c, as') = one_constructor a b in
      pattern_out q (subst (λ t. PatFound G r t ts) (sym (ap₂ held_at as' (held_alike c h g))) x)
  pattern_out (pat.no_record {n = n} e d) (fields_bind {r = r} h fs) = d r (one_value e h)
  pattern_out (pat.no_record {n = n} e d) (more_fields_bind {r = r} h fs) = d r (one_value e h)
  pattern_out (pat.large_record n) (fields_bind h fs) = no_value n h
  pattern_out (pat.large_record n) (more_fields_bind h fs) = no_value n h
  pattern_out {G} (pat.in_fields n f) (fields_bind {fs = fs} {ts = ts} h x) = fields_out f (subst (λ r. PatFieldsFound G fs (ordered_pieces r) [] ts) (sym (one_record n h)) x)
  pattern_out {G} (pat.in_fields n f) (more_fields_bind {fs = fs} {rest = rest} {ts = ts} h x) = fields_out f (subst (λ r. PatFieldsFound G fs (ordered_pieces r) rest ts) (sym (one_record n h)) x)
  pattern_out {G} (pat.fields_left n f) (fields_bind {fs = fs} {ts = ts} h x) = none_left (one_left f (subst (λ r. PatFieldsFound G fs (ordered_pieces r) [] ts) (sym (one_record n h)) x))
  pattern_out (pat.bad_annotation f) (annotated_binds k h q) = kind_out k f
  pattern_out (pat.other_annotation l d) (annotated_binds k h q) = differ_out h d
  pattern_out (pat.large_annotation l d) (annotated_binds k h q) = large_out h d
  pattern_out (pat.in_annotated l f) (annotated_binds k h q) = pattern_out f q

  pub fields_out : {G : Sc} {fs : Pfs} {ps rs ts : List Cn} {f : Fault} → PatFieldsFault G fs ps f → PatFieldsFound G fs ps rs ts → ⊥
  fields_out (pat.bad_name f) (one_binds k n p q fs) = kind_out k f
  fields_out (pat.large_name e) (one_binds k n p q fs) = no_value e n
  fields_out (pat.no_field {ps = ps} l m e) (one_binds k n p q fs) = no_value (ap (λ x. field_of x ps) (one_value n m) ∙ e) p
  fields_out {G} (pat.in_field {ps = ps} l m r f) (one_binds {q = q} {ts = ts} k n p x fs) =
      pattern_out f (subst (λ (y : Cn × List Cn). PatFound G q y.0 ts) (one_value p (ap (λ z. field_of z ps) (one_value n m) ∙ r)) x)
  fields_out {G} (pat.in_later_field {fs = gs} {ps = ps} l m r f) (one_binds {rs = rs} {us = us} k n p x fs) =
      fields_out f (subst (λ (y : Cn × List Cn). PatFieldsFound G gs y.1 rs us) (one_value p (ap (λ z. field_of z ps) (one_value n m) ∙ r)) fs)
