-- What is told of the folder of a row.
use Rattle.std.proofs.Common.{◌≡◌, ℕ, Bool, Option, Some, None, Result, Ok, Err, refl}
use Rattle.con_terms.specs.Trees.{Kd, row_of, Cn, row, Prs}
use Rattle.con_terms.specs.declared.place.Place.{Place}
use Rattle.kind_rules.specs.Flaws.{Flw}
use Rattle.kind_rules.specs.Kinding.{judged_at}
use Rattle.core_terms.specs.Trees.{Ex, node, folder}
use Rattle.core_typing.specs.Scopes.{Sc, folder_of}
use Rattle.core_typing.specs.Judged.{LacksKind, lacks, flaw_at}
use Rattle.core_typing.specs.Faults.{Fault, unbound, a_folder}
use Rattle.core_typing.specs.Found.{Found, folder_has}
use Rattle.core_typing.specs.Own.{Own}
use Rattle.core_typing.specs.Own as own
use Rattle.core_typing.specs.Tells.{Sub}
use Rattle.core_typing.proofs.DecidedForms.{none_some}
use Rattle.core_typing.proofs.Excluded.{kind_out}
use Rattle.told_faults.specs.Computed.{flawed, first}
use Rattle.told_faults.specs.Heads.{Kindly, kindly, unkind}
use Rattle.told_faults.specs.Told.{Verdict, Picks, Or, or_first, or_second, Just, just}
use Rattle.told_faults.proofs.Parts.{kind_is, picks_flaw}
use Rattle.told_faults.proofs.Verdict.{picks_two, picks_as, picks_just}
use Rattle.node_rules.specs.Records.{folder_type, of_folder_at, of_folder}
use Rattle.told_terms.proofs.Verdicts.{no_part}

no_sub : (G : Sc) (p : Place) (a : Bool) (k : Kd) (ps : Prs) (H : Sc) (c : Ex) → Sub G (node p a (folder k ps)) H c → ⊥
no_sub G p a k ps H c s = elim s [ ]

-- no folder for the kind
without_folder : (G : Sc) (p : Place) (a : Bool) (k : Kd) (ps : Prs) (r : Result Kd Flw) → folder_of G.folders k ≡ None → Kindly G (row k ps) (row_of k) r → Verdict G (node p a (folder k ps)) (of_folder_at G p k ps r None)
without_folder G p a k ps r e v = no_part G (node p a (folder k ps)) None (first (Some (unbound p (a_folder k))) (flawed G p r)) none (no_sub G p a k ps) (picks_as (Or (Just (unbound p (a_folder k))) (LacksKind G p (row k ps) (row_of k))) (Own G (node p a (folder k ps))) (first (Some (unbound p (a_folder k))) (flawed G p r)) there back (picks_two (Just (unbound p (a_folder k))) (LacksKind G p (row k ps) (row_of k)) (Some (unbound p (a_folder k))) (flawed G p r) (picks_just (unbound p (a_folder k))) (picks_flaw G p (row k ps) (row_of k) r v)))
  where
    none : (t : Cn) → Found G (node p a (folder k ps)) t → ⊥
    none t (folder_has h x) = none_some e h

    there : (f : Fault) → Or (Just (unbound p (a_folder k))) (LacksKind G p (row k ps) (row_of k)) f → Own G (node p a (folder k ps)) f
    there f (or_first just) = own.no_folder e
    there f (or_second x) = own.folder_kind x

    back : (f : Fault) → Own G (node p a (folder k ps)) f → Or (Just (unbound p (a_folder k))) (LacksKind G p (row k ps) (row_of k)) f
    back f (own.no_folder h) = or_first just
    back f (own.folder_kind x) = or_second x

-- a folder for the kind
kind_alone : (G : Sc) (p : Place) (a : Bool) (k : Kd) (ps : Prs) (s : ℕ) (r : Result Kd Flw) → folder_of G.folders k ≡ Some s → Kindly G (row k ps) (row_of k) r → Picks (Own G (node p a (folder k ps))) (flawed G p r)
kind_alone G p a k ps s r e v = picks_as (LacksKind G p (row k ps) (row_of k)) (Own G (node p a (folder k ps))) (flawed G p r) (λ f x. own.folder_kind x) back (picks_flaw G p (row k ps) (row_of k) r v)
  where
    back : (f : Fault) → Own G (node p a (folder k ps)) f → LacksKind G p (row k ps) (row_of k) f
    back f (own.no_folder h) = absurd (none_some h e)
    back f (own.folder_kind x) = x

with_folder : (G : Sc) (p : Place) (a : Bool) (k : Kd) (ps : Prs) (s : ℕ) {r : Result Kd Flw} → folder_of G.folders k ≡ Some s → Kindly G (row k ps) (row_of k) r → Verdict G (node p a (folder k ps)) (of_folder_at G p k ps r (Some s))
with_folder G p a k ps s e (kindly {l = l} h) = no_part G (node p a (folder k ps)) (Some (folder_type s k ps)) None (folder_has e h) (no_sub G p a k ps) (kind_alone G p a k ps s (Ok l) e (kindly h))
with_folder G p a k ps s e (unkind {w = w} x) = no_part G (node p a (folder k ps)) None (Some (flaw_at p G.called w)) none (no_sub G p a k ps) (kind_alone G p a k ps s (Err w) e (unkind x))
  where
    none : (t : Cn) → Found G (node p a (folder k ps)) t → ⊥
    none t (folder_has g h) = kind_out h (lacks {p = p} x)

by_folder : (G : Sc) (p : Place) (a : Bool) (k : Kd) (ps : Prs) (o : Option ℕ) (r : Result Kd Flw) → folder_of G.folders k ≡ o → Kindly G (row k ps) (row_of k) r → Verdict G (node p a (folder k ps)) (of_folder_at G p k ps r o)
by_folder G p a k ps None r e v = without_folder G p a k ps r e v
by_folder G p a k ps (Some s) r e v = with_folder G p a k ps s e v

pub folder_told : (G : Sc) (p : Place) (a : Bool) (k : Kd) (ps : Prs) → Verdict G (node p a (folder k ps)) (of_folder G p k ps)
folder_told G p a k ps = by_folder G p a k ps (folder_of G.folders k) (judged_at G.kinds (row k ps) (row_of k)) refl (kind_is G (row k ps) (row_of k))
