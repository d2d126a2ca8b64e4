-- Names, literals, constructors and folders.
use Rattle.std.proofs.Common.{◌≡◌, ℕ, ℤ, Bool, true, false, List, Option, Some, None, Result, nat_lt, slice_get, if◌then◌else◌, refl}
use Rattle.std.proofs.lemmas.Bool.{ltb-true}
use Rattle.con_terms.specs.Trees.{Kd, Cn, arrow, row, row_of, Prs}
use Rattle.con_terms.specs.declared.place.Place.{Place}
use Rattle.kind_rules.specs.Flaws.{Flw}
use Rattle.core_terms.specs.declared.basis.BasisName.{BasisName}
use Rattle.core_terms.specs.Trees.{node, bound, top, foreign, basis, fold_over, number, text, built, folder, Cd, Dt}
use Rattle.core_terms.specs.Types.{string_type, unit_type, transaction_of}
use Rattle.core_terms.specs.Datatypes.{datatype_of}
use Rattle.core_typing.specs.Scopes.{Sc, folder_of}
use Rattle.core_typing.specs.Faults.{unbound, a_variable, a_value, an_effect, a_constructor}
use Rattle.core_typing.specs.Found.{bound_has, top_has, foreign_has, basis_has, fold_has, number_has, text_has, built_has, folder_has}
use Rattle.told_faults.specs.Computed.{typed, faulty}
use Rattle.told_faults.specs.Heads.{Kindly, kindly, unkind}
use Rattle.told_faults.proofs.Parts.{kind_is}
use Rattle.judgements.specs.Bindings.{of_name}
use Rattle.node_rules.specs.Names.{of_variable, of_top, of_foreign, of_basis, of_number, of_text, of_fold_at, of_fold, of_constructor, of_datatype, of_built}
use Rattle.node_rules.specs.Records.{of_folder_at, of_folder}
use Rattle.judged_terms.specs.Laws.{Sound}
use Rattle.judged_terms.proofs.Basics.{as_typed, untyped}

pub variable_sound : (G : Sc) (p : Place) (a : Bool) (i : ℕ) → Sound G (node p a (bound i)) (of_variable G p i)
variable_sound G p a i = by_type (slice_get G.locals i) refl
  where
    by_type : (o : Option Cn) → slice_get G.locals i ≡ o → Sound G (node p a (bound i)) (of_name (unbound p (a_variable i)) o)
    by_type None k = untyped
    by_type (Some t) k = as_typed (bound_has k)

pub top_sound : (G : Sc) (p : Place) (a : Bool) (i : ℕ) → Sound G (node p a (top i)) (of_top G p i)
top_sound G p a i = by_type (slice_get G.tops i) refl
  where
    by_type : (o : Option Cn) → slice_get G.tops i ≡ o → Sound G (node p a (top i)) (of_name (unbound p (a_value i)) o)
    by_type None k = untyped
    by_type (Some t) k = as_typed (top_has k)

pub foreign_sound : (G : Sc) (p : Place) (a : Bool) (i : ℕ) → Sound G (node p a (foreign i)) (of_foreign G p i)
foreign_sound G p a i = by_test (nat_lt i G.effects) refl
  where
    by_test : (b : Bool) → nat_lt i G.effects ≡ b → Sound G (node p a (foreign i)) (if b then typed (arrow string_type (transaction_of unit_type)) else faulty (unbound p (an_effect i)))
    by_test true k = as_typed (foreign_has (ltb-true i G.effects k))
    by_test false k = untyped

pub basis_sound : (G : Sc) (p : Place) (a : Bool) (b : BasisName) → Sound G (node p a (basis b)) (of_basis b)
basis_sound G p a b = as_typed basis_has

pub number_sound : (G : Sc) (p : Place) (a : Bool) (z : ℤ) → Sound G (node p a (number z)) of_number
number_sound G p a z = as_typed number_has

pub text_sound : (G : Sc) (p : Place) (a : Bool) (w : List ℕ) → Sound G (node p a (text w)) of_text
text_sound G p a w = as_typed text_has

pub fold_sound : (G : Sc) (p : Place) (a : Bool) (k : Kd) → Sound G (node p a (fold_over k)) (of_fold G p k)
fold_sound G p a k = by_folder (folder_of G.folders k) refl
  where
    by_folder : (o : Option ℕ) → folder_of G.folders k ≡ o → Sound G (node p a (fold_over k)) (of_fold_at p k o)
    by_folder None e = untyped
    by_folder (Some s) e = as_typed (fold_has e)

pub built_sound : (G : Sc) (p : Place) (a : Bool) (s j : ℕ) → Sound G (node p a (built s j)) (of_built G p s j)
built_sound G p a s j = by_datatype (datatype_of G.datatypes s) refl
  where
    by_constructor : (d : Dt) (o : Option Cd) → datatype_of G.datatypes s ≡ Some d → slice_get d.constructors j ≡ o → Sound G (node p a (built s j)) (of_constructor (unbound p (a_constructor s j)) d o)
    by_constructor d None e k = untyped
    by_constructor d (Some c) e k = as_typed (built_has e k)

    by_datatype : (o : Option Dt) → datatype_of G.datatypes s ≡ o → Sound G (node p a (built s j)) (of_datatype (unbound p (a_constructor s j)) j o)
    by_datatype None e = untyped
    by_datatype (Some d) e = by_constructor d (slice_get d.constructors j) e refl

pub folder_sound : (G : Sc) (p : Place) (a : Bool) (k : Kd) (ps : Prs) → Sound G (node p a (folder k ps)) (of_folder G p k ps)
folder_sound G p a k ps = by_folder (folder_of G.folders k) refl (kind_is G (row k ps) (row_of k))
  where
    by_folder : {r : Result Kd Flw} (o : Option ℕ) → folder_of G.folders k ≡ o → Kindly G (row k ps) (row_of k) r → Sound G (node p a (folder k ps)) (of_folder_at G p k ps r o)
    by_folder None e v = untyped
    by_folder (Some s) e (kindly h) = as_typed (folder_has e h)
    by_folder (Some s) e (unkind h) = untyped
