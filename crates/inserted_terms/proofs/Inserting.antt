-- What is inserted for a type (for `is_folder_of`, `is_instance_of`), and what stands where nothing is (for
-- `lacks_folder`, `lacks_instance`).
use Rattle.std.proofs.Common.{◌≡◌, ℕ, true, List, Option, Some, None, option_and_then, refl, ap, sym, ◌∙◌, subst}
use Rattle.std.specs.List.{Contains}
use Rattle.con_terms.specs.Trees.{Kd, Cn, basic, app, Prs}
use Rattle.con_terms.specs.declared.place.Place.{Place}
use Rattle.core_terms.specs.Trees.{Fo, node, folder, top}
use Rattle.core_typing.specs.Scopes.{normal_of}
use Rattle.guided_terms.specs.Forms.{head_of, literal_fields, pieces_of}
use Rattle.guided_terms.specs.Heres.{Here}
use Rattle.guided_terms.specs.Implied.{Inserts, candidates, first_of_form, the_folder, the_instance}
use Rattle.inserted_terms.specs.Folders.{IsFolderAt, IsOpenFolder}
use Rattle.inserted_terms.specs.Forms.{is_instance_form, is_maybe_instance}
use Rattle.inserted_terms.specs.Lacking.{Lacks, no_instance, no_folder, no_instance_here, no_folder_here}
use Rattle.inserted_terms.specs.Searches.{first_value}
use Rattle.inserted_terms.proofs.Searches.{candidates_search}

folder_with : (h : Here) (t r : Cn) (s : ℕ) (k : Kd) (ps : Prs) (p : Place) (o : Option (List Cn))
    → head_of t ≡ Some (app (basic s) r) → Contains h.types.folders (k, s) → pieces_of r ≡ o
    → option_and_then literal_fields o ≡ Some ps → Inserts h t (node p true (folder k ps))
folder_with h t r s k ps p None form there e f = absurd cc
folder_with h t r s k ps p (Some pieces) form there e f =
    the_folder {t = t} {r = r} {s = s} {k = k} {pieces = pieces} {ps = ps} {p = p} form there e f

pub inserts_folder : (h : Here) (t c : Cn) (k : Kd) (ps : Prs) → head_of t ≡ Some c → IsFolderAt h c k ps → (p : Place)
    → Inserts h t (node p true (folder k ps))
inserts_folder h t c k ps e f p =
    folder_with h t f.row f.symbol k ps p (pieces_of f.row) (e ∙ ap Some f.form) f.of_kind refl f.fields

instance_with : (h : Here) (t n c : Cn) (g : Fo) (p : Place) → head_of t ≡ Some c → is_instance_form c ≡ true
    → normal_of t ≡ Some n → first_value h n ≡ Some g → Inserts h t (node p true g)
instance_with h t n (app (basic s) u) g p form class normal first =
    the_instance {t = t} {u = u} {n = n} {s = s} {f = g} {p = p} form class normal (candidates_search h n ∙ first)
instance_with h t n _ g p form class normal first = absurd cc

instance_of : (h : Here) (t n : Cn) (o : Option Cn) (g : Fo) (p : Place) → head_of t ≡ o → is_maybe_instance o ≡ true
    → normal_of t ≡ Some n → first_value h n ≡ Some g → Inserts h t (node p true g)
instance_of h t n None g p e class normal first = absurd cc
instance_of h t n (Some c) g p e class normal first = instance_with h t n c g p e class normal first

pub inserts_instance : (h : Here) (t n : Cn) (f g : Fo) → is_maybe_instance (head_of t) ≡ true → normal_of t ≡ Some n
    → Some g ≡ first_value h n → f ≡ g → (p : Place) → Inserts h t (node p true f)
inserts_instance h t n f g class normal first same p =
    subst (λ z. Inserts h t (node p true z)) (sym same) (instance_of h t n (head_of t) g p refl class normal (sym first))

-- gaps

pub lacks_folder_at : (h : Here) (t c : Cn) (i : ℕ) → i ≡ no_folder_here → head_of t ≡ Some c → IsOpenFolder h c
    → (p : Place) → Lacks h t (node p true (top i))
lacks_folder_at h t c i is e f p =
    subst (λ n. Lacks h t (node p true (top n))) (sym is)
    (no_folder {t = t} {r = f.row} {s = f.symbol} {k = f.kind} {p = p} (e ∙ ap Some f.form) f.of_kind f.unknown)

pub none_found : (h : Here) (t n : Cn) → normal_of t ≡ Some n → first_value h n ≡ None
    → option_and_then (first_value h) (normal_of t) ≡ None
none_found h t n e f = ap (option_and_then (first_value h)) e ∙ f

pub none_without : (h : Here) (t : Cn) → normal_of t ≡ None → option_and_then (first_value h) (normal_of t) ≡ None
none_without h t e = ap (option_and_then (first_value h)) e

none_chosen : (h : Here) (o : Option Cn) → option_and_then (first_value h) o ≡ None
    → option_and_then (λ n. first_of_form n (candidates h)) o ≡ None
none_chosen h None e = refl
none_chosen h (Some n) e = candidates_search h n ∙ e

lacks_at : (h : Here) (t : Cn) (o : Option Cn) (p : Place) → head_of t ≡ o → is_maybe_instance o ≡ true
    → option_and_then (first_value h) (normal_of t) ≡ None → Lacks h t (node p true (top no_instance_here))
lacks_at h t (Some (app (basic s) u)) p form class none =
    no_instance {t = t} {u = u} {s = s} {p = p} form class (none_chosen h (normal_of t) none)
lacks_at h t _ p form class none = absurd cc

pub lacks_instance_at : (h : Here) (t : Cn) (i : ℕ) → i ≡ no_instance_here → is_maybe_instance (head_of t) ≡ true
    → option_and_then (first_value h) (normal_of t) ≡ None → (p : Place) → Lacks h t (node p true (top i))
lacks_instance_at h t i is class none p =
    subst (λ n. Lacks h t (node p true (top n))) (sym is) (lacks_at h t (head_of t) p refl class none)
