-- Values by their form: what each writes of a link, and which write nothing.
use Rattle.std.proofs.Common.{◌≡◌, ℕ, ℤ, List, [], ◌∷◌, ◌++◌, Option, Some, None, refl, ap, sym, ◌∙◌, subst, Bor, inl, inr, Result, Ok, Err, IfErr}
use Rattle.std.specs.Fmt.{signed_decimal}
use Rattle.con_terms.specs.Trees.{Kd, Cn, Prs}
use Rattle.con_terms.specs.declared.symbol.Sym.{Sym}
use Rattle.table_rows.specs.Pieces.{escaped}
use Rattle.core_terms.specs.declared.basis.BasisName.{BasisName}
use Rattle.core_terms.specs.declared.program.Program.{Program}
use Rattle.value_trees.specs.Values.{V, of_url, of_fields, of_bare, of_holding, of_constructor, of_foreign, Vs, Slots, Act, Ev}
use Rattle.value_trees.specs.Wired.{constructor_text, wire_of}
use Rattle.run_values.specs.View.{value_tree, slots_tree, constr_step, env_step, act_step, held_step, value_step, folder_row_step, slot_step}
use Rattle.run_values.specs.declared.stop.Stop.{Stop}
use Rattle.run_values.specs.declared.page.Tree.{Tree}
use Rattle.run_values.specs.declared.value.Value.{Value}
use Rattle.run_values.specs.declared.value.Slot.{Slot}
use Rattle.run_values.specs.declared.value.Held.{Held}
use Rattle.run_values.specs.declared.value.FolderRow.{FolderRow}
use Rattle.run_values.specs.declared.value.Act.{Act as ActOf}
use Rattle.run_values.specs.declared.entry.Env.{Env}
use Rattle.run_values.specs.declared.entry.Constr.TheOpen.{Value-F}
use Rattle.run_values.specs.declared.entry.Constr.TheViews.{Fields, Holding, Folder, Basis, Fold, Action, rolls-Int, rolls-Words, rolls-Url, rolls-Fields, rolls-Bare, rolls-Holding, rolls-Constructor, rolls-Folder, rolls-Fn, rolls-FnCon, rolls-FnGuard, rolls-Basis, rolls-Fold, rolls-Foreign, rolls-Page, rolls-Action, Fn, FnCon, FnGuard}
use Rattle.run_values.specs.declared.entry.Constr.TheFolds.{fold-roll-Value}
use Rattle.page_walk.specs.Links.{datatypes_in, values_text}
use Rattle.page_walk.specs.Adding.{Adds, Amid, ArePut, IsAdded, Never, StopsFor, pending, sorted}
use Rattle.page_walk.specs.declared.links.Link.{Link}
use Rattle.page_walk.proofs.Added.{nothing_added}
use Rattle.page_walk.proofs.Texts.{value_without, number_amid, words_amid, bare_amid, holding_amid, no_constructor, no_holder, fields_text, no_fields_text, still_text}

-- the last is done first
pub last_first : (xs : List Value) (x : Value) (vs : List V) → pending (xs ++ x ∷ []) vs ≡ value_tree x ∷ pending xs vs
last_first [] x vs = refl
last_first (y ∷ xs) x vs = last_first xs x (value_tree y ∷ vs)

pub wrote_number : (p : Program) (a b : Link) (v : Value) (z : ℤ) (xs : List Value) → v ≡ Value.Int z → Adds a b (47 ∷ signed_decimal z)
    → Amid p a b (value_tree v ∷ pending xs []) (pending xs [])
wrote_number p a b v z xs e x =
    subst (λ u. Amid p a b (u ∷ pending xs []) (pending xs [])) (sym (ap value_tree (e ∙ sym (rolls-Int z)) ∙ fold-roll-Value Cn Ev Act Vs V (Kd × Prs) (ℕ × V) constr_step env_step act_step held_step value_step folder_row_step slot_step (Value-F.Int z))) (number_amid p a b z (pending xs []) x)

pub wrote_words : (p : Program) (a b : Link) (v : Value) (t : Bor (List ℕ)) (xs : List Value) → v ≡ Value.Words t → Adds a b (47 ∷ 95 ∷ escaped t.now)
    → Amid p a b (value_tree v ∷ pending xs []) (pending xs [])
wrote_words p a b v t xs e x =
    subst (λ u. Amid p a b (u ∷ pending xs []) (pending xs [])) (sym (ap value_tree (e ∙ sym (rolls-Words t)) ∙ fold-roll-Value Cn Ev Act Vs V (Kd × Prs) (ℕ × V) constr_step env_step act_step held_step value_step folder_row_step slot_step (Value-F.Words t))) (words_amid p a b t.now (pending xs []) x)

added_name : (a b : Link) (o : Option (List ℕ)) → IsAdded a b o → (n : List ℕ) × (o ≡ Some n) × Adds a b (47 ∷ n)
added_name a b None x = absurd x
added_name a b (Some n) x = (n, refl, x)

bare_tree : (v : Value) (s : Sym) (j : ℕ) → v ≡ Value.Bare s j → value_tree v ≡ of_bare s.number j
bare_tree v s j e = ap value_tree (e ∙ sym (rolls-Bare s j)) ∙ fold-roll-Value Cn Ev Act Vs V (Kd × Prs) (ℕ × V) constr_step env_step act_step held_step value_step folder_row_step slot_step (Value-F.Bare s j)

pub wrote_bare : (p : Program) (a b : Link) (v : Value) (s : Sym) (j : ℕ) (xs : List Value) → v ≡ Value.Bare s j → IsAdded a b (constructor_text p.names (datatypes_in p) s.number j)
    → Amid p a b (value_tree v ∷ pending xs []) (pending xs [])
wrote_bare p a b v s j xs e x =
    let found = added_name a b (constructor_text p.names (datatypes_in p) s.number j) x in
    subst (λ u. Amid p a b (u ∷ pending xs []) (pending xs [])) (sym (bare_tree v s j e)) (bare_amid p a b s.number j found.0 (pending xs []) found.1 found.2)

stopped : {P Q : Type 0} (stop : Stop) → (P → Q) → StopsFor stop P → StopsFor stop Q
stopped stop f (inl e) = inl e
stopped stop f (inr e) = inr (e.0, f e.1)

pub unwritten_bare : (p : Program) (v : Value) (s : Sym) (j : ℕ) (stop : Stop) → v ≡ Value.Bare s j → StopsFor stop (constructor_text p.names (datatypes_in p) s.number j ≡ None)
    → StopsFor stop (Never p (value_tree v))
unwritten_bare p v s j stop e x = stopped stop (λ h. subst (Never p) (sym (bare_tree v s j e)) (no_constructor p s.number j h)) x

holding_tree : (v : Value) (s : Sym) (j : ℕ) (h : Bor Value) → v ≡ Holding s j h → value_tree v ≡ of_holding s.number j (value_tree h.now)
holding_tree v s j h e = ap value_tree (e ∙ sym (rolls-Holding s j h)) ∙ fold-roll-Value Cn Ev Act Vs V (Kd × Prs) (ℕ × V) constr_step env_step act_step held_step value_step folder_row_step slot_step (Value-F.Holding s j h)

pub wrote_holding : (p : Program) (a b : Link) (v : Value) (s : Sym) (j : ℕ) (h : Bor Value) (xs ys : List Value) → v ≡ Holding s j h
    → IsAdded a b (constructor_text p.names (datatypes_in p) s.number j) → ys ≡ xs ++ h.now ∷ []
    → Amid p a b (value_tree v ∷ pending xs []) (pending ys [])
wrote_holding p a b v s j h xs ys e x g =
    let found = added_name a b (constructor_text p.names (datatypes_in p) s.number j) x in
    subst (λ us. Amid p a b (value_tree v ∷ pending xs []) us) (sym (ap (λ zs. pending zs []) g ∙ last_first xs h.now []))
    (subst (λ u. Amid p a b (u ∷ pending xs []) (value_tree h.now ∷ pending xs [])) (sym (holding_tree v s j h e)) (holding_amid p a b s.number j (value_tree h.now) found.0 (pending xs []) found.1 found.2))

pub unwritten_holding : (p : Program) (v : Value) (s : Sym) (j : ℕ) (h : Bor Value) (stop : Stop) → v ≡ Holding s j h → StopsFor stop (constructor_text p.names (datatypes_in p) s.number j ≡ None)
    → StopsFor stop (Never p (value_tree v))
unwritten_holding p v s j h stop e x = stopped stop (λ g. subst (Never p) (sym (holding_tree v s j h e)) (no_holder p s.number j (value_tree h.now) g)) x

fields_tree : (v : Value) (ss : Bor (List Slot)) → v ≡ Fields ss → value_tree v ≡ of_fields (slots_tree ss.now)
fields_tree v ss e = ap value_tree (e ∙ sym (rolls-Fields ss)) ∙ fold-roll-Value Cn Ev Act Vs V (Kd × Prs) (ℕ × V) constr_step env_step act_step held_step value_step folder_row_step slot_step (Value-F.Fields ss)

fields_put : (p : Program) (a : Link) (ss : Slots) (us vs : List V) (o : Option (List (List ℕ × V))) → sorted p.names ss ≡ o → ArePut o us vs → Amid p a a (of_fields ss ∷ us) vs
fields_put p a ss us vs None h x = absurd x
fields_put p a ss us vs (Some fs) h x = record {
  written = [];
  adds = nothing_added a;
  whole = fields_text p.names (datatypes_in p) ss fs us h ∙ ap (values_text p.names (datatypes_in p)) (sym x) ∙ still_text (values_text p.names (datatypes_in p) vs);
}

pub wrote_fields : (p : Program) (a : Link) (v : Value) (ss : Bor (List Slot)) (xs ys : List Value) → v ≡ Fields ss
    → ArePut (sorted p.names (slots_tree ss.now)) (pending xs []) (pending ys []) → Amid p a a (value_tree v ∷ pending xs []) (pending ys [])
wrote_fields p a v ss xs ys e x =
    subst (λ u. Amid p a a (u ∷ pending xs []) (pending ys [])) (sym (fields_tree v ss e)) (fields_put p a (slots_tree ss.now) (pending xs []) (pending ys []) (sorted p.names (slots_tree ss.now)) refl x)

pub unwritten_fields : (p : Program) (v : Value) (ss : Bor (List Slot)) (stop : Stop) → v ≡ Fields ss → StopsFor stop (sorted p.names (slots_tree ss.now) ≡ None)
    → StopsFor stop (Never p (value_tree v))
unwritten_fields p v ss stop e x = stopped stop (λ g. subst (Never p) (sym (fields_tree v ss e)) (record { never = λ vs. no_fields_text p.names (datatypes_in p) (slots_tree ss.now) vs g })) x

pub unwritten_fields_result : {A : Type 0} (p : Program) (v : Value) (ss : Bor (List Slot)) (r : Result A Stop) → v ≡ Fields ss → IfErr r (λ stop. StopsFor stop (sorted p.names (slots_tree ss.now) ≡ None))
    → IfErr r (λ stop. StopsFor stop (Never p (value_tree v)))
unwritten_fields_result p v ss (Ok x) e h = tt
unwritten_fields_result p v ss (Err stop) e h = unwritten_fields p v ss stop e h

-- values that can't be given
no_wire : (p : Program) (v : Value) (u : V) → value_tree v ≡ u → wire_of p.names (datatypes_in p) u ≡ None → StopsFor (Stop.Wrong None) (Never p (value_tree v))
no_wire p v u e h = inr (refl, subst (Never p) (sym e) (record { never = λ vs. value_without p.names (datatypes_in p) u vs h }))

pub no_url : (p : Program) (v : Value) (t : Bor (List ℕ)) → v ≡ Value.Url t → StopsFor (Stop.Wrong None) (Never p (value_tree v))
no_url p v t e = no_wire p v (of_url t.now) (ap value_tree (e ∙ sym (rolls-Url t)) ∙ fold-roll-Value Cn Ev Act Vs V (Kd × Prs) (ℕ × V) constr_step env_step act_step held_step value_step folder_row_step slot_step (Value-F.Url t)) refl

pub no_waiting : (p : Program) (v : Value) (s : Sym) (j : ℕ) → v ≡ Value.Constructor s j → StopsFor (Stop.Wrong None) (Never p (value_tree v))
no_waiting p v s j e = no_wire p v (of_constructor s.number j) (ap value_tree (e ∙ sym (rolls-Constructor s j)) ∙ fold-roll-Value Cn Ev Act Vs V (Kd × Prs) (ℕ × V) constr_step env_step act_step held_step value_step folder_row_step slot_step (Value-F.Constructor s j)) refl

pub no_foreign : (p : Program) (v : Value) (i : ℕ) → v ≡ Value.Foreign i → StopsFor (Stop.Wrong None) (Never p (value_tree v))
no_foreign p v i e = no_wire p v (of_foreign i) (ap value_tree (e ∙ sym (rolls-Foreign i)) ∙ fold-roll-Value Cn Ev Act Vs V (Kd × Prs) (ℕ × V) constr_step env_step act_step held_step value_step folder_row_step slot_step (Value-F.Foreign i)) refl

pub no_page : (p : Program) (v : Value) (t : Bor Tree) → v ≡ Value.Page t → StopsFor (Stop.Wrong None) (Never p (value_tree v))
no_page p v t e = no_wire p v (_) (ap value_tree (e ∙ sym (rolls-Page t)) ∙ fold-roll-Value Cn Ev Act Vs V (Kd × Prs) (ℕ × V) constr_step env_step act_step held_step value_step folder_row_step slot_step (Value-F.Page t)) refl

pub no_folder : (p : Program) (v : Value) (f : Bor FolderRow) → v ≡ Folder f → StopsFor (Stop.Wrong None) (Never p (value_tree v))
no_folder p v f e = no_wire p v (_) (ap value_tree (e ∙ sym (rolls-Folder f)) ∙ fold-roll-Value Cn Ev Act Vs V (Kd × Prs) (ℕ × V) constr_step env_step act_step held_step value_step folder_row_step slot_step (Value-F.Folder f)) refl

pub no_basis : (p : Program) (v : Value) (c : BasisName) (h : Bor Held) → v ≡ Basis c h → StopsFor (Stop.Wrong None) (Never p (value_tree v))
no_basis p v c h e = no_wire p v (_) (ap value_tree (e ∙ sym (rolls-Basis c h)) ∙ fold-roll-Value Cn Ev Act Vs V (Kd × Prs) (ℕ × V) constr_step env_step act_step held_step value_step folder_row_step slot_step (Value-F.Basis c h)) refl

pub no_fold : (p : Program) (v : Value) (h : Bor Held) → v ≡ Fold h → StopsFor (Stop.Wrong None) (Never p (value_tree v))
no_fold p v h e = no_wire p v (_) (ap value_tree (e ∙ sym (rolls-Fold h)) ∙ fold-roll-Value Cn Ev Act Vs V (Kd × Prs) (ℕ × V) constr_step env_step act_step held_step value_step folder_row_step slot_step (Value-F.Fold h)) refl

pub no_action : (p : Program) (v : Value) (a : Bor ActOf) → v ≡ Action a → StopsFor (Stop.Wrong None) (Never p (value_tree v))
no_action p v a e = no_wire p v (_) (ap value_tree (e ∙ sym (rolls-Action a)) ∙ fold-roll-Value Cn Ev Act Vs V (Kd × Prs) (ℕ × V) constr_step env_step act_step held_step value_step folder_row_step slot_step (Value-F.Action a)) refl

pub no_fn : (p : Program) (v : Value) (q : _) (x : _) (ρ : Bor Env) → v ≡ Fn q x ρ → StopsFor (Stop.Wrong None) (Never p (value_tree v))
no_fn p v q x ρ e = no_wire p v (_) (ap value_tree (e ∙ sym (rolls-Fn q x ρ)) ∙ fold-roll-Value Cn Ev Act Vs V (Kd × Prs) (ℕ × V) constr_step env_step act_step held_step value_step folder_row_step slot_step (Value-F.Fn q x ρ)) refl

pub no_fn_con : (p : Program) (v : Value) (x : _) (ρ : Bor Env) → v ≡ FnCon x ρ → StopsFor (Stop.Wrong None) (Never p (value_tree v))
no_fn_con p v x ρ e = no_wire p v (_) (ap value_tree (e ∙ sym (rolls-FnCon x ρ)) ∙ fold-roll-Value Cn Ev Act Vs V (Kd × Prs) (ℕ × V) constr_step env_step act_step held_step value_step folder_row_step slot_step (Value-F.FnCon x ρ)) refl

pub no_fn_guard : (p : Program) (v : Value) (x : _) (ρ : Bor Env) → v ≡ FnGuard x ρ → StopsFor (Stop.Wrong None) (Never p (value_tree v))
no_fn_guard p v x ρ e = no_wire p v (_) (ap value_tree (e ∙ sym (rolls-FnGuard x ρ)) ∙ fold-roll-Value Cn Ev Act Vs V (Kd × Prs) (ℕ × V) constr_step env_step act_step held_step value_step folder_row_step slot_step (Value-F.FnGuard x ρ)) refl
