-- What a type takes, step by step.
use Rattle.std.proofs.Common.{◌≡◌, ℕ, Bool, true, false, List, [], ◌∷◌, ◌++◌, map, Option, Some, None, Result, Ok, Err, IfOk, refl, ap, sym, ◌∙◌, subst}
use Rattle.std.specs.Bool.{Decides}
use Rattle.con_terms.specs.Trees.{Cn, arrow}
use Rattle.table_rows.specs.Shapes.{Sh, Shs, no_shapes, shape}
use Rattle.table_rows.specs.View.{shapes_from}
use Rattle.core_terms.specs.Trees.{Dt, Pg}
use Rattle.core_terms.specs.Types.{transaction_of, page_type}
use Rattle.core_typing.specs.Scopes.{normal_of}
use Rattle.core_typing.specs.Compared.{Alike}
use Rattle.core_typing.specs.Carried.{Carried, Filled}
use Rattle.core_typing.specs.Entries.{Shaped, TakesToPage, no_argument, an_argument, TakesFormToPage, form_last, form_behind, all_datatypes}
use Rattle.carried_types.specs.Carriers.{AreCarriers}
use Rattle.carried_types.specs.Filling.{can_fill}
use Rattle.carried_types.specs.Pages.{gives_page, arrow_parts}
use Rattle.carried_types.proofs.Alike.{alike_is, is_alike}
use Rattle.carried_types.proofs.Shown.{filled_is_filled, parts_are}
use Rattle.site_routes.specs.Shaping as computed
use Rattle.site_routes.specs.Shaping.{nested}
use Rattle.site_routes.specs.Taking as taking
use Rattle.site_routes.specs.Taking.{Knows, Takes, ArgumentIs, FormIs, NothingTaken, Passes, Stp, a_page, StepIs, NotLast, NoPage, before, Behind, TakenIs}
use Rattle.site_routes.proofs.ShapedMeans.{shaped_yes, shaped_no}

-- shapes of the program's own datatypes
shape_is : (p : Pg) (names : List (List ℕ)) (ds : List Dt) (bs : List Bool) (t : Cn) (s : Sh) → Knows p names ds bs → computed.shaped nested names ds 0 t ≡ Some (Some s) →
    Shaped p.names (all_datatypes p) 0 t s
shape_is p names ds bs t s k h =
    subst (λ (ns : List (List ℕ)). Shaped ns (all_datatypes p) 0 t s) k.named
    (subst (λ (es : List Dt). Shaped names es 0 t s) k.declared (shaped_yes names ds 0 nested t s h))

shape_is_not : (p : Pg) (names : List (List ℕ)) (ds : List Dt) (bs : List Bool) (t : Cn) (s : Sh) → Knows p names ds bs → computed.shaped nested names ds 0 t ≡ Some None →
    Shaped p.names (all_datatypes p) 0 t s → ⊥
shape_is_not p names ds bs t s k h w =
    shaped_no names ds 0 nested t h s
    (subst (λ (es : List Dt). Shaped names es 0 t s) (sym k.declared) (subst (λ (ns : List (List ℕ)). Shaped ns (all_datatypes p) 0 t s) (sym k.named) w))

-- arguments
pub not_carried : (names : List (List ℕ)) (ds : List Dt) (bs : List Bool) (t : Cn) (r : Bool) → (AreCarriers ds bs → Decides r (Carried ds t)) → r ≡ false →
    (p : Pg) → Knows p names ds bs → ArgumentIs p t None
not_carried names ds bs t r d e p k s c w =
    let h = (d k.carriers).1 (subst (λ (es : List Dt). Carried es t) (sym k.declared) c) in
    cc

argument_by : (names : List (List ℕ)) (ds : List Dt) (bs : List Bool) (t : Cn) → (AreCarriers ds bs → Decides true (Carried ds t)) → (o : Option Sh) → computed.shaped nested names ds 0 t ≡ Some o →
    (p : Pg) → Knows p names ds bs → ArgumentIs p t o
argument_by names ds bs t d None h p k = λ s c w. shape_is_not p names ds bs t s k h w
argument_by names ds bs t d (Some s) h p k = (subst (λ (es : List Dt). Carried es t) k.declared ((d k.carriers).0 refl), shape_is p names ds bs t s k h)

pub carried_shape : {X E : Type 0} (view : X → Option Sh) (names : List (List ℕ)) (ds : List Dt) (bs : List Bool) (t : Cn) (r : Bool) (o : Result X E) → (AreCarriers ds bs → Decides r (Carried ds t)) → r ≡ true →
    IfOk o (λ x. computed.shaped nested names ds 0 t ≡ Some (view x)) → IfOk o (λ x. (p : Pg) → Knows p names ds bs → ArgumentIs p t (view x))
carried_shape view names ds bs t r (Ok x) d e h = argument_by names ds bs t (subst (λ (b : Bool). AreCarriers ds bs → Decides b (Carried ds t)) e d) (view x) h
carried_shape view names ds bs t r (Err w) d e h = tt

-- forms
pub not_filled : (names : List (List ℕ)) (ds : List Dt) (bs : List Bool) (a b : Cn) (r : Bool) → r ≡ can_fill a → r ≡ false → (p : Pg) → Knows p names ds bs → FormIs p a b None
not_filled names ds bs a b r e n p k s f w l =
    let h = (filled_is_filled a).1 f in
    cc

pub gives_none : (names : List (List ℕ)) (ds : List Dt) (bs : List Bool) (a b : Cn) (r : Bool) → r ≡ gives_page b → r ≡ false → (p : Pg) → Knows p names ds bs → FormIs p a b None
gives_none names ds bs a b r e n p k s f w l =
    let h = is_alike b (transaction_of page_type) l in
    cc

form_by : (names : List (List ℕ)) (ds : List Dt) (bs : List Bool) (a b : Cn) → can_fill a ≡ true → gives_page b ≡ true → (o : Option Sh) → computed.shaped nested names ds 0 a ≡ Some o →
    (p : Pg) → Knows p names ds bs → FormIs p a b o
form_by names ds bs a b f g None h p k = λ s c w l. shape_is_not p names ds bs a s k h w
form_by names ds bs a b f g (Some s) h p k = ((filled_is_filled a).0 f, shape_is p names ds bs a s k h, alike_is b (transaction_of page_type) g)

pub form_shape : {X E : Type 0} (view : X → Option Sh) (names : List (List ℕ)) (ds : List Dt) (bs : List Bool) (a b : Cn) (q r : Bool) (o : Result X E) → q ≡ can_fill a → q ≡ true → r ≡ gives_page b → r ≡ true →
    IfOk o (λ x. computed.shaped nested names ds 0 a ≡ Some (view x)) → IfOk o (λ x. (p : Pg) → Knows p names ds bs → FormIs p a b (view x))
form_shape view names ds bs a b q r (Ok x) f f' g g' h = form_by names ds bs a b (sym f ∙ f') (sym g ∙ g') (view x) h
form_shape view names ds bs a b q r (Err w) f f' g g' h = tt

-- functions
arrows : (t a b c d : Cn) → normal_of t ≡ Some (arrow a b) → normal_of t ≡ Some (arrow c d) → (c ≡ a) × (d ≡ b)
arrows t a b c d e f = let g : Some (arrow c d) ≡ Some (arrow a b) = sym f ∙ e in (cc, cc)

pub argument_no : (p : Pg) (w : Bool) (t a b : Cn) → normal_of t ≡ Some (arrow a b) → NotLast p w t a b → ArgumentIs p a None → NothingTaken p w t
argument_no p false t a b e n i ss None (no_argument l) = n l
argument_no p false t a b e n i ss None (an_argument {a = c} {b = d} {s = s} f car sh more) =
    let (x, y) = arrows t a b c d e f in
    i s (subst (λ (z : Cn). Carried (all_datatypes p) z) x car) (subst (λ (z : Cn). Shaped p.names (all_datatypes p) 0 z s) x sh)
argument_no p false t a b e n i ss (Some f) h = h
argument_no p true t a b e n i ss None h = h
argument_no p true t a b e n i ss (Some form) (form_last {a = c} {b = d} {f = s} f fill sh l) =
    let (x, y) = arrows t a b c d e f in
    n s (subst Filled x fill) (subst (λ (z : Cn). Shaped p.names (all_datatypes p) 0 z s) x sh) (subst (λ (z : Cn). Alike z (transaction_of page_type)) y l)
argument_no p true t a b e n i ss (Some form) (form_behind {a = c} {b = d} {s = s} f car sh more) =
    let (x, y) = arrows t a b c d e f in
    i s (subst (λ (z : Cn). Carried (all_datatypes p) z) x car) (subst (λ (z : Cn). Shaped p.names (all_datatypes p) 0 z s) x sh)

onward_is : (p : Pg) (w : Bool) (t a b : Cn) (s : Sh) → normal_of t ≡ Some (arrow a b) → ArgumentIs p a (Some s) → (ss : Shs) (form : Option Sh) → Takes p w b ss form → Takes p w t (shape s ss) form
onward_is p false t a b s e i ss None h = an_argument e i.0 i.1 h
onward_is p false t a b s e i ss (Some f) h = h
onward_is p true t a b s e i ss None h = h
onward_is p true t a b s e i ss (Some f) h = form_behind e i.0 i.1 h

back_is : (p : Pg) (w : Bool) (t a b : Cn) → normal_of t ≡ Some (arrow a b) → NotLast p w t a b → (ss : Shs) (form : Option Sh) → Takes p w t ss form → (rest : Shs) × (f : Option Sh) × Takes p w b rest f
back_is p false t a b e n ss None (no_argument l) = absurd (n l)
back_is p false t a b e n ss None (an_argument {a = c} {b = d} {ss = more} f car sh h) =
    let (x, y) = arrows t a b c d e f in
    (more, None, subst (λ (z : Cn). TakesToPage p z more) y h)
back_is p false t a b e n ss (Some f) h = absurd h
back_is p true t a b e n ss None h = absurd h
back_is p true t a b e n ss (Some form) (form_last {a = c} {b = d} {f = s} f fill sh l) =
    let (x, y) = arrows t a b c d e f in
    absurd (n s (subst Filled x fill) (subst (λ (z : Cn). Shaped p.names (all_datatypes p) 0 z s) x sh) (subst (λ (z : Cn). Alike z (transaction_of page_type)) y l))
back_is p true t a b e n ss (Some form) (form_behind {a = c} {b = d} {f = g} {ss = more} f car sh h) =
    let (x, y) = arrows t a b c d e f in
    (more, Some g, subst (λ (z : Cn). TakesFormToPage p z more g) y h)

pub argument_yes : (p : Pg) (w : Bool) (t a b : Cn) (s : Sh) → normal_of t ≡ Some (arrow a b) → NotLast p w t a b → ArgumentIs p a (Some s) → Passes p w t s b
argument_yes p w t a b s e n i = record { onward = onward_is p w t a b s e i; back = back_is p w t a b e n }

pub form_yes : (p : Pg) (t a b : Cn) (s : Sh) → normal_of t ≡ Some (arrow a b) → FormIs p a b (Some s) → Takes p true t no_shapes (Some s)
form_yes p t a b s e i = form_last e i.0 i.1 i.2

pub page_yes : (p : Pg) (t : Cn) (r : Bool) → r ≡ gives_page t → r ≡ true → Takes p false t no_shapes None
page_yes p t r e h = no_argument (alike_is t (transaction_of page_type) (sym e ∙ h))

pub page_no : (t : Cn) (r : Bool) → r ≡ gives_page t → r ≡ false → NoPage t
page_no t r e h l = let i = is_alike t (transaction_of page_type) l in cc

-- no function
pub function_no : (p : Pg) (w : Bool) (t : Cn) → ((a b : Cn) → normal_of t ≡ Some (arrow a b) → ⊥) → (w ≡ false → NoPage t) → NothingTaken p w t
function_no p false t f n ss None (no_argument l) = n refl l
function_no p false t f n ss None (an_argument {a = a} {b = b} e car sh more) = f a b e
function_no p false t f n ss (Some s) h = h
function_no p true t f n ss None h = h
function_no p true t f n ss (Some s) (form_last {a = a} {b = b} e fill sh l) = f a b e
function_no p true t f n ss (Some s) (form_behind {a = a} {b = b} e car sh more) = f a b e

no_parts : (t a b : Cn) → arrow_parts (normal_of t) ≡ None → normal_of t ≡ Some (arrow a b) → ⊥
no_parts t a b e h = let f = ap arrow_parts h in cc

pub no_function : (p : Pg) (w : Bool) (t : Cn) → None ≡ arrow_parts (normal_of t) → (w ≡ false → NoPage t) → NothingTaken p w t
no_function p w t e n = function_no p w t (λ a b h. no_parts t a b (sym e) h) n

-- what a step's parts tell
pub step_else : {X E : Type 0} (view : X → Stp) (r : Result X E) (names : List (List ℕ)) (ds : List Dt) (bs : List Bool) (a b : Cn) (form : Bool) → form ≡ false →
    IfOk r (λ s. (p : Pg) (w : Bool) (t : Cn) → Knows p names ds bs → normal_of t ≡ Some (arrow a b) → NotLast p w t a b → StepIs p w t (view s)) →
    IfOk r (λ s. (p : Pg) (t : Cn) → Knows p names ds bs → normal_of t ≡ Some (arrow a b) → (form ≡ false → NotLast p false t a b) → StepIs p form t (view s))
step_else view (Ok x) names ds bs a b true h f = absurd (cc)
step_else view (Ok x) names ds bs a b false h f = λ p t k e n. f p false t k e (n refl)
step_else view (Err x) names ds bs a b form h f = tt

pub step_arrow : {X E : Type 0} (view : X → Stp) (r : Result X E) (names : List (List ℕ)) (ds : List Dt) (bs : List Bool) (a b t : Cn) (w : Bool) → Some (a, b) ≡ arrow_parts (normal_of t) →
    IfOk r (λ s. (p : Pg) (t : Cn) → Knows p names ds bs → normal_of t ≡ Some (arrow a b) → (w ≡ false → NotLast p false t a b) → StepIs p w t (view s)) →
    IfOk r (λ s. (p : Pg) → Knows p names ds bs → (w ≡ false → NoPage t) → StepIs p w t (view s))
step_arrow view (Ok x) names ds bs a b t w h f = λ p k n. f p t k (parts_are (normal_of t) a b (sym h)) n
step_arrow view (Err x) names ds bs a b t w h f = tt

pub page_step : (p : Pg) (w : Bool) (t : Cn) (r : Bool) → w ≡ false → r ≡ gives_page t → r ≡ true → StepIs p w t a_page
page_step p true t r h e g = absurd (cc)
page_step p false t r h e g = page_yes p t r e g

pub no_page_step : {X E : Type 0} (view : X → Stp) (r : Result X E) (names : List (List ℕ)) (ds : List Dt) (bs : List Bool) (w : Bool) (t : Cn) (q : Bool) → q ≡ gives_page t → q ≡ false →
    IfOk r (λ s. (p : Pg) → Knows p names ds bs → (w ≡ false → NoPage t) → StepIs p w t (view s)) → IfOk r (λ s. (p : Pg) → Knows p names ds bs → StepIs p w t (view s))
no_page_step view (Ok x) names ds bs w t q e h f = λ p k. f p k (λ _. page_no t q e h)
no_page_step view (Err x) names ds bs w t q e h f = tt

-- behind several arguments
pub behind_none : (p : Pg) (w : Bool) (t : Cn) → Behind p w t [] t
behind_none p w t = record { onward = λ ss form h. h; back = λ ss form h. (ss, form, h) }

before_last : (done : List Sh) (s : Sh) (ss : Shs) → before (done ++ s ∷ []) ss ≡ before done (shape s ss)
before_last [] s ss = refl
before_last (d ∷ done) s ss = ap (shape d) (before_last done s ss)

pub before_all : (done : List Sh) → before done no_shapes ≡ shapes_from done
before_all [] = refl
before_all (d ∷ done) = ap (shape d) (before_all done)

pub behind_more : (p : Pg) (w : Bool) (t : Cn) (done new : List Sh) (now b : Cn) (s : Sh) → Behind p w t done now → Passes p w now s b → new ≡ done ++ s ∷ [] → Behind p w t new b
behind_more p w t done new now b s h q e = subst (λ (z : List Sh). Behind p w t z b) (sym e) (record {
  onward = λ ss form i. subst (λ (z : Shs). Takes p w t z form) (sym (before_last done s ss)) (h.onward (shape s ss) form (q.onward ss form i));
  back = λ ss form i. let (rest, f, j) = h.back ss form i in q.back rest f j;
})

pub behind_no : (p : Pg) (w : Bool) (t : Cn) (done : List Sh) (now : Cn) → Behind p w t done now → NothingTaken p w now → NothingTaken p w t
behind_no p w t done now h n ss form i = let (rest, f, j) = h.back ss form i in n rest f j

pub behind_all : (p : Pg) (w : Bool) (t : Cn) (done : List Sh) (now : Cn) (form : Option Sh) → Behind p w t done now → Takes p w now no_shapes form → Takes p w t (shapes_from done) form
behind_all p w t done now form h i = subst (λ (z : Shs). Takes p w t z form) (before_all done) (h.onward no_shapes form i)
