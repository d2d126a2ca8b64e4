-- That a link and an action of functions with a constructor parameter aren't carried, and that an element's context
-- is kinded.
use Rattle.std.proofs.Common.{◌≡◌, true, Some, refl, ap, sym, ◌∙◌, inl}
use Rattle.con_terms.specs.Trees.{types, Cn, arrow, poly}
use Rattle.kind_rules.specs.Compared.{comparison_units}
use Rattle.xml_trees.specs.declared.source_name.AttrName.TheVariants as attr
use Rattle.core_terms.specs.Types.{unit_type, transaction_of, page_type}
use Rattle.core_typing.specs.Scopes.{normal_of}
use Rattle.core_typing.specs.Typed.{applied, no_term}
use Rattle.core_typing.specs.Compared.{Differ}
use Rattle.core_typing.specs.Found.{call_has, top_has, at_end}
use Rattle.core_typing.specs.Carried.{carries_none}
use Rattle.core_typing.specs.Own.{other, IsFunction, Travels, link_travels, action_travels, as_a_link, as_a_generic, top_called, cannot_travel, context_kind, an_element}
use Rattle.core_typing.specs.Judged.{lacks}
use Rattle.core_typing.specs.ExampleTerms.{byte}
use Rattle.core_typing.specs.ExampleTypings.{generic_page, generic_action, generic_scope, not_filled, GenericLinkIsNotCarried, GenericActionIsNotCarried, ContextIsKinded}
use Rattle.core_typing.proofs.Excluded.{wants_out}

page_form : normal_of generic_page ≡ Some generic_page
unfolding comparison_units
page_form = refl

action_form : normal_of generic_action ≡ Some generic_action
unfolding comparison_units
action_form = refl

pub same_cn : {x y : Cn} → Some x ≡ Some y → x ≡ y
same_cn e = cc

-- the normal form of what stands at the top
form_is : {g t m : Cn} → normal_of g ≡ Some g → Some g ≡ Some t → normal_of t ≡ Some m → m ≡ g
form_is h e n = same_cn (sym n ∙ ap normal_of (sym (same_cn e)) ∙ h)

pages_differ : Differ (transaction_of page_type) generic_page (transaction_of page_type) generic_page
unfolding comparison_units
pages_differ = record { normal = refl; differ = λ e. cc }

actions_differ : Differ (arrow unit_type (transaction_of page_type)) generic_action (arrow unit_type (transaction_of page_type)) generic_action
unfolding comparison_units
actions_differ = record { normal = refl; differ = λ e. cc }

no_function : IsFunction generic_page → ⊥
no_function (t, u, e) = cc

no_arrow : {a b t : Cn} → arrow a b ≡ poly true types t → ⊥
no_arrow e = cc

no_link : Travels generic_scope attr.Link (not_filled 0) → ⊥
no_link (link_travels (applied no_term) e carries_none n none) = none (inl (true, types, transaction_of page_type, form_is page_form e n))

no_action : Travels generic_scope attr.Action (not_filled 1) → ⊥
no_action (action_travels (applied no_term) e carries_none n f k none) = no_arrow (form_is action_form e n)

pub link_not_carried : GenericLinkIsNotCarried
link_not_carried =
    cannot_travel top_called (call_has (top_has refl) at_end) (λ a. wants_out a (other {G = generic_scope} {p = byte 0} pages_differ))
    (as_a_link page_form no_function) no_link

pub action_not_carried : GenericActionIsNotCarried
action_not_carried =
    cannot_travel top_called (call_has (top_has refl) at_end) (λ a. wants_out a (other {G = generic_scope} {p = byte 0} actions_differ))
    (as_a_generic action_form (inl (true, types, arrow unit_type (transaction_of page_type), refl))) no_action

pub context_kinded : ContextIsKinded
context_kinded = an_element (context_kind (lacks refl))
