-- Where nothing is told, and what is told where something is.
use Rattle.std.proofs.Common.{◌≡◌, true, [], Option, Some, None, Result, Ok, Err, IfOk, refl, ap, sym, ◌∙◌, subst}
use Rattle.core_terms.specs.Trees.{Pg}
use Rattle.core_typing.specs.Accepts.{Accepts, EntriesDiffer, Formed}
use Rattle.core_typing.specs.Faults as told
use Rattle.core_typing.specs.FoundProgram.{DeclsFound, FoundIsAccepted}
use Rattle.told_faults.specs.Computed.{first}
use Rattle.type_faults.specs.View.{maybe_fault}
use Rattle.type_faults.specs.declared.fault.Fault.{Fault}
use Rattle.node_rules.specs.Locals.{Ls}
use Rattle.node_rules.specs.View.{found_tree}
use Rattle.node_rules.specs.declared.lets.Found.{Found}
use Rattle.judged_terms.specs.Laws.{Clean, DeclaredIsFound, NamesAreFound}
use Rattle.told_faults.specs.Told.{Picks}
use Rattle.markup_rules.proofs.Basics.{first_parts as neither_told}
use Rattle.told_terms.specs.Laws.{JudgedIsTold}
use Rattle.core_checker.specs.Declarations.{ProgramJudges}
use Rattle.core_checker.specs.Told.{IsTold, ToldOf}
use Rattle.core_checker.specs.Twice.{SecondEntry}
use Rattle.core_checker.proofs.Declared.{decls_are_found}
use Rattle.core_checker.proofs.EntriesApart.{entries_differ}
use Rattle.core_checker.proofs.ToldPrograms.{program_told}

some_not : {X : Type 0} (x : X) → Some x ≡ None → ⊥
some_not x h = cc

no_fault : (e : Option Fault) → maybe_fault e ≡ None → e ≡ None
no_fault None h = refl
no_fault (Some f) h = absurd (some_not _ h)

pub all_clean : {E : Type 0} (r : Found) (e later first_told : Option Fault) (o : Result (Option Fault) E) →
    maybe_fault later ≡ first (maybe_fault r.own) (maybe_fault e) →
    maybe_fault first_told ≡ first (maybe_fault r.kids) (maybe_fault later) →
    IfOk o (λ x. x ≡ first_told) → IfOk o (λ x. x ≡ None → r.found ≡ true) →
    IfOk o (λ x. x ≡ None → Clean (found_tree r))
all_clean r e later t (Ok x) a b k f = λ n.
    let (kids, rest) = neither_told (maybe_fault r.kids) (maybe_fault later) (sym b ∙ ap maybe_fault (sym k ∙ n)) in
    let (own, entries) = neither_told (maybe_fault r.own) (maybe_fault e) (sym a ∙ rest) in
    record { found = f n; kids = kids; own = own }
all_clean r e later t (Err x) a b k f = tt

pub no_entry : {E : Type 0} (r : Found) (e later first_told : Option Fault) (o : Result (Option Fault) E) →
    maybe_fault later ≡ first (maybe_fault r.own) (maybe_fault e) →
    maybe_fault first_told ≡ first (maybe_fault r.kids) (maybe_fault later) →
    IfOk o (λ x. x ≡ first_told) → IfOk o (λ x. x ≡ None → e ≡ None)
no_entry r e later t (Ok x) a b k = λ n.
    let (kids, rest) = neither_told (maybe_fault r.kids) (maybe_fault later) (sym b ∙ ap maybe_fault (sym k ∙ n)) in
    let (own, entries) = neither_told (maybe_fault r.own) (maybe_fault e) (sym a ∙ rest) in
    no_fault e entries
no_entry r e later t (Err x) a b k = tt

pub earliest : {E : Type 0} (r : Found) (e later first_told : Option Fault) (o : Result (Option Fault) E) →
    maybe_fault later ≡ first (maybe_fault r.own) (maybe_fault e) →
    maybe_fault first_told ≡ first (maybe_fault r.kids) (maybe_fault later) →
    IfOk o (λ x. x ≡ first_told) →
    IfOk o (λ x. maybe_fault x ≡ first (found_tree r).kids (first (found_tree r).own (maybe_fault e)))
earliest r e later t (Ok x) a b k = ap maybe_fault k ∙ b ∙ ap (first (maybe_fault r.kids)) a
earliest r e later t (Err x) a b k = tt

pub is_told : {E : Type 0} (p : Pg) (r : Ls) (e : Option told.Fault) (o : Result (Option Fault) E) → JudgedIsTold → ProgramJudges p r → Picks (SecondEntry p) e →
    IfOk o (λ x. maybe_fault x ≡ first r.kids (first r.own e)) → IfOk o (λ x. IsTold p (maybe_fault x))
is_told p r e (Ok x) law y i h = subst (IsTold p) (sym h) (program_told law p r e y i)
is_told p r e (Err x) law y i h = tt

pub differ_where_none : (p : Pg) (e : Option Fault) → Picks (SecondEntry p) (maybe_fault e) → e ≡ None → EntriesDiffer p
differ_where_none p e h n = entries_differ p (subst (Picks (SecondEntry p)) (ap maybe_fault n) h)

pub where_none : {E A B : Type 0} (o : Result (Option Fault) E) → (A → B) →
    IfOk o (λ x. x ≡ None → A) → IfOk o (λ x. x ≡ None → B)
where_none (Ok x) f h = λ n. f (h n)
where_none (Err x) f h = tt

pub declared : {E : Type 0} (p : Pg) (r : Ls) (o : Result (Option Fault) E) → DeclaredIsFound → NamesAreFound → ProgramJudges p r →
    IfOk o (λ x. x ≡ None → Clean r) → IfOk o (λ x. x ≡ None → DeclsFound p [] [] p.decls)
declared p r o D N y h = where_none o (decls_are_found D N p r y) h

pub accepted : {E : Type 0} (p : Pg) (o : Result (Option Fault) E) → FoundIsAccepted →
    IfOk o (λ x. x ≡ None → DeclsFound p [] [] p.decls) → IfOk o (λ x. x ≡ None → EntriesDiffer p) →
    IfOk o (λ x. x ≡ None → Formed p → Accepts p)
accepted p (Ok x) law d e = λ n f. law p (record { formed = f; declarations = d n; entries = e n })
accepted p (Err x) law d e = tt
