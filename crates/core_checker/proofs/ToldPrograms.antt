-- What a program tells: the first of what its terms tell, of its declarations' own faults and of its entries'.
use Rattle.std.proofs.Common.{◌≡◌, Bool, true, false, [], Option, Some, None, if◌then◌else◌, refl, subst}
use Rattle.core_terms.specs.Trees.{Ex, Pg}
use Rattle.core_typing.specs.Scopes.{Sc}
use Rattle.core_typing.specs.Declarations.{Value}
use Rattle.core_typing.specs.Faults.{Fault, at, Earlier}
use Rattle.core_typing.specs.Tells.{Fails, itself, inside, Tells, tells_own, tells_inner, ProgramOwn, of_declaration, same_entry, ProgramSub, in_declaration, ProgramFails, outside_terms, in_term, ProgramTells, tells_outside, tells_in_term, Clear}
use Rattle.told_faults.specs.Computed.{sooner, first}
use Rattle.told_faults.specs.Told.{Picks, Least, Or, or_first, or_second}
use Rattle.told_faults.proofs.Ordering.{sooner_is, sooner_isnt, stands_before, none_before, never_both}
use Rattle.told_faults.proofs.Verdict.{picks_as, picks_two, least_as}
use Rattle.node_rules.specs.Locals.{Ls}
use Rattle.told_terms.specs.Laws.{JudgedIsTold}
use Rattle.core_checker.specs.Declarations.{ProgramJudges}
use Rattle.core_checker.specs.Told.{IsTold}
use Rattle.core_checker.specs.Twice.{SecondEntry, second_entry}
use Rattle.core_checker.proofs.ToldDeclarations.{DeclsSub, decls_sub, DeclsOwn, decls_own, program_says}

-- what a program tells: what its terms tell, unless a fault outside of them stands strictly before
settled : (p : Pg) (k o : Option Fault) → Least (ProgramSub p) k → Picks (ProgramOwn p) o → IsTold p (first k o)
settled p None None h i = none
  where
    none : (f : Fault) → ProgramFails p f → ⊥
    none f (outside_terms x) = i f x
    none f (in_term {G = G} {e = e} s x) = h G e f s x
settled p None (Some o) h i = tells_outside i.0 i.1 (λ G e g s x. absurd (h G e g s x))
settled p (Some f) None ((G, e, s, x), l) i = tells_in_term s x least
  where
    least : (g : Fault) → ProgramFails p g → Earlier (at g) (at f) → ⊥
    least g (outside_terms y) = absurd (i g y)
    least g (in_term {G = H} {e = c} t y) = l H c g t y
settled p (Some f) (Some o) ((G, e, s, x), l) i = by_order (sooner (at o) (at f)) refl
  where
    by_order : (b : Bool) → sooner (at o) (at f) ≡ b → IsTold p (if b then Some o else Some f)
    by_order true b = tells_outside i.0 i.1 (λ H c g t y. stands_before (at g) (at f) (at o) (l H c g t y) (sooner_is (at o) (at f) b))
    by_order false b = tells_in_term s x least
      where
        least : (g : Fault) → ProgramFails p g → Earlier (at g) (at f) → ⊥
        least g (outside_terms y) k = none_before (at g) (at f) (at o) (i.1 g y) (sooner_isnt (at o) (at f) b) k
        least g (in_term {G = H} {e = c} t y) k = l H c g t y k

-- the terms of a program, and what is at fault outside of them
sub_there : (p : Pg) (G : Sc) (e : Ex) → DeclsSub p [] [] p.decls G e → ProgramSub p G e
sub_there p G e (decls_sub a s) = in_declaration a s

sub_back : (p : Pg) (G : Sc) (e : Ex) → ProgramSub p G e → DeclsSub p [] [] p.decls G e
sub_back p G e (in_declaration a s) = decls_sub a s

own_there : (p : Pg) (f : Fault) → Or (DeclsOwn p [] [] p.decls) (SecondEntry p) f → ProgramOwn p f
own_there p f (or_first (decls_own a x)) = of_declaration a x
own_there p f (or_second (second_entry a b l n v)) = same_entry a b l n v

own_back : (p : Pg) (f : Fault) → ProgramOwn p f → Or (DeclsOwn p [] [] p.decls) (SecondEntry p) f
own_back p f (of_declaration a x) = or_first (decls_own a x)
own_back p f (same_entry a b l n v) = or_second (second_entry a b l n v)

pub program_told : JudgedIsTold → (p : Pg) (r : Ls) (entries : Option Fault) → ProgramJudges p r → Picks (SecondEntry p) entries → IsTold p (first r.kids (first r.own entries))
program_told law p r entries h i =
    let s = program_says law p r h in
    settled p r.kids (first r.own entries) (least_as (DeclsSub p [] [] p.decls) (ProgramSub p) r.kids (sub_there p) (sub_back p) s.kids)
    (picks_as (Or (DeclsOwn p [] [] p.decls) (SecondEntry p)) (ProgramOwn p) (first r.own entries) (own_there p) (own_back p)
    (picks_two (DeclsOwn p [] [] p.decls) (SecondEntry p) r.own entries s.own i))

-- a told fault is one, so that none is told where none is there
told_fails : {G : Sc} {e : Ex} {f : Fault} → Tells G e f → Fails G e f
told_fails (tells_own h first parts) = itself h
told_fails (tells_inner s h first) = inside s (told_fails h)

program_fails : (p : Pg) (f : Fault) → ProgramTells p f → ProgramFails p f
program_fails p f (tells_outside h first parts) = outside_terms h
program_fails p f (tells_in_term s h first) = in_term s (told_fails h)

pub none_is_told : (p : Pg) → IsTold p None → Clear p
none_is_told p none f t = none f (program_fails p f t)
