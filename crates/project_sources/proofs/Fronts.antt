-- What is read of a file.
use Rattle.std.proofs.Common.{◌≡◌, ℕ, Bool, true, false, List, ◌++◌, Some, None, IfSome, refl}
use Rattle.std.proofs.Common.{sym, ap, ◌∙◌, subst}
use Rattle.std.specs.Prelude.{codes}
use Rattle.std.proofs.lemmas.List.{take_all}
use Rattle.std.specs.declared.option.Option.{Option}
use borrow.Author.Tests.{ltb-true, ltb-false}
use Rattle.ur_outside.specs.Files.{Told, IsFront, file_at}
use Rattle.project_sources.specs.declared.fault.SourceFault.{SourceFault}
use Rattle.project_sources.specs.declared.fault.SourceFault.TheVariants.{FileTooLong}
use Rattle.project_sources.specs.Causes.{Says}
use Rattle.project_sources.specs.Modules.{file_in}
use Rattle.project_sources.specs.Steps.{IsTooLong}
use Rattle.project_sources.proofs.Saying.{told_one}

-- a file is read whole where there is no more of it
pub read_whole : (content : Option (List ℕ)) (bytes : List ℕ) (more : Bool) → IsFront content 4194304 bytes more
    → more ≡ false → content ≡ Some bytes
read_whole None bytes more front e = absurd front
read_whole (Some all) bytes more front e =
    ap Some (sym (front.0 ∙ take_all 4194304 all (ltb-false _ _ (sym front.1 ∙ e))))

-- and is too long where there is
pub read_front : (content : Option (List ℕ)) (bytes : List ℕ) (more : Bool) (name : List ℕ) (fault : SourceFault)
    → IsFront content 4194304 bytes more → more ≡ true
    → fault ≡ FileTooLong name → IsTooLong content name fault
read_front None bytes more name fault front e is = absurd front
read_front (Some all) bytes more name fault front e is = (all, refl, ltb-true _ _ (sym front.1 ∙ e), is)

-- ---- as far as files are told

-- what was read is what the file holds
pub content_read : (told : Option Told) (dir name path bytes front : List ℕ) (more : Bool)
    → path ≡ dir ++ codes "/" ++ name
    → IfSome told (λ files. IsFront (file_at files path) 4194304 front more)
    → ((content : Option (List ℕ)) → IsFront content 4194304 front more → content ≡ Some bytes)
    → IfSome told (λ files. file_in files dir name ≡ Some bytes)
content_read told dir name path bytes front more is fronts all =
    told_one told (λ files. IsFront (file_at files path) 4194304 front more)
    (λ files. file_in files dir name ≡ Some bytes) fronts
    (λ files h. all (file_in files dir name) (subst (λ (p : List ℕ). IsFront
    (file_at files p) 4194304 front more) is h))

-- or it is refused
pub content_refused : (told : Option Told) (dir name path front : List ℕ) (more : Bool) (fault : SourceFault)
    → path ≡ dir ++ codes "/" ++ name
    → IfSome told (λ files. IsFront (file_at files path) 4194304 front more)
    → ((content : Option (List ℕ)) → IsFront content 4194304 front more → Says (IsTooLong content name) fault)
    → IfSome told (λ files. Says (IsTooLong (file_in files dir name) name) fault)
content_refused told dir name path front more fault is fronts refused =
    told_one told (λ files. IsFront (file_at files path) 4194304 front more) (λ files. Says (IsTooLong
    (file_in files dir name) name) fault) fronts
    (λ files h. refused (file_in files dir name) (subst (λ (p : List ℕ). IsFront
    (file_at files p) 4194304 front more) is h))

-- or it isn't there
pub content_missing : (told : Option Told) (dir name path : List ℕ) → path ≡ dir ++ codes "/" ++ name
    → IfSome told (λ files. file_at files path ≡ None) → IfSome told (λ files. file_in files dir name ≡ None)
content_missing told dir name path is none =
    told_one told (λ files. file_at files path ≡ None) (λ files. file_in files dir name ≡ None) none
    (λ files h. subst (λ (p : List ℕ). file_at files p ≡ None) is h)
