-- A project, or a module alone, isn't built for one cause at most.
use Rattle.std.specs.Prelude.{◌≡◌, ℕ, List}
use Rattle.ur_outside.specs.Files.{Told}
use Rattle.site_build.specs.Causes.{IsCauseIn, IsCauseOfText}
use Rattle.site_build.specs.declared.fault.BuildFault.{BuildFault}
use Rattle.site_build.specs.declared.fault.BuildFault.TheVariants.{Source, NotBuilt, Refused, ReadFault, Memory}

-- Both are one fault. What inference and the checker refuse counts as one here, and nothing is said of want of memory
-- and failures of the outside.
abbrev pub AreOne : BuildFault → BuildFault → Type 0
AreOne (Source fault) (Source other) = fault ≡ other
AreOne (Source fault) (NotBuilt file at) = ⊥
AreOne (Source fault) (Refused file at told) = ⊥
AreOne (NotBuilt file at) (Source fault) = ⊥
AreOne (NotBuilt file at) (NotBuilt other place) = (file ≡ other) × (at ≡ place)
AreOne (NotBuilt file at) (Refused other place told) = ⊥
AreOne (Refused file at told) (Source fault) = ⊥
AreOne (Refused file at told) (NotBuilt other place) = ⊥
AreOne (Refused file at told) (Refused other place again) = Unit {0}
AreOne (Source fault) ReadFault = Unit {0}
AreOne (Source fault) Memory = Unit {0}
AreOne (NotBuilt file at) ReadFault = Unit {0}
AreOne (NotBuilt file at) Memory = Unit {0}
AreOne (Refused file at told) ReadFault = Unit {0}
AreOne (Refused file at told) Memory = Unit {0}
AreOne ReadFault other = Unit {0}
AreOne Memory other = Unit {0}

-- A module alone isn't built for one cause at most.
abbrev pub TextsHaveOneCause : Type 0
TextsHaveOneCause = (bytes : List ℕ) (fault other : BuildFault) → IsCauseOfText bytes fault → IsCauseOfText bytes other
    → AreOne fault other

-- A project isn't built for one cause at most.
abbrev pub ProjectsHaveOneCause : Type 0
ProjectsHaveOneCause = (files : Told) (dir : List ℕ) (objects : List (List ℕ)) (fault other : BuildFault)
    → IsCauseIn files dir objects fault → IsCauseIn files dir objects other → AreOne fault other
