-- What a project file says, and at which line it is refused.
use Rattle.std.specs.Prelude.{◌≡◌, ℕ, ◌+◌, Bool, true, false, ◌==◌, ◌&&◌, not, nat_lt, List, [], ◌∷◌, ◌++◌, length, Option, Some, None, IsUtf8, bytes_eq, if◌then◌else◌}
use Rattle.std.specs.List.{list_any}
use Rattle.project_files.specs.Lines.{Line, HasLines}
use Rattle.project_files.specs.Directives.{Directive, a_rule, a_safe_get, a_foreign, an_effect, a_setting, directive, is_module_line, module_name}

-- What lines have said so far. Each list is in the order of the lines; modules of foreign effects and effects stand
-- once.
pub record Said : Type 0 where
  -- whether the empty line was met behind which the modules stand
  pub in_modules : Bool
  pub rules : List (Bool × Line)
  pub safe_gets : List (Line × Line)
  pub foreign : List Line
  pub effects : List (Line × Line)
  pub modules : List Line

abbrev pub nothing_said : Said
nothing_said = record { in_modules = false; rules = []; safe_gets = []; foreign = []; effects = []; modules = [] }

abbrev pub most_modules : ℕ
most_modules = 1000

abbrev pub is_among : Line → List Line → Bool
is_among line lines = list_any (λ other. bytes_eq other line) lines

abbrev pub is_effect_among : Line → Line → List (Line × Line) → Bool
is_effect_among m f effects = list_any (λ (e : Line × Line). bytes_eq e.0 m && bytes_eq e.1 f) effects

-- a directive behind what was said. An effect's module has to stand before it
abbrev pub with_directive : Said → Directive → Option Said
with_directive s (a_rule allow p) = Some (record s { rules = s.rules ++ (allow, p) ∷ [] })
with_directive s (a_safe_get m f) = Some (record s { safe_gets = s.safe_gets ++ (m, f) ∷ [] })
with_directive s (a_foreign m) = Some (if is_among m s.foreign then s else record s { foreign = s.foreign ++ m ∷ [] })
with_directive s (an_effect m f) =
    if not (is_among m s.foreign) then None
    else Some (if is_effect_among m f s.effects then s else record s { effects = s.effects ++ (m, f) ∷ [] })
with_directive s a_setting = Some s

-- a module behind what was said: it stands there once, has no name of a foreign one, and is one of at most 1,000
abbrev pub with_module : Said → Line → Option Said
with_module s line =
    if is_module_line line && not (is_among line s.modules) && not (is_among (module_name line) s.foreign)
    && nat_lt (length s.modules) most_modules
    then Some (record s { modules = s.modules ++ line ∷ [] }) else None

abbrev pub with_line : Said → Line → Option Said
with_line s line =
    if s.in_modules then with_module s line
    else elim (directive line) [ None ↦ None | Some d ↦ with_directive s d ]

-- a line behind what was said: the first empty line ends the directives, a line that begins with `#` says nothing
abbrev pub next : Said → Line → Option Said
next s [] = Some (record s { in_modules = true })
next s (b ∷ bs) = if b == 35 then Some s else with_line s (b ∷ bs)

-- what was said, where a line could be taken
abbrev pub told : Bool → Said → Option Said
told taken s = if taken then Some s else None

-- a line may stand behind what was said, which is `t` then: it is text, and is read so
pub record Follows (s : Said) (line : Line) (t : Said) : Type 0 where
  pub is_text : IsUtf8 line
  pub reads : next s line ≡ Some t

-- lines, each behind those before it
abbrev pub AllFollow : Said → List Line → Said → Type 0
AllFollow s [] t = s ≡ t
AllFollow s (line ∷ lines) t = (u : Said) × Follows s line u × AllFollow u lines t

-- the empty line and a module were met
abbrev pub IsWhole : Said → Type 0
IsWhole s = (s.in_modules ≡ true) × (s.modules ≡ [] → ⊥)

-- The bytes are a project file that says this.
pub record IsProject (bytes : List ℕ) (said : Said) : Type 0 where
  pub lines : List Line
  pub has_lines : HasLines bytes lines
  pub follow : AllFollow nothing_said lines said
  pub whole : IsWhole said

-- The bytes are refused at this line, counted from 1: it is the first that may not stand behind those before it, or all
-- may and the empty line or a module is missing behind the last.
pub data IsRefusedAt : List ℕ → ℕ → Type 0 where
  at_line : {bytes : List ℕ} (front rest : List Line) (line : Line) (said : Said)
      → HasLines bytes (front ++ line ∷ rest)
      → AllFollow nothing_said front said
      → ((t : Said) → Follows said line t → ⊥)
      → IsRefusedAt bytes (length front + 1)
  at_end : {bytes : List ℕ} (lines : List Line) (said : Said)
      → HasLines bytes lines
      → AllFollow nothing_said lines said
      → (IsWhole said → ⊥)
      → IsRefusedAt bytes (length lines + 1)

-- No bytes are two projects, or refused at two lines, or both.
abbrev pub ProjectsHaveOneAnswer : Type 0
ProjectsHaveOneAnswer = (bytes : List ℕ) (said : Said) (n : ℕ)
    → IsProject bytes said
    → ((other : Said) → IsProject bytes other → said ≡ other) × (IsRefusedAt bytes n → ⊥)

abbrev pub RefusalsHaveOneLine : Type 0
RefusalsHaveOneLine = (bytes : List ℕ) (m n : ℕ) → IsRefusedAt bytes m → IsRefusedAt bytes n → m ≡ n
