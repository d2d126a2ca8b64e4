-- Reading line by line.
use Rattle.std.proofs.Common.{◌≡◌, ℕ, zero, suc, ◌+◌, ◌≤◌, ◌<◌, List, [], ◌∷◌, ◌++◌, length, refl, sym, ap, ◌∙◌, subst, append_assoc, append-nil, length-append, get_or, arith}
use Rattle.project_files.specs.Lines.{Line, HasLines, no_lines}
use Rattle.project_files.specs.Projects.{Said, nothing_said, Follows, AllFollow, IsWhole, IsProject, IsRefusedAt, at_line, at_end, told, next}
use Rattle.std.specs.Prelude.{Bool, true, false, Some, None, IsUtf8}
use Rattle.std.specs.Option.{is_some}
use Rattle.std.proofs.lemmas.Bool.{false≢true}
use Rattle.project_files.proofs.Cutting.{lines_of}

-- one line more
pub one_more : (s t u : Said) (front : List Line) (line : Line) → AllFollow s front t → Follows t line u → AllFollow s (front ++ line ∷ []) u
one_more s t u [] line e f = (u, subst (λ v. Follows v line u) (sym e) f, refl)
one_more s t u (first ∷ front) line h f = (h.0, h.1, one_more h.0 t u front line h.2 f)

pub longer : (front : List Line) (line : Line) → length (front ++ line ∷ []) ≡ length front + 1
longer front line = length-append front (line ∷ [])

-- what the lines of the rest are added to
pub onward : (bytes rest behind : List ℕ) (front : List Line) (line : Line)
    → ((lines : List Line) → HasLines rest lines → HasLines bytes (front ++ lines))
    → ((lines : List Line) → HasLines behind lines → HasLines rest (line ∷ lines))
    → (lines : List Line) → HasLines behind lines → HasLines bytes ((front ++ line ∷ []) ++ lines)
onward bytes rest behind front line before first lines h =
    subst (λ ls. HasLines bytes ls) (sym (append_assoc front (line ∷ []) lines)) (before (line ∷ lines) (first lines h))

-- what the lines that were read leave open: all lines of the bytes are those and the lines of the rest
abbrev pub Read : List ℕ → List ℕ → Said → ℕ → Type 0
Read bytes rest said number =
    (front : List Line) × AllFollow nothing_said front said
    × ((lines : List Line) → HasLines rest lines → HasLines bytes (front ++ lines))
    × (number ≡ length front) × (number + length rest ≤ length bytes)

-- a line that may not stand there
pub refused_line : (bytes rest behind : List ℕ) (said : Said) (number : ℕ) (line : Line) → Read bytes rest said number
    → ((lines : List Line) → HasLines behind lines → HasLines rest (line ∷ lines))
    → ((t : Said) → Follows said line t → ⊥) → IsRefusedAt bytes (number + 1)
refused_line bytes rest behind said number line read first none =
    let more = lines_of behind
    in subst (λ n. IsRefusedAt bytes (n + 1)) (sym read.3)
    (at_line read.0 more.0 line said (read.2 (line ∷ more.0) (first more.0 more.1)) read.1 none)

-- a line that follows
pub next_line : (bytes rest behind : List ℕ) (said next : Said) (number : ℕ) (line : Line) → Read bytes rest said number
    → ((lines : List Line) → HasLines behind lines → HasLines rest (line ∷ lines))
    → length behind < length rest
    → Follows said line next → Read bytes behind next (number + 1)
next_line bytes rest behind said next number line read first shorter follows = (
  read.0 ++ line ∷ [],
  one_more nothing_said said next read.0 line read.1 follows,
  onward bytes rest behind read.0 line read.2 first,
  ap (λ n. n + 1) read.3 ∙ sym (longer read.0 line),
  omega (arith, read.4, shorter),
)

-- the lines at the end
at_last : (bytes rest : List ℕ) (said : Said) (number : ℕ) (read : Read bytes rest said number) → rest ≡ [] → HasLines bytes read.0
at_last bytes rest said number read none =
    subst (λ ls. HasLines bytes ls) (append-nil read.0) (read.2 [] (subst (λ r. HasLines r []) (sym none) no_lines))

pub whole_project : (bytes rest : List ℕ) (said : Said) (number : ℕ) → Read bytes rest said number → rest ≡ [] → IsWhole said → IsProject bytes said
whole_project bytes rest said number read none whole =
    record { lines = read.0; has_lines = at_last bytes rest said number read none; follow = read.1; whole = whole }

pub short_project : (bytes rest : List ℕ) (said : Said) (number : ℕ) → Read bytes rest said number → rest ≡ [] → (IsWhole said → ⊥) → IsRefusedAt bytes (number + 1)
short_project bytes rest said number read none short =
    subst (λ n. IsRefusedAt bytes (n + 1)) (sym read.3) (at_end read.0 said (at_last bytes rest said number read none) read.1 short)

-- a line that wasn't taken follows to nothing, and one that was taken follows
pub not_taken : (taken : Bool) (said new : Said) (line text : Line) → taken ≡ false → text ≡ line → told taken new ≡ next said text
    → (t : Said) → Follows said line t → ⊥
not_taken taken said new line text missed same is t f =
    false≢true (ap is_some (ap (λ b. told b new) (sym missed) ∙ is ∙ ap (λ l. next said l) same ∙ f.reads))

pub taken_follows : (taken : Bool) (said new : Said) (line text : Line) → taken ≡ true → text ≡ line → IsUtf8 line
    → told taken new ≡ next said text → Follows said line new
taken_follows taken said new line text kept same utf is =
    record { is_text = utf; reads = sym (ap (λ b. told b new) (sym kept) ∙ is ∙ ap (λ l. next said l) same) }
