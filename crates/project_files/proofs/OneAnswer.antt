-- No bytes are two projects, or refused at two lines, or both.
use Rattle.std.proofs.Common.{◌≡◌, ℕ, suc, ◌+◌, List, [], ◌∷◌, ◌++◌, length, Some, refl, sym, ap, ◌∙◌, subst}
use Rattle.std.specs.Option.{unwrap_or}
use Rattle.project_files.specs.Lines.{Line, HasLines}
use Rattle.project_files.specs.Projects.{Said, nothing_said, Follows, AllFollow, IsWhole, IsProject, IsRefusedAt, at_line, at_end, ProjectsHaveOneAnswer, RefusalsHaveOneLine}
use Rattle.project_files.proofs.Cutting.{same_lines}

-- a line is read in one way
reads_once : (s t u : Said) (line : Line) → Follows s line t → Follows s line u → t ≡ u
reads_once s t u line f g = ap (λ o. unwrap_or o s) (sym f.reads ∙ g.reads)

pub follow_once : (s t u : Said) (lines : List Line) → AllFollow s lines t → AllFollow s lines u → t ≡ u
follow_once s t u [] e f = sym e ∙ f
follow_once s t u (line ∷ lines) p q =
    follow_once p.0 t u lines p.2 (subst (λ v. AllFollow v lines u) (reads_once s q.0 p.0 line q.1 p.1) q.2)

abbrev first_line : List Line → Line
first_line [] = []
first_line (l ∷ ls) = l

abbrev later_lines : List Line → List Line
later_lines [] = []
later_lines (l ∷ ls) = ls

-- a line that may not stand there isn't followed
stops : (s t u : Said) (front rest : List Line) (line : Line) → AllFollow s front t → ((v : Said) → Follows t line v → ⊥) → AllFollow s (front ++ line ∷ rest) u → ⊥
stops s t u [] rest line e none all = none all.0 (subst (λ v. Follows v line all.0) e all.1)
stops s t u (x ∷ front) rest line p none all =
    stops p.0 t u front rest line p.2 none (subst (λ v. AllFollow v (front ++ line ∷ rest) u) (reads_once s all.0 p.0 x all.1 p.1) all.2)

one_stop : (s t u : Said) (front rest other behind : List Line) (line last : Line) → front ++ line ∷ rest ≡ other ++ last ∷ behind
    → AllFollow s front t → ((v : Said) → Follows t line v → ⊥)
    → AllFollow s other u → ((v : Said) → Follows u last v → ⊥)
    → length front ≡ length other
one_stop s t u [] rest [] behind line last e p none q nor = refl
one_stop s t u [] rest (y ∷ other) behind line last e p none q nor =
    absurd (none q.0 (subst (λ l. Follows t l q.0) (sym (ap first_line e)) (subst (λ v. Follows v y q.0) p q.1)))
one_stop s t u (x ∷ front) rest [] behind line last e p none q nor =
    absurd (nor p.0 (subst (λ l. Follows u l p.0) (ap first_line e) (subst (λ v. Follows v x p.0) q p.1)))
one_stop s t u (x ∷ front) rest (y ∷ other) behind line last e p none q nor =
    let same : q.0 ≡ p.0 = reads_once s q.0 p.0 x (subst (λ l. Follows s l q.0) (sym (ap first_line e)) q.1) p.1
    in ap suc (one_stop p.0 t u front rest other behind line last (ap later_lines e) p.2 none (subst (λ v. AllFollow v other u) same q.2) nor)

refused : (bytes : List ℕ) (said : Said) (n : ℕ) → IsProject bytes said → IsRefusedAt bytes n → ⊥
refused bytes said n is (at_line front rest line other has follow none) =
    stops nothing_said other said front rest line follow none
    (subst (λ ls. AllFollow nothing_said ls said) (same_lines bytes is.lines (front ++ line ∷ rest) is.has_lines has) is.follow)
refused bytes said n is (at_end lines other has follow short) =
    short (subst IsWhole (follow_once nothing_said said other lines (subst (λ ls. AllFollow nothing_said ls said) (same_lines bytes is.lines lines is.has_lines has) is.follow) follow) is.whole)

pub one_answer : ProjectsHaveOneAnswer
one_answer bytes said n is = (
  λ other also. follow_once nothing_said said other is.lines is.follow
      (subst (λ ls. AllFollow nothing_said ls other) (same_lines bytes also.lines is.lines also.has_lines is.has_lines) also.follow),
  refused bytes said n is,
)

pub one_line : RefusalsHaveOneLine
one_line bytes m n (at_line front rest line s has follow none) (at_line other behind last t has' follow' nor) =
    ap (λ k. k + 1) (one_stop nothing_said s t front rest other behind line last (same_lines bytes _ _ has has') follow none follow' nor)
one_line bytes m n (at_line front rest line s has follow none) (at_end lines t has' follow' short) =
    absurd (stops nothing_said s t front rest line follow none (subst (λ ls. AllFollow nothing_said ls t) (same_lines bytes lines (front ++ line ∷ rest) has' has) follow'))
one_line bytes m n (at_end lines t has' follow' short) (at_line front rest line s has follow none) =
    absurd (stops nothing_said s t front rest line follow none (subst (λ ls. AllFollow nothing_said ls t) (same_lines bytes lines (front ++ line ∷ rest) has' has) follow'))
one_line bytes m n (at_end lines s has follow short) (at_end others t has' follow' short') =
    ap (λ ls. length ls + 1) (same_lines bytes lines others has has')
