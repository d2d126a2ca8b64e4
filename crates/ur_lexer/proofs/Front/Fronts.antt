-- What stands at the front of a text, case by case.
use Rattle.std.proofs.Common.{◌≡◌, ◌<◌, ℕ, true, false, length, refl, sym, ◌∙◌, arith}
use Rattle.std.specs.Prelude.{◌==◌, Result, Ok}
use Rattle.std.proofs.lemmas.Bool.Decides.{nat_tests}
use Rattle.ur_lexer.specs.declared.fault.LexFault.{LexFault}
use Rattle.ur_lexer.specs.declared.lexer.Ahead.{Ahead}
use Rattle.ur_lexer.specs.declared.lexer.Ahead.TheVariants.{End, Blank}
use Rattle.ur_lexer.specs.Bytes.{Bytes}
use Rattle.ur_lexer.specs.Comments.{comment}
use Rattle.ur_lexer.specs.Where.{Where}
use Rattle.ur_lexer.specs.Ahead.{at_comment, at_space, comment_ahead, word_ahead, token_at, ahead_at}
use Rattle.ur_lexer.specs.Lexing.{NoBlank}
use Rattle.ur_lexer.proofs.Front.Choices.{by_test}

module _ (here : Where) (bs : Bytes) (at : ℕ) where
  pub at_a_comment : at_comment here.mode bs ≡ true → ahead_at here bs at ≡ comment_ahead at (comment bs)
  unfolding ahead_at
  at_a_comment h = rw h refl

  pub at_a_space : at_comment here.mode bs ≡ false → at_space here.mode bs ≡ true → ahead_at here bs at ≡ Ok (Blank 1)
  unfolding ahead_at
  at_a_space h g = rw (h, g) refl

  pub at_the_end : at_comment here.mode bs ≡ false → at_space here.mode bs ≡ false → (length bs == 0) ≡ true → ahead_at here bs at ≡ Ok End
  unfolding ahead_at
  at_the_end h g f = rw (h, g, f) refl

  pub at_a_token : at_comment here.mode bs ≡ false → at_space here.mode bs ≡ false → (length bs == 0) ≡ false → ahead_at here bs at ≡ word_ahead (token_at here bs at)
  unfolding ahead_at
  at_a_token h g f = rw (h, g, f) refl

  -- the four cases
  pub front_cases : {P : Type 0} (r : Result Ahead LexFault) → ahead_at here bs at ≡ r
      → (at_comment here.mode bs ≡ true → comment_ahead at (comment bs) ≡ r → P)
      → (at_comment here.mode bs ≡ false → at_space here.mode bs ≡ true → Ok (Blank 1) ≡ r → P)
      → (length bs ≡ 0 → Ok End ≡ r → P)
      → (NoBlank here.mode bs → 0 < length bs → word_ahead (token_at here bs at) ≡ r → P)
      → P
  front_cases r e c s n t =
      by_test (at_comment here.mode bs) (λ h. c h (sym (at_a_comment h) ∙ e))
      (λ h. by_test (at_space here.mode bs) (λ g. s h g (sym (at_a_space h g) ∙ e))
      (λ g. by_test (length bs == 0) (λ f. n (is_none (length bs) f) (sym (at_the_end h g f) ∙ e))
      (λ f. t (h, g) (is_some (length bs) f) (sym (at_a_token h g f) ∙ e))))
    where
      is_none : (n : ℕ) → (n == 0) ≡ true → n ≡ 0
      is_none n h = grind (arith, nat_tests)

      is_some : (n : ℕ) → (n == 0) ≡ false → 0 < n
      is_some n h = grind (arith, nat_tests)
