-- Sums and tests by index, as the same over the elements themselves.
use Rattle.std.proofs.Common.{◌≡◌, ℕ, zero, suc, ◌+◌, Bool, ◌||◌, List, ◌∷◌, length, refl, ap, ◌∙◌, arith}
use Rattle.std.specs.List.{sum_by, list_any}
use Rattle.std.proofs.lemmas.List.Recursion.{is_sum_by, same_from_clauses}
use Rattle.exact.specs.Sums.{sum_below}
use Rattle.exact.proofs.SumLaws.{sum_none}
use Rattle.network.specs.declared.Element.{Element}
use Rattle.network.specs.Elements.{el, any_below}

pub sum_first : (n : ℕ) (f : ℕ → ℕ) → sum_below (suc n) f ≡ f 0 + sum_below n (λ i. f (suc i))
unfolding sum_below
sum_first zero f = omega arith
sum_first (suc n) f = omega (arith, sum_first n f)

any_first : (n : ℕ) (t : ℕ → Bool) → any_below (suc n) t ≡ (t 0 || any_below n (λ i. t (suc i)))
any_first zero t = grind arith
any_first (suc n) t = ap (λ b. b || t (suc n)) (any_first n t) ∙ grind arith

pub sum_of_each : (f : Element → ℕ) (es : List Element) → sum_below (length es) (λ i. f (el es i)) ≡ sum_by f es
sum_of_each f es =
    is_sum_by (λ xs. sum_below (length xs) (λ i. f (el xs i))) f (sum_none _) (λ x xs. sum_first (length xs) (λ i. f (el (x ∷ xs) i))) es

pub any_of_each : (p : Element → Bool) (es : List Element) → any_below (length es) (λ i. p (el es i)) ≡ list_any p es
any_of_each p es =
    same_from_clauses (λ xs. any_below (length xs) (λ i. p (el xs i))) (list_any p) (λ x b. p x || b) refl
    (λ x xs. any_first (length xs) (λ i. p (el (x ∷ xs) i))) (λ _ _. refl) es
