-- The sums over what comes to a point and what leaves it, as chains and loops meet them.
use Rattle.std.proofs.Common.{◌≡◌, ℕ, suc, ◌+◌, ◌*◌, ◌<◌, ◌≤◌, Bool, true, cond, List, [], ◌∷◌, length, get_or, sym, refl, ap, ◌∙◌, arith}
use Rattle.std.specs.List.{sum_by, enumerate_from}
use Rattle.std.proofs.lemmas.List.Sums.{sum_by-cons}
use Rattle.exact.specs.Sums.{sum_below, sum_where, count_where}
use Rattle.exact.proofs.SumLaws.{where_le, where_mono, sum_same}
use Rattle.network.proofs.Counts.{sum_first}

-- few small numbers have a small sum
pub where_small : (t : ℕ → Bool) (f : ℕ → ℕ) (m n i : ℕ) → ((k : ℕ) → k < i → t k ≡ true → f k ≤ m) → i ≤ n → sum_where i t f ≤ n * m
where_small t f m n i h few = omega (arith, where_mono i t f (λ _. m) h, where_le t (λ _. m) m n i (λ _. omega arith) few)

-- a sum of ones counts what a test chooses by the index too, where the first element has the index k
module _ {A : Type 0} (t : ℕ × A → Bool) (d : A) where
  ones_from : (k : ℕ) (xs : List A) → sum_by (λ q. cond (t q) 1 0) (enumerate_from k xs) ≡ count_where (length xs) (λ i. t (k + i, get_or xs i d))
  unfolding sum_below
  ones_from k [] = refl
  ones_from k (x ∷ xs) =
      let here : k ≡ k + 0 = omega arith in
      sum_by-cons (λ q. cond (t q) 1 0) (k, x) (enumerate_from (k + 1) xs)
      ∙ ap (λ m. cond (t (m, x)) 1 0 + sum_by (λ q. cond (t q) 1 0) (enumerate_from (k + 1) xs)) here
      ∙ ap (λ m. cond (t (k + 0, x)) 1 0 + m)
      (ones_from (k + 1) xs
      ∙ sum_same (length xs) (λ i. cond (t ((k + 1) + i, get_or xs i d)) 1 0) (λ i. cond (t (k + suc i, get_or xs i d)) 1 0)
      (λ i l. let next : (k + 1) + i ≡ k + suc i = omega arith in ap (λ m. cond {A = ℕ} (t (m, get_or xs i d)) 1 0) next))
      ∙ sym (sum_first (length xs) (λ i. cond (t (k + i, get_or (x ∷ xs) i d)) 1 0))

  pub ones_chosen : (t' : ℕ → Bool) (xs : List A) → ((i : ℕ) → t (i, get_or xs i d) ≡ t' i) → sum_by (λ q. cond (t q) 1 0) (enumerate_from 0 xs) ≡ count_where (length xs) t'
  ones_chosen t' xs same =
      ones_from 0 xs
      ∙ sum_same (length xs) (λ i. cond (t (0 + i, get_or xs i d)) 1 0) (λ i. cond (t' i) 1 0)
      (λ i l. let from : 0 + i ≡ i = omega arith in ap (λ m. cond {A = ℕ} (t (m, get_or xs i d)) 1 0) from ∙ ap (λ b. cond {A = ℕ} b 1 0) (same i))
