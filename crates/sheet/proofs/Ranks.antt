-- Ranks under a strict order: of those that pass a test, exactly L have a rank below L, where there are so many.
use Rattle.std.proofs.Common.{◌≡◌, ℕ, zero, suc, ◌+◌, ◌-◌, ◌<◌, ◌≤◌, min, Bool, true, false, cond, ◌&&◌, ltb, ◌⊎◌, refl, ap, ◌∙◌, subst, inl, inr, arith}
use Rattle.std.proofs.lemmas.Bool.{cases_lt, cases_eq, cases_Bool, and_from, and_parts, and_left, and_right, cond-true, cond-false, lt-ltb, le-ltb}
use Rattle.std.proofs.lemmas.Bool.Decides.{nat_tests}
use Rattle.exact.specs.Sums.{sum_below, sum_where, count_where}
use Rattle.exact.proofs.SumLaws.{sum_mono, where_same}

abbrev pub rank : (ℕ → Bool) → (ℕ → ℕ → Bool) → ℕ → ℕ → ℕ
rank t b k i = count_where k (λ j. t j && b i j)

-- how many of the first k have a rank below top, among the first m
abbrev pub firsts : (ℕ → Bool) → (ℕ → ℕ → Bool) → ℕ → ℕ → ℕ → ℕ
firsts t b m k top = sum_where k t (λ i. cond (ltb (rank t b m i) top) 1 0)

-- b i j: j comes before i
pub record Strict (b : ℕ → ℕ → Bool) : Type 0 where
  pub irr : (i : ℕ) → b i i ≡ false
  pub trans : (i j k : ℕ) → b i j ≡ true → b j k ≡ true → b i k ≡ true
  pub total : (i j : ℕ) → (i ≡ j → ⊥) → b i j ≡ false → b j i ≡ true

-- 1 where a test passes
abbrev one_if : Bool → ℕ
one_if x = cond x 1 0

one_true : (x : Bool) → x ≡ true → one_if x ≡ 1
one_true x h = cond-true x 1 0 h

one_false : (x : Bool) → x ≡ false → one_if x ≡ 0
one_false x h = cond-false x 1 0 h

one_le : (x y : Bool) → (x ≡ true → y ≡ true) → one_if x ≤ one_if y
one_le true y h = let e : one_if y ≡ 1 = one_true y (h refl) in omega arith
one_le false y h = omega arith

pub count_mono : (n : ℕ) (u v : ℕ → Bool) → ((j : ℕ) → j < n → u j ≡ true → v j ≡ true) → count_where n u ≤ count_where n v
count_mono n u v h = sum_mono n (λ i. one_if (u i)) (λ i. one_if (v i)) (λ i l. one_le (u i) (v i) (h i l))

pub count_strict : (n : ℕ) (u v : ℕ → Bool) → ((j : ℕ) → j < n → u j ≡ true → v j ≡ true) → (i : ℕ) → i < n → u i ≡ false → v i ≡ true → count_where n u < count_where n v
unfolding sum_below
count_strict zero u v h i l a b = omega arith
count_strict (suc n) u v h i l a b =
    elim (cases_eq i n) [
      | inl e ↦
          let x : one_if (u n) ≡ 0 = one_false (u n) (subst (λ k. u k ≡ false) e a) in
          let y : one_if (v n) ≡ 1 = one_true (v n) (subst (λ k. v k ≡ true) e b) in
          omega (arith, count_mono n u v (λ j q. h j (omega arith)))
      | inr ne ↦ omega (arith, count_strict n u v (λ j q. h j (omega arith)) i (omega arith) a b, one_le (u n) (v n) (h n (omega arith)))
    ]

-- the two places that one more can have
abbrev Placed : ℕ → ℕ → ℕ → Type 0
Placed x x' y = ((x' ≡ x + 1) × (y ≤ x)) ⊎ ((x' ≡ x) × (x < y))

placed_low : (x x' y top : ℕ) → Placed x x' y → y < top → one_if (ltb x' top) ≡ one_if (ltb x (top - 1))
placed_low x x' y top h l = grind (arith, nat_tests)

placed_high : (x x' y top : ℕ) → Placed x x' y → top ≤ y → one_if (ltb x' top) ≡ one_if (ltb x top)
placed_high x x' y top h l = grind (arith, nat_tests)

module _ (t : ℕ → Bool) (b : ℕ → ℕ → Bool) (strict : Strict b) where
  place : (k i : ℕ) → i < k → t i ≡ true → t k ≡ true → Placed (rank t b k i) (rank t b (suc k) i) (rank t b k k)
  unfolding sum_below
  place k i l ti tk =
      elim (cases_Bool (b i k)) [
        | inl yes' ↦
            let one : one_if (t k && b i k) ≡ 1 = one_true _ (and_from _ _ tk yes') in
            inl (omega arith, count_mono k (λ j. t j && b k j) (λ j. t j && b i j) (λ j q h. let q = and_parts _ _ h in and_from _ _ q.0 (strict.trans i k j yes' q.1)))
        | inr no' ↦
            let none : one_if (t k && b i k) ≡ 0 = one_false _ (and_right _ _ no') in
            let back : b k i ≡ true = strict.total i k (λ e. omega arith) no' in
            inr (omega arith, count_strict k (λ j. t j && b i j) (λ j. t j && b k j) (λ j q h. let q = and_parts _ _ h in and_from _ _ q.0 (strict.trans k i j back q.1)) i l (and_right _ _ (strict.irr i)) (and_from _ _ ti back))
      ]

  rank_same : (k i : ℕ) → t k ≡ false → rank t b (suc k) i ≡ rank t b k i
  unfolding sum_below
  rank_same k i h = let none : one_if (t k && b i k) ≡ 0 = one_false _ (and_left _ _ h) in omega arith

  rank_own : (k : ℕ) → rank t b (suc k) k ≡ rank t b k k
  unfolding sum_below
  rank_own k = let none : one_if (t k && b k k) ≡ 0 = one_false _ (and_right _ _ (strict.irr k)) in omega arith

  rank_le : (k i : ℕ) → rank t b k i ≤ count_where k t
  rank_le k i = count_mono k (λ j. t j && b i j) t (λ j q h. (and_parts _ _ h).0)

  -- as many as are asked for, or all
  pub firsts_are : (k top : ℕ) → firsts t b k k top ≡ min top (count_where k t)
  unfolding sum_below
  firsts_are zero top = omega arith
  firsts_are (suc k) top =
      elim (cases_Bool (t k)) [
        | inr no' ↦
            let gone : cond (t k) (one_if (ltb (rank t b (suc k) k) top)) 0 ≡ 0 = cond-false _ _ 0 no' in
            let gone' : one_if (t k) ≡ 0 = one_false _ no' in
            let same : firsts t b (suc k) k top ≡ firsts t b k k top = where_same k t (λ i. one_if (ltb (rank t b (suc k) i) top)) (λ i. one_if (ltb (rank t b k i) top)) (λ i l h. ap (λ r. one_if (ltb r top)) (rank_same k i no')) in
            omega (arith, firsts_are k top)
        | inl yes' ↦
            let here : cond (t k) (one_if (ltb (rank t b (suc k) k) top)) 0 ≡ one_if (ltb (rank t b k k) top) = cond-true _ _ 0 yes' ∙ ap (λ r. one_if (ltb r top)) (rank_own k) in
            let here' : one_if (t k) ≡ 1 = one_true _ yes' in
            elim (cases_lt (rank t b k k) top) [
              | inl low ↦
                  let same : firsts t b (suc k) k top ≡ firsts t b k k (top - 1) = where_same k t (λ i. one_if (ltb (rank t b (suc k) i) top)) (λ i. one_if (ltb (rank t b k i) (top - 1))) (λ i l h. placed_low _ _ (rank t b k k) top (place k i l h yes') low) in
                  let own : one_if (ltb (rank t b k k) top) ≡ 1 = one_true _ (lt-ltb _ _ low) in
                  omega (arith, firsts_are k (top - 1))
              | inr high ↦
                  let same : firsts t b (suc k) k top ≡ firsts t b k k top = where_same k t (λ i. one_if (ltb (rank t b (suc k) i) top)) (λ i. one_if (ltb (rank t b k i) top)) (λ i l h. placed_high _ _ (rank t b k k) top (place k i l h yes') high) in
                  let own : one_if (ltb (rank t b k k) top) ≡ 0 = one_false _ (le-ltb _ _ high) in
                  omega (arith, firsts_are k top, rank_le k k)
            ]
      ]
