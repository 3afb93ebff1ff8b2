-- Laws of sum_below and sum_where.
use Rattle.std.proofs.Common.{◌≡◌, ℕ, zero, suc, ◌+◌, ◌*◌, ◌<◌, ◌≤◌, Bool, true, false, cond, sym, refl, ap, ◌∙◌, inl, inr, mul-le-mul_right, suc-mul, mul-zero, mul-add, add-one, arith}
use Rattle.std.proofs.lemmas.Bool.{cond-true, cond-false, cases_eq}
use Rattle.exact.specs.Sums.{sum_below, sum_where}

pub sum_none : (f : ℕ → ℕ) → sum_below 0 f ≡ 0
unfolding sum_below
sum_none f = refl

pub sum_more : (n : ℕ) (f : ℕ → ℕ) → sum_below (n + 1) f ≡ sum_below n f + f n
unfolding sum_below
sum_more n f = rw add-one

pub sum_le : (m n : ℕ) (f : ℕ → ℕ) → ((i : ℕ) → f i ≤ m) → sum_below n f ≤ n * m
unfolding sum_below
sum_le m zero f h = omega arith
sum_le m (suc n) f h = omega (arith, sum_le m n f h, h n, suc-mul n m)

-- equal, larger, added and scaled term by term
pub sum_same : (n : ℕ) (f g : ℕ → ℕ) → ((i : ℕ) → i < n → f i ≡ g i) → sum_below n f ≡ sum_below n g
unfolding sum_below
sum_same zero f g h = refl
sum_same (suc n) f g h = omega (arith, sum_same n f g (λ i l. h i (omega arith)), h n (omega arith))

pub sum_mono : (n : ℕ) (f g : ℕ → ℕ) → ((i : ℕ) → i < n → f i ≤ g i) → sum_below n f ≤ sum_below n g
unfolding sum_below
sum_mono zero f g h = omega arith
sum_mono (suc n) f g h = omega (arith, sum_mono n f g (λ i l. h i (omega arith)), h n (omega arith))

pub sum_plus : (n : ℕ) (f g : ℕ → ℕ) → sum_below n (λ i. f i + g i) ≡ sum_below n f + sum_below n g
unfolding sum_below
sum_plus zero f g = refl
sum_plus (suc n) f g = omega (arith, sum_plus n f g)

pub sum_times : (m n : ℕ) (f : ℕ → ℕ) → sum_below n (λ i. m * f i) ≡ m * sum_below n f
unfolding sum_below
sum_times m zero f = sym (mul-zero m)
sum_times m (suc n) f = omega (arith, sum_times m n f, mul-add m (sum_below n f) (f n))

pub term_le : (n : ℕ) (f : ℕ → ℕ) (i : ℕ) → i < n → f i ≤ sum_below n f
unfolding sum_below
term_le zero f i l = omega arith
term_le (suc n) f i l = elim (cases_eq i n) [ inl e ↦ omega (arith, ap f e) | inr ne ↦ omega (arith, term_le n f i (omega arith)) ]

-- under a test
pub cond_le : (b : Bool) (x m : ℕ) → x ≤ m → cond b x 0 ≤ m
cond_le true x m h = h
cond_le false x m h = omega arith

module _ (t : ℕ → Bool) (f : ℕ → ℕ) where
  pub where_yes : (i : ℕ) → t i ≡ true → sum_where (i + 1) t f ≡ sum_where i t f + f i
  where_yes i h =
      let s = sum_more i (λ k. cond (t k) (f k) 0) in
      let y : cond (t i) (f i) 0 ≡ f i = cond-true _ _ _ h in
      omega arith

  pub where_no : (i : ℕ) → t i ≡ false → sum_where (i + 1) t f ≡ sum_where i t f
  where_no i h =
      let s = sum_more i (λ k. cond (t k) (f k) 0) in
      let y : cond (t i) (f i) 0 ≡ 0 = cond-false _ _ _ h in
      omega arith

  pub where_le : (m n i : ℕ) → ((k : ℕ) → f k ≤ m) → i ≤ n → sum_where i t f ≤ n * m
  where_le m n i h few =
      let s = sum_le m i (λ k. cond (t k) (f k) 0) (λ k. cond_le (t k) (f k) m (h k)) in
      omega (arith, mul-le-mul_right m few)

  pub where_term : (n i : ℕ) → i < n → t i ≡ true → f i ≤ sum_where n t f
  where_term n i l h =
      let s = term_le n (λ k. cond (t k) (f k) 0) i l in
      let y : cond (t i) (f i) 0 ≡ f i = cond-true _ _ _ h in
      omega arith

cond_times : (b : Bool) (m x : ℕ) → cond b (m * x) 0 ≡ m * cond b x 0
cond_times true m x = refl
cond_times false m x = sym (mul-zero m)

cond_plus : (b : Bool) (x y : ℕ) → cond b (x + y) 0 ≡ cond b x 0 + cond b y 0
cond_plus true x y = refl
cond_plus false x y = refl

cond_mono : (b : Bool) (x y : ℕ) → (b ≡ true → x ≤ y) → cond b x 0 ≤ cond b y 0
cond_mono true x y h = h refl
cond_mono false x y h = omega arith

cond_same : (b : Bool) (x y : ℕ) → (b ≡ true → x ≡ y) → cond b x 0 ≡ cond b y 0
cond_same true x y h = h refl
cond_same false x y h = refl

cond_same_zero : (b : Bool) (x : ℕ) → (b ≡ true → ⊥) → cond b x 0 ≡ 0
cond_same_zero true x h = absurd (h refl)
cond_same_zero false x h = refl

module _ (n : ℕ) (t : ℕ → Bool) (f g : ℕ → ℕ) where
  pub where_times : (m : ℕ) → sum_where n t (λ i. m * f i) ≡ m * sum_where n t f
  where_times m = sum_same n (λ i. cond (t i) (m * f i) 0) (λ i. m * cond (t i) (f i) 0) (λ i l. cond_times (t i) m (f i)) ∙ sum_times m n (λ i. cond (t i) (f i) 0)

  pub where_plus : sum_where n t (λ i. f i + g i) ≡ sum_where n t f + sum_where n t g
  where_plus = sum_same n (λ i. cond (t i) (f i + g i) 0) (λ i. cond (t i) (f i) 0 + cond (t i) (g i) 0) (λ i l. cond_plus (t i) (f i) (g i)) ∙ sum_plus n (λ i. cond (t i) (f i) 0) (λ i. cond (t i) (g i) 0)

  pub where_mono : ((i : ℕ) → i < n → t i ≡ true → f i ≤ g i) → sum_where n t f ≤ sum_where n t g
  where_mono h = sum_mono n (λ i. cond (t i) (f i) 0) (λ i. cond (t i) (g i) 0) (λ i l. cond_mono (t i) (f i) (g i) (h i l))

  pub where_same : ((i : ℕ) → i < n → t i ≡ true → f i ≡ g i) → sum_where n t f ≡ sum_where n t g
  where_same h = sum_same n (λ i. cond (t i) (f i) 0) (λ i. cond (t i) (g i) 0) (λ i l. cond_same (t i) (f i) (g i) (h i l))

pub sum_zero : (n : ℕ) → sum_below n (λ _. 0) ≡ 0
unfolding sum_below
sum_zero zero = refl
sum_zero (suc n) = omega (arith, sum_zero n)

-- nothing where no term is above 0
pub where_zero : (n : ℕ) (t : ℕ → Bool) (f : ℕ → ℕ) → ((i : ℕ) → i < n → t i ≡ true → ⊥) → sum_where n t f ≡ 0
where_zero n t f h = sum_same n (λ i. cond (t i) (f i) 0) (λ _. 0) (λ i l. cond_same_zero (t i) (f i) (h i l)) ∙ sum_zero n
