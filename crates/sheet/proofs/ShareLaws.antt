-- The shares of n persons by largest remainders.
use Rattle.std.proofs.Common.{◌≡◌, ℕ, ◌+◌, ◌-◌, ◌*◌, ◌<◌, ◌≤◌, Bool, cond, ◌&&◌, ◌||◌, eqb, ltb, List, length, refl, ap, ◌∙◌, mod-lt, mul_comm, mul-add, arith}
use native.Mathlib.Nat.{le_of_mul-le-mul_left, div-add-mod}
use Rattle.std.proofs.lemmas.Bool.{eq-eqb}
use Rattle.std.proofs.lemmas.Bool.Decides.{nat_tests}
use Rattle.exact.specs.Sums.{sum_where, count_where}
use Rattle.network.specs.declared.Element.{Element}
use Rattle.network.specs.Elements.{el, leaves}
use Rattle.sheet.specs.Shares.{width_out, part, remainder, before, left_over, share}
use Rattle.exact.proofs.SumLaws.{where_term, where_times, where_plus, where_same, where_mono}
use Rattle.sheet.proofs.Ranks.{Strict, firsts_are}

abbrev pub wide : List Element → ℕ → ℕ
wide es i = (el es i).width

abbrev earlier : ℕ → ℕ → ℕ → ℕ → Bool
earlier a b i j = ltb a b || (eqb a b && ltb j i)

earlier_strict : (f : ℕ → ℕ) → Strict (λ i j. earlier (f i) (f j) i j)
earlier_strict f = record {
  irr = λ i. grind (arith, nat_tests);
  trans = λ i j k h l. grind (arith, nat_tests);
  total = λ i j ne h. grind (arith, nat_tests);
}

abbrev parts : List Element → ℕ → ℕ → ℕ
parts es p n = sum_where (length es) (leaves es p) (part es p n)

module _ (es : List Element) (p : ℕ) where
  pub wide_le : (i : ℕ) → i < length es → (el es i).from ≡ p → wide es i ≤ width_out es p
  unfolding width_out
  wide_le i l h = where_term (leaves es p) (wide es) (length es) i l (eq-eqb _ _ h)

  -- the whole parts and the remainders are all
  parts_all : (n : ℕ) → width_out es p * parts es p n + sum_where (length es) (leaves es p) (remainder es p n) ≡ n * width_out es p
  parts_all n =
      let k = length es in
      let t = leaves es p in
      let s = width_out es p in
      let floor = part es p n in
      let rest = remainder es p n in
      let a : sum_where k t (λ i. s * floor i) ≡ s * sum_where k t floor = where_times k t floor floor s in
      let b : sum_where k t (λ i. s * floor i + rest i) ≡ sum_where k t (λ i. s * floor i) + sum_where k t rest = where_plus k t (λ i. s * floor i) rest in
      let c : sum_where k t (λ i. s * floor i + rest i) ≡ sum_where k t (λ i. n * wide es i) = where_same k t (λ i. s * floor i + rest i) (λ i. n * wide es i) (λ i l h. div-add-mod (n * wide es i) s) in
      let d : sum_where k t (λ i. n * wide es i) ≡ n * sum_where k t (wide es) = where_times k t (wide es) (wide es) n in
      let all : s ≡ sum_where k t (wide es) = unfold width_out in refl in
      let e : n * s ≡ n * sum_where k t (wide es) = ap (λ x. n * x) all in
      omega arith

  module _ (n : ℕ) (some : 0 < width_out es p) where
    parts_le : parts es p n ≤ n
    parts_le = le_of_mul-le-mul_left {k = width_out es p} (omega (arith, parts_all n, mul_comm n (width_out es p))) some

    -- what is left over is no more than one each
    over_le : n - parts es p n ≤ count_where (length es) (leaves es p)
    over_le =
        let k = length es in
        let t = leaves es p in
        let s = width_out es p in
        let over = n - parts es p n in
        let rests : sum_where k t (remainder es p n) ≤ sum_where k t (λ i. s * 1) = where_mono k t (remainder es p n) (λ i. s * 1) (λ i l h. omega (arith, mod-lt (n * wide es i) some)) in
        let ones : sum_where k t (λ i. s * 1) ≡ s * count_where k t = where_times k t (λ i. 1) (λ i. 1) s in
        let split : s * n ≡ s * parts es p n + s * over = ap (λ x. s * x) (omega (arith, parts_le)) ∙ mul-add s (parts es p n) over in
        le_of_mul-le-mul_left {k = s} (omega (arith, parts_all n, mul_comm n s)) some

    pub shares_all : sum_where (length es) (leaves es p) (share es p n) ≡ n
    unfolding share before left_over
    shares_all =
        let k = length es in
        let t = leaves es p in
        let over = n - parts es p n in
        let plus : sum_where k t (share es p n) ≡ sum_where k t (part es p n) + sum_where k t (λ i. cond (ltb (count_where k (before es p n i)) over) 1 0) = where_plus k t (part es p n) (λ i. cond (ltb (count_where k (before es p n i)) over) 1 0) in
        let ones = firsts_are t (λ i j. earlier (remainder es p n i) (remainder es p n j) i j) (earlier_strict (remainder es p n)) k over in
        omega (arith, over_le, parts_le)

    -- a share is no more than all
    pub share_le : (i : ℕ) → i < length es → (el es i).from ≡ p → share es p n i ≤ n
    share_le i l h = omega (arith, where_term (leaves es p) (share es p n) (length es) i l (eq-eqb _ _ h), shares_all)
