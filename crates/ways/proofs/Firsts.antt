-- The first index at which a function is greatest.
use Rattle.std.proofs.Common.{◌≡◌, ℕ, zero, suc, ◌<◌, ◌≤◌, ltb, refl, ap, ⊎_elim, arith}
use Rattle.std.proofs.lemmas.Bool.{cases_lt, cases_order, ltb-true, ltb-false, cond_both}
use Rattle.ways.specs.Ends.{first_best}
use Rattle.ways.specs.Walks.{FirstMost}

module _ (w : ℕ → ℕ) where
  alone : FirstMost w 1 0 (w 0)
  alone = record {
    within = omega arith;
    here = refl;
    none_above = λ i l. let e : i ≡ 0 = omega arith in let q = ap w e in omega arith;
    first = λ i l. absurd (omega arith);
  }

  takes : (k b : ℕ) → FirstMost w k b (w b) → w b < w k → FirstMost w (suc k) k (w k)
  takes k b f lt = record {
    within = omega arith;
    here = refl;
    none_above = λ i l.
        ⊎_elim
        (λ (u : i < k). let a = f.none_above i u in omega arith)
        (λ (v : k ≤ i). let e : i ≡ k = omega arith in let q = ap w e in omega arith)
        (cases_lt i k);
    first = λ i l. let a = f.none_above i l in omega arith;
  }

  keeps : (k b : ℕ) → FirstMost w k b (w b) → w k ≤ w b → FirstMost w (suc k) b (w b)
  keeps k b f le = record {
    within = let l = f.within in omega arith;
    here = refl;
    none_above = λ i l.
        ⊎_elim
        (λ (u : i < k). f.none_above i u)
        (λ (v : k ≤ i). let e : i ≡ k = omega arith in let q = ap w e in omega arith)
        (cases_lt i k);
    first = f.first;
  }

  best_is : (k : ℕ) → FirstMost w (suc k) (first_best w (suc k)) (w (first_best w (suc k)))
  best_is zero =
      let P : ℕ → Type 0 = λ g. FirstMost w 1 g (w g) in
      cond_both (ltb (w 0) (w 0)) 0 0 P (λ _. alone) (λ _. alone)
  best_is (suc k) =
      let b = first_best w (suc k) in
      let P : ℕ → Type 0 = λ g. FirstMost w (suc (suc k)) g (w g) in
      cond_both (ltb (w b) (w (suc k))) (suc k) b P
      (λ t. takes (suc k) b (best_is k) (ltb-true (w b) (w (suc k)) t))
      (λ t. keeps (suc k) b (best_is k) (ltb-false (w b) (w (suc k)) t))

  pub first_best_is : (k : ℕ) → 0 < k → FirstMost w k (first_best w k) (w (first_best w k))
  first_best_is zero l = absurd (omega arith)
  first_best_is (suc k) l = best_is k

  unique : (k g h x y : ℕ) → FirstMost w k g x → FirstMost w k h y → g ≡ h
  unique k g h x y f s =
      let a = f.none_above h s.within in
      let b = s.none_above g f.within in
      let c = f.here in
      let d = s.here in
      ⊎_elim
      (λ e. e)
      (λ o.
      ⊎_elim
      (λ (lt : g < h). absurd (let q = s.first g lt in omega arith))
      (λ (gt : h < g). absurd (let q = f.first h gt in omega arith))
      o)
      (cases_order g h)

  pub first_most_best : (k g x : ℕ) → FirstMost w k g x → g ≡ first_best w k
  first_most_best k g x f = unique k g (first_best w k) x (w (first_best w k)) f (first_best_is k (let l = f.within in omega arith))
