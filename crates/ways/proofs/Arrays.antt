-- The array of longest walks, filled point after point.
use Rattle.std.proofs.Common.{◌≡◌, ℕ, zero, suc, ◌+◌, ◌-◌, ◌<◌, ◌≤◌, List, length, get_or, set, replicate, sym, refl, ap, ◌∙◌, subst, ⊎_elim, arith}
use Rattle.std.proofs.lemmas.List.{get_or-set_same, get_or-set_other, length-set}
use Rattle.std.proofs.lemmas.Bool.{cases_lt, cases_eq}
use Rattle.ways.specs.declared.Way.{Way}
use Rattle.ways.specs.declared.Way.TheVariants.{Back, Onward}
use Rattle.ways.specs.Walks.{Net, point_at, far, Longest, Reaches, longest_from, Low, Walkable}
use Rattle.ways.proofs.Longest.{steps, onward_steps, steps_few, steps_none, steps_same, longest_zero, longest_low, longest_step, far_low, nearer}

low_set : (h : List ℕ) (p x : ℕ) → p < length h → Low h → x ≤ 6400000000000000000 → Low (set h p x)
low_set h p x l low le k =
    ⊎_elim
    (λ e. subst (λ (j : ℕ). get_or (set h p x) j 0 ≤ 6400000000000000000) (sym e) (let q = get_or-set_same h p x 0 l in omega arith))
    (λ ne. let q = get_or-set_other h p k x 0 ne in let b = low k in omega arith)
    (cases_eq k p)

set_longest : (w : Way) (n : Net) (h : List ℕ) (p x : ℕ) → p < length h → Longest w n p x
    → (k : ℕ) → ((k ≡ p → ⊥) → Longest w n k (get_or h k 0)) → Longest w n k (get_or (set h p x) k 0)
set_longest w n h p x l here k other =
    ⊎_elim
    (λ e. subst (λ (j : ℕ). Longest w n j (get_or (set h p x) j 0)) (sym e) (subst (λ (y : ℕ). Longest w n p y) (sym (get_or-set_same h p x 0 l)) here))
    (λ ne. subst (λ (y : ℕ). Longest w n k y) (sym (get_or-set_other h p k x 0 ne)) (other ne))
    (cases_eq k p)

-- an array in which the walks from all points of fewer than k steps are known
pub record Known (w : Way) (n : Net) (k : ℕ) (h : List ℕ) : Type 0 where
  pub size : length h ≡ 65
  pub low : Low h
  pub below : (p : ℕ) → p ≤ 64 → steps w p < k → Longest w n p (get_or h p 0)

zeros : (m k : ℕ) → get_or {A = ℕ} (replicate m 0) k 0 ≡ 0
zeros zero k = refl
zeros (suc m) zero = refl
zeros (suc m) (suc k) = zeros m k

-- at the start only the point 0 is
pub none_known : (w : Way) (n : Net) → Known w n 1 (replicate 65 0)
none_known w n = record {
  size = refl;
  low = λ p. omega (arith, zeros 65 p);
  below = λ p l s.
      let e : p ≡ 0 = steps_none w p l (omega arith) in
      subst (λ (q : ℕ). Longest w n q (get_or (replicate 65 0) q 0)) (sym e) (longest_zero w n);
}

-- one more point
one_known : (w : Way) (n : Net) → Walkable n → (k p x : ℕ) (h : List ℕ) → 0 < p → p ≤ 64 → steps w p ≡ k
    → Known w n k h → x ≡ longest_from w n h p → Known w n (k + 1) (set h p x)
one_known w n wk k p x h pos le st kn e =
    let stepped : Longest w n p (longest_from w n h p) = longest_step w n wk h p pos
    (λ i c at. kn.below (far w n i) (far_low w n wk i c.0)
    (let d = nearer w n wk i c.0 (omega arith) in let q = ap (steps w) at in omega arith)) in
    let here : Longest w n p x = subst (λ (y : ℕ). Longest w n p y) (sym e) stepped in
    let fits : p < length h = omega (arith, kn.size) in
    record {
      size = length-set h p x ∙ kn.size;
      low = low_set h p x fits kn.low (longest_low w n wk p x le here);
      below = λ q l s. set_longest w n h p x fits here q
          (λ ne. kn.below q l (⊎_elim (λ (lt : steps w q < k). lt) (λ (ge : k ≤ steps w q). absurd (ne (steps_same w q p l le (omega arith)))) (cases_lt (steps w q) k)));
    }

-- the k-th point of a pass has k steps to go
point_some : (w : Way) (k : ℕ) → 0 < k → k ≤ 64 → 0 < point_at w k
point_some Back k pos le = pos
point_some Onward k pos le = omega arith

point_low : (w : Way) (k : ℕ) → 0 < k → k ≤ 64 → point_at w k ≤ 64
point_low Back k pos le = le
point_low Onward k pos le = omega arith

point_steps : (w : Way) (k : ℕ) → 0 < k → k ≤ 64 → steps w (point_at w k) ≡ k
point_steps Back k pos le = refl
point_steps Onward k pos le = onward_steps (65 - k) (omega arith) ∙ (let e : 65 - (65 - k) ≡ k = omega arith in e)

pub point_within : (w : Way) (k p : ℕ) → 0 < k → k ≤ 64 → p ≡ point_at w k → p ≤ 64
point_within w k p pos le e = omega (arith, point_low w k pos le)

pub next_known : (w : Way) (n : Net) → Walkable n → (k p x : ℕ) (h : List ℕ) → 0 < k → k ≤ 64 → p ≡ point_at w k
    → Known w n k h → x ≡ longest_from w n h p → Known w n (k + 1) (set h p x)
next_known w n wk k p x h pos le e kn q =
    one_known w n wk k p x h (omega (arith, point_some w k pos le)) (point_within w k p pos le e) (ap (steps w) e ∙ point_steps w k pos le) kn q

pub all_known : (w : Way) (n : Net) (k : ℕ) (h : List ℕ) → 65 ≤ k → Known w n k h → Reaches w n h
all_known w n k h l kn p le = kn.below p le (let s = steps_few w p le in omega arith)
