-- How far apart the two ends of a flow are.
use Rattle.std.proofs.Common.{◌≡◌, ℕ, ◌+◌, ◌*◌, ◌≤◌, mul_comm, mul-le-mul_left, arith}
use Rattle.exact.specs.Sums.{sum_where, count_where}
use Rattle.exact.proofs.Formulas.{scaled_gap, capped_gap}
use Rattle.exact.proofs.Totals.{total_gap}
use Rattle.exact.proofs.SumLaws.{where_times, where_plus, where_mono}
use Rattle.exact.specs.Worked.{Worked, gap}
use Rattle.margin.specs.Network.{Network, Sound, comes, leaves, width_out, arriving, specific, cut, flow_out}
use Rattle.margin.specs.Network.{PointWidens}

-- one point
module _ (n : Network) (w : ℕ → Worked) (p : ℕ) where
  pub in_gap : width_out n p * gap (specific n w p) ≤ 1000 * sum_where n.count (comes n p) (λ i. gap (w i)) + 2 * width_out n p
  unfolding specific arriving
  in_gap = omega (arith, scaled_gap 1000 (width_out n p) (arriving n w p), total_gap n.count (comes n p) w)

  pub cut_gap : (i : ℕ) → gap (cut n w p i) ≤ gap (specific n w p)
  unfolding cut
  cut_gap i = capped_gap (n.cap i) (specific n w p)

  out_gap : (i : ℕ) → 1000 * gap (flow_out n w p i) ≤ gap (specific n w p) * n.width i + 2000 * 1
  unfolding flow_out
  out_gap i = omega (arith, scaled_gap (n.width i) 1000 (cut n w p i), mul-le-mul_left (n.width i) (cut_gap i), mul_comm (n.width i) (gap (specific n w p)))

  pub point_widens_at : Sound n → sum_where n.count (leaves n p) (λ i. gap (flow_out n w p i)) ≤ sum_where n.count (comes n p) (λ i. gap (w i)) + 22 * count_where n.count (leaves n p)
  unfolding width_out
  point_widens_at s =
      let k = n.count in
      let t = leaves n p in
      let d = gap (specific n w p) in
      let wide = n.width in
      let ones : ℕ → ℕ = λ _. 1 in
      let out : ℕ → ℕ = λ i. gap (flow_out n w p i) in
      let a : sum_where k t (λ i. 1000 * out i) ≡ 1000 * sum_where k t out = where_times k t out out 1000 in
      let b : sum_where k t (λ i. 1000 * out i) ≤ sum_where k t (λ i. d * wide i + 2000 * ones i) = where_mono k t (λ i. 1000 * out i) (λ i. d * wide i + 2000 * ones i) (λ i l h. out_gap i) in
      let c : sum_where k t (λ i. d * wide i + 2000 * ones i) ≡ sum_where k t (λ i. d * wide i) + sum_where k t (λ i. 2000 * ones i) = where_plus k t (λ i. d * wide i) (λ i. 2000 * ones i) in
      let e : sum_where k t (λ i. d * wide i) ≡ d * sum_where k t wide = where_times k t wide wide d in
      let f : sum_where k t (λ i. 2000 * ones i) ≡ 2000 * sum_where k t ones = where_times k t ones ones 2000 in
      let g : sum_where k t wide ≤ sum_where k t (λ i. 10000 * ones i) = where_mono k t wide (λ i. 10000 * ones i) (λ i l h. omega (arith, s.thin i l)) in
      let h : sum_where k t (λ i. 10000 * ones i) ≡ 10000 * sum_where k t ones = where_times k t ones ones 10000 in
      omega (arith, in_gap)

pub point_widens : PointWidens
point_widens n w s p = point_widens_at n w p s
