-- What is in flight, from point to point.
use Rattle.std.proofs.Common.{◌≡◌, ℕ, zero, suc, ◌+◌, ◌*◌, ◌<◌, ◌≤◌, Bool, true, cond, ◌&&◌, ◌||◌, eqb, ltb, leb, ◌⊎◌, ap, subst, ⊎_elim, mul-le-mul_left, arith}
use native.Mathlib.Nat.{le_of_mul-le-mul_left}
use Rattle.std.proofs.lemmas.Bool.{cases_eq, eq-eqb}
use Rattle.std.proofs.lemmas.Bool.Decides.{nat_tests}
use Rattle.exact.specs.Sums.{sum_below, sum_where, count_where}
use Rattle.exact.proofs.SumLaws.{sum_mono, sum_plus, sum_times, where_term, where_le}
use Rattle.exact.specs.Worked.{Worked, gap}
use Rattle.margin.specs.Network.{Network, Sound, Sources, comes, leaves, done, in_flight, width_out, specific, flow_out, flows}
use Rattle.margin.specs.Network.{FlightNear, FlowsNear, SpecificNear}
use Rattle.margin.proofs.Enclosing.{flows_leave, flows_stay, width_some}
use Rattle.margin.proofs.Widening.{in_gap, point_widens_at}

-- worked before p, and leads past p
abbrev stays : Network → ℕ → ℕ → Bool
stays n p i = ltb (n.from i) p && (eqb (n.to i) 0 || ltb p (n.to i))

-- one element, over plain numbers
number_start : (from to x : ℕ) → (from ≡ 0 → x ≤ 31) → cond (leb from 0 && (eqb to 0 || ltb 0 to)) x 0 ≤ 31 * cond (leb from 0) 1 0
number_start from to x h = grind (arith, nat_tests)

number_before : (from to p x : ℕ) → (to ≡ 0) ⊎ (from < to) → cond (eqb to (suc p)) x 0 + cond (ltb from (suc p) && (eqb to 0 || ltb (suc p) to)) x 0 ≤ cond (leb from p && (eqb to 0 || ltb p to)) x 0
number_before from to p x h = grind (arith, nat_tests)

number_yes : (from to p x y z : ℕ) → from ≡ p → y ≡ z → cond (leb from p && (eqb to 0 || ltb p to)) y 0 ≤ cond (eqb from p) z 0 + cond (ltb from p && (eqb to 0 || ltb p to)) x 0
number_yes from to p x y z e h = grind (arith, nat_tests)

number_no : (from to p x y z : ℕ) → (from ≡ p → ⊥) → y ≡ x → cond (leb from p && (eqb to 0 || ltb p to)) y 0 ≤ cond (eqb from p) z 0 + cond (ltb from p && (eqb to 0 || ltb p to)) x 0
number_no from to p x y z e h = grind (arith, nat_tests)

number_done : (from p : ℕ) → cond (leb from p) 1 0 + cond (eqb from (suc p)) 1 0 ≤ cond (leb from (suc p)) 1 0
number_done from p = grind (arith, nat_tests)

number_comes : (from to p x : ℕ) → (to ≡ 0) ⊎ (from < to) → cond (eqb to (suc p)) x 0 ≤ cond (leb from p && (eqb to 0 || ltb p to)) x 0
number_comes from to p x h = grind (arith, nat_tests)

number_flies : (from to : ℕ) → (to ≡ 0) ⊎ (from < to) → (leb from from && (eqb to 0 || ltb from to)) ≡ true
number_flies from to h = grind (arith, nat_tests)

module _ (n : Network) (w : ℕ → Worked) where
  abbrev flight : ℕ → ℕ
  flight p = sum_where n.count (in_flight n p) (λ i. gap (flows n w p i))

  after_at : (p i : ℕ) → cond (in_flight n (suc p) i) (gap (flows n w (suc p) i)) 0 ≤ cond (leaves n (suc p) i) (gap (flow_out n (flows n w p) (suc p) i)) 0 + cond (stays n (suc p) i) (gap (flows n w p i)) 0
  after_at p i = ⊎_elim
      (λ (e : n.from i ≡ suc p). number_yes (n.from i) (n.to i) (suc p) (gap (flows n w p i)) _ _ e (ap gap (flows_leave n w p i e)))
      (λ (e : n.from i ≡ suc p → ⊥). number_no (n.from i) (n.to i) (suc p) (gap (flows n w p i)) _ (gap (flow_out n (flows n w p) (suc p) i)) e (ap gap (flows_stay n w p i e)))
      (cases_eq (n.from i) (suc p))

  module _ (s : Sound n) where
    done_more : (p : ℕ) → count_where n.count (done n p) + count_where n.count (leaves n (suc p)) ≤ count_where n.count (done n (suc p))
    done_more p =
        let k = n.count in
        let a = sum_mono k (λ i. cond (done n p i) 1 0 + cond (leaves n (suc p) i) 1 0) (λ i. cond (done n (suc p) i) 1 0) (λ i l. number_done (n.from i) p) in
        omega (arith, sum_plus k (λ i. cond (done n p i) 1 0) (λ i. cond (leaves n (suc p) i) 1 0))

    -- one point more
    flight_more : (p : ℕ) → flight (suc p) ≤ flight p + 22 * count_where n.count (leaves n (suc p))
    flight_more p =
        let k = n.count in
        let q = suc p in
        let v = flows n w p in
        let x : ℕ → ℕ = λ i. gap (v i) in
        let out : ℕ → ℕ = λ i. gap (flow_out n v q i) in
        let a : flight q ≤ sum_below k (λ i. cond (leaves n q i) (out i) 0 + cond (stays n q i) (x i) 0) = sum_mono k _ _ (λ i l. after_at p i) in
        let b : sum_below k (λ i. cond (leaves n q i) (out i) 0 + cond (stays n q i) (x i) 0) ≡ sum_where k (leaves n q) out + sum_where k (stays n q) x = sum_plus k (λ i. cond (leaves n q i) (out i) 0) (λ i. cond (stays n q i) (x i) 0) in
        let c : sum_below k (λ i. cond (comes n q i) (x i) 0 + cond (stays n q i) (x i) 0) ≤ flight p = sum_mono k _ _ (λ i l. number_before (n.from i) (n.to i) p (x i) (s.onward i l)) in
        let d : sum_below k (λ i. cond (comes n q i) (x i) 0 + cond (stays n q i) (x i) 0) ≡ sum_where k (comes n q) x + sum_where k (stays n q) x = sum_plus k (λ i. cond (comes n q i) (x i) 0) (λ i. cond (stays n q i) (x i) 0) in
        omega (arith, point_widens_at n v q s)

    -- what comes to a point was in flight
    comes_le : (p : ℕ) → sum_where n.count (comes n (suc p)) (λ i. gap (flows n w p i)) ≤ flight p
    comes_le p = sum_mono n.count _ _ (λ i l. number_comes (n.from i) (n.to i) p (gap (flows n w p i)) (s.onward i l))

    module _ (src : Sources n w) where
      start : flight 0 ≤ 31 * count_where n.count (done n 0)
      unfolding flows
      start =
          let k = n.count in
          let a = sum_mono k (λ i. cond (in_flight n 0 i) (gap (w i)) 0) (λ i. 31 * cond (done n 0 i) 1 0) (λ i l. number_start (n.from i) (n.to i) (gap (w i)) (λ z. omega (arith, src.near i l z))) in
          omega (arith, sum_times 31 k (λ i. cond (done n 0 i) 1 0))

      near : (p : ℕ) → flight p ≤ 31 * count_where n.count (done n p)
      near zero = start
      near (suc p) = omega (arith, near p, flight_more p, done_more p)

      done_le : (p : ℕ) → count_where n.count (done n p) ≤ n.count
      done_le p = omega (arith, where_le (done n p) (λ _. 1) 1 n.count n.count (λ _. omega arith) (omega arith))

      -- each flow, once it is worked
      flow_near : (p i : ℕ) → i < n.count → n.from i ≤ p → gap (flows n w p i) ≤ 31 * n.count
      flow_near zero i l o = unfold flows in omega (arith, src.near i l (omega arith))
      flow_near (suc p) i l o = ⊎_elim
          (λ (e : n.from i ≡ suc p). omega (arith, near (suc p), done_le (suc p), where_term (in_flight n (suc p)) (λ j. gap (flows n w (suc p) j)) n.count i l (subst (λ q. (leb (n.from i) q && (eqb (n.to i) 0 || ltb q (n.to i))) ≡ true) e (number_flies (n.from i) (n.to i) (s.onward i l)))))
          (λ (e : n.from i ≡ suc p → ⊥). omega (arith, ap gap (flows_stay n w p i e), flow_near p i l (omega arith)))
          (cases_eq (n.from i) (suc p))

-- divided by the width again
divided : (s d c k : ℕ) → 500 ≤ s → c + 1 ≤ k → s * d ≤ 1000 * (31 * c) + 2 * s → d + 60 ≤ 62 * k
divided s d c k h l o =
    let g : s * d ≤ s * (62 * c + 2) = omega (arith, mul-le-mul_left (62 * c) h) in
    let z : 0 < s = omega arith in
    let r : d ≤ 62 * c + 2 = le_of_mul-le-mul_left {k = s} g z in
    omega arith

pub flight_near : FlightNear
flight_near n w s src p = near n w s src p

pub flows_near : FlowsNear
flows_near n w s src p i l o = flow_near n w s src p i l o

pub specific_near : SpecificNear
specific_near n w s src p i l e =
    let one = where_term (leaves n (suc p)) (λ _. 1) n.count i l (eq-eqb _ _ e) in
    divided (width_out n (suc p)) (gap (specific n (flows n w p) (suc p))) (count_where n.count (done n p)) n.count
    (width_some n s (suc p) i l e)
    (omega (arith, done_more n w s p, done_le n w s src (suc p)))
    (omega (arith, in_gap n (flows n w p) (suc p), comes_le n w s p, near n w s src p))
