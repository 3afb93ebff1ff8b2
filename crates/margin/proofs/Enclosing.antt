-- All that a network is worked with lies between its ends.
use Rattle.std.proofs.Common.{◌≡◌, ℕ, zero, suc, ◌<◌, ◌≤◌, sym, subst, ⊎_elim, arith}
use Rattle.std.proofs.lemmas.Bool.{cases_eq, eqb-true, eq-eqb, ne_eqb, cond-true, cond-false}
use Rattle.exact.proofs.Formulas.{scaled_encloses, capped_encloses}
use Rattle.exact.proofs.Totals.{total_encloses}
use Rattle.exact.proofs.SumLaws.{where_term}
use Rattle.exact.specs.Worked.{Worked, Encloses}
use Rattle.margin.specs.Network.{Network, Sound, Sources, comes, leaves, width_out, arriving, specific, cut, flow_out, flows}
use Rattle.margin.specs.Network.{FlowsHold, PointsHold}

-- where an element leaves, there is a way out
pub width_some : (n : Network) → Sound n → (p i : ℕ) → i < n.count → n.from i ≡ p → 500 ≤ width_out n p
unfolding width_out
width_some n s p i l e = omega (arith, where_term (leaves n p) n.width n.count i l (eq-eqb _ _ e), s.wide i l)

-- a flow after a point
pub flows_leave : (n : Network) (w : ℕ → Worked) (p i : ℕ) → n.from i ≡ suc p → flows n w (suc p) i ≡ flow_out n (flows n w p) (suc p) i
unfolding flows
flows_leave n w p i e = cond-true _ _ _ (eq-eqb _ _ e)

pub flows_stay : (n : Network) (w : ℕ → Worked) (p i : ℕ) → (n.from i ≡ suc p → ⊥) → flows n w (suc p) i ≡ flows n w p i
unfolding flows
flows_stay n w p i e = cond-false _ _ _ (ne_eqb _ _ e)

module _ (n : Network) (s : Sound n) (w : ℕ → Worked) (p i : ℕ) (l : i < n.count) (e : n.from i ≡ p) (h : Encloses (arriving n w p)) where
  specific_holds : Encloses (specific n w p)
  unfolding specific
  specific_holds = scaled_encloses 1000 (width_out n p) (arriving n w p) (omega (arith, width_some n s p i l e)) h

  cut_holds : Encloses (cut n w p i)
  unfolding cut
  cut_holds = capped_encloses (n.cap i) (specific n w p) specific_holds

  out_holds : Encloses (flow_out n w p i)
  unfolding flow_out
  out_holds = scaled_encloses (n.width i) 1000 (cut n w p i) (omega arith) cut_holds

module _ (n : Network) (w : ℕ → Worked) (s : Sound n) (src : Sources n w) where
  -- what comes to a point is worked before
  arriving_holds : (p : ℕ) → ((i : ℕ) → i < n.count → n.from i ≤ p → Encloses (flows n w p i)) → Encloses (arriving n (flows n w p) (suc p))
  unfolding arriving
  arriving_holds p h = total_encloses n.count (comes n (suc p)) (flows n w p) (λ i l t. h i l (before i l (eqb-true _ _ t)))
    where
      before : (i : ℕ) → i < n.count → n.to i ≡ suc p → n.from i ≤ p
      before i l e = ⊎_elim (λ (z : n.to i ≡ 0). omega arith) (λ (z : n.from i < n.to i). omega arith) (s.onward i l)

  hold : (p i : ℕ) → i < n.count → n.from i ≤ p → Encloses (flows n w p i)
  hold zero i l o = unfold flows in src.holds i l (omega arith)
  hold (suc p) i l o =
      let a = arriving_holds p (hold p) in
      ⊎_elim
      (λ (e : n.from i ≡ suc p). subst Encloses (sym (flows_leave n w p i e)) (out_holds n s (flows n w p) (suc p) i l e a))
      (λ (e : n.from i ≡ suc p → ⊥). subst Encloses (sym (flows_stay n w p i e)) (hold p i l (omega arith)))
      (cases_eq (n.from i) (suc p))

  at_points : (p i : ℕ) → i < n.count → n.from i ≡ suc p → Encloses (arriving n (flows n w p) (suc p)) × Encloses (specific n (flows n w p) (suc p)) × Encloses (cut n (flows n w p) (suc p) i)
  at_points p i l e =
      let a = arriving_holds p (hold p) in
      (a, specific_holds n s (flows n w p) (suc p) i l e a, cut_holds n s (flows n w p) (suc p) i l e a)

pub flows_hold : FlowsHold
flows_hold n w s src p i l o = hold n w s src p i l o

pub points_hold : PointsHold
points_hold n w s src p i l e = at_points n w s src p i l e
