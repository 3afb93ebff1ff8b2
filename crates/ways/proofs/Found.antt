-- From the longest walks to the greatest time of a used route and the element that governs it.
use Rattle.std.proofs.Common.{◌≡◌, ℕ, suc, ◌+◌, ◌-◌, ◌<◌, ◌≤◌, ltb, List, [], ◌∷◌, length, get_or, refl, ap, subst, inl, ⊎_elim, arith}
use Rattle.std.proofs.lemmas.Bool.{cases_lt, lt-ltb, le-ltb, cond-true, cond-false}
use Rattle.network.specs.declared.Element.{Element}
use Rattle.network.specs.Elements.{el}
use Rattle.sheet.specs.Lines.{WorkedLine, at}
use Rattle.ways.specs.declared.End.{End}
use Rattle.ways.specs.declared.End.TheVariants.{Lower, Upper}
use Rattle.ways.specs.declared.Way.TheVariants.{Back, Onward}
use Rattle.ways.specs.Routes.{Crossed, Used, greatest, summed, duration_of, travel_of, time}
use Rattle.ways.specs.Ends.{by, In, time_with, IsEnd, Through, Governs}
use Rattle.ways.specs.Walks.{Walkable, Longest, Reaches, ranks, FirstMost}
use Rattle.ways.proofs.Listed.{goes_from_used}
use Rattle.ways.proofs.Longest.{longest_walk, some_walk, steps}
use Rattle.ways.proofs.Joined.{back, summed_back, in_back, greatest_at, greatest_above, worked_net, in_crossed, route_through, cut_at}

-- the time of a route by one end
pub time_by : (e : End) (es : List Element) (ls : List WorkedLine) (r : List ℕ)
    → by e (time es ls r) ≡ greatest (λ i. by e (duration_of ls i)) r + summed (λ i. by e (travel_of es ls i)) r
unfolding time
time_by Lower es ls r = refl
time_by Upper es ls r = refl

module _ (e : End) (es : List Element) (ls : List WorkedLine) (wk : Walkable (worked_net e es ls)) where
  abbrev durations : ℕ → ℕ
  durations i = by e (duration_of ls i)

  abbrev travels : ℕ → ℕ
  travels i = by e (travel_of es ls i)

  -- every element that someone passes lies on a used route
  pub on_a_route : (i : ℕ) → Crossed es ls i → (r : List ℕ) × Used es ls r × In i r
  on_a_route i c =
      let n = worked_net e es ls in
      let a = some_walk Back n wk (suc (steps Back (el es i).from)) (el es i).from (omega arith) (wk.came i c) in
      let b = some_walk Onward n wk (suc (steps Onward (el es i).to)) (el es i).to (omega arith) (wk.goes i c) in
      (back a.0 (i ∷ b.0), route_through e es ls i c a.0 b.0 a.1 b.1, in_back i a.0 (i ∷ b.0) (inl refl))

  module _ (h t : List ℕ) (hs : Reaches Back (worked_net e es ls) h) (ts : Reaches Onward (worked_net e es ls) t) where
    -- the flow duration of element i with the longest walks back and onward from it
    abbrev weighed : ℕ → ℕ
    weighed i = durations i + get_or h (el es i).from 0 + travels i + get_or t (el es i).to 0

    come : (i : ℕ) → Crossed es ls i → Longest Back (worked_net e es ls) (el es i).from (get_or h (el es i).from 0)
    come i c = hs (el es i).from (wk.starts i c.0)

    go : (i : ℕ) → Crossed es ls i → Longest Onward (worked_net e es ls) (el es i).to (get_or t (el es i).to 0)
    go i c = ts (el es i).to (wk.ends i c.0)

    through_bounds : (i : ℕ) → Crossed es ls i → (r : List ℕ) → Used es ls r → In i r → time_with e es ls i r ≤ weighed i
    through_bounds i c r u o =
        let k = cut_at e es ls i r u o in
        let s = summed_back travels k.before (i ∷ k.after) in
        let q = ap (summed travels) k.whole in
        let a = (come i c).bounds k.before k.comes in
        let b = (go i c).bounds k.after k.goes in
        omega arith

    through_weighed : (i : ℕ) → Crossed es ls i → Through e es ls i (weighed i)
    through_weighed i c =
        let a = longest_walk Back (worked_net e es ls) (el es i).from (get_or h (el es i).from 0) (come i c) (wk.came i c) in
        let b = longest_walk Onward (worked_net e es ls) (el es i).to (get_or t (el es i).to 0) (go i c) (wk.goes i c) in
        record {
          bounds = through_bounds i c;
          reached = (
            back a.0 (i ∷ b.0),
            route_through e es ls i c a.0 b.0 a.1 b.1,
            in_back i a.0 (i ∷ b.0) (inl refl),
            (let s = summed_back travels a.0 (i ∷ b.0) in let x = a.2 in let y = b.2 in omega arith),
          );
        }

    rank_on : (i : ℕ) → 0 < (at ls i).persons → ranks (worked_net e es ls) h t i ≡ 1 + weighed i
    rank_on i c =
        let q = cond-true (ltb 0 (at ls i).persons) (1 + durations i + get_or h (el es i).from 0 + travels i + get_or t (el es i).to 0) 0 (lt-ltb 0 (at ls i).persons c) in
        omega arith

    rank_off : (i : ℕ) → (at ls i).persons ≤ 0 → ranks (worked_net e es ls) h t i ≡ 0
    rank_off i c = cond-false (ltb 0 (at ls i).persons) _ _ (le-ltb 0 (at ls i).persons c)

    module _ (g x : ℕ) (f : FirstMost (ranks (worked_net e es ls) h t) (length es) g x) where
      pub some_rank : 1 ≤ x
      some_rank = let s = wk.some in let q = rank_on s.0 s.1.1 in let l = f.none_above s.0 s.1.0 in omega arith

      here : Crossed es ls g
      here = (f.within, ⊎_elim (λ lt. lt) (λ le. absurd (let z = rank_off g le in let q = f.here in let s = some_rank in omega arith)) (cases_lt 0 (at ls g).persons))

      most_is : weighed g ≡ x - 1
      most_is = let a = rank_on g here.1 in let q = f.here in omega arith

      above : (i : ℕ) → Crossed es ls i → weighed i ≤ weighed g
      above i c = let a = f.none_above i c.0 in let q = rank_on i c.1 in let z = most_is in omega arith

      earlier : (i : ℕ) → i < g → Crossed es ls i → weighed i < weighed g
      earlier i l c = let a = f.first i l in let q = rank_on i c.1 in let z = most_is in omega arith

      -- no route takes longer, since its greatest flow duration is that of an element on it
      time_bounds : (r : List ℕ) → Used es ls r → by e (time es ls r) ≤ weighed g
      time_bounds [] u = absurd u
      time_bounds (i ∷ r) u =
          let s = time_by e es ls (i ∷ r) in
          let j = greatest_at durations i r in
          let c : Crossed es ls j.0 = in_crossed e es ls 0 j.0 (i ∷ r) j.1 u in
          let b = through_bounds j.0 c (i ∷ r) u j.1 in
          let a = above j.0 c in
          let q = j.2 in
          omega arith

      pub end_found : IsEnd e es ls (x - 1)
      end_found =
          subst (IsEnd e es ls) most_is
          (let t = (through_weighed g here).reached in
          record {
            bounds = time_bounds;
            reached = (
              t.0,
              t.1,
              (let s = time_by e es ls t.0 in let a = greatest_above durations g t.0 t.2 in let b = time_bounds t.0 t.1 in let q = t.3 in omega arith),
            );
          })

      under : (i y : ℕ) → Through e es ls i y → Crossed es ls i × (y ≤ weighed i)
      under i y t =
          let r = t.reached in
          let c : Crossed es ls i = in_crossed e es ls 0 i r.0 r.2 (goes_from_used es ls r.0 r.1) in
          (c, (let b = through_bounds i c r.0 r.1 r.2 in let q = r.3 in omega arith))

      pub governs_found : Governs e es ls g
      governs_found = record {
        most = weighed g;
        here = through_weighed g here;
        none_above = λ i y t. let u = under i y t in let a = above i u.0 in let v = u.1 in omega arith;
        first = λ i y l t. let u = under i y t in let a = earlier i l u.0 in let v = u.1 in omega arith;
      }
