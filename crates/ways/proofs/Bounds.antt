-- What both ends say of exact times, and how near they are.
use Rattle.std.proofs.Common.{ℕ, suc, ◌+◌, ◌*◌, ◌<◌, ◌≤◌, List, [], ◌∷◌, length, sym, refl, subst, inl, inr, ⊎_elim, mul-le-mul_right, mul-le-mul_left, arith}
use Rattle.std.proofs.ByRecursion.{All-weaker}
use Rattle.std.proofs.lemmas.Bool.{cases_lt}
use Rattle.exact.specs.Fractions.{Fraction, Proper, ◌≤ᶠ◌, whole}
use Rattle.exact.specs.Worked.{Encloses}
use Rattle.exact.proofs.FractionLaws.{le_trans}
use Rattle.network.specs.declared.Element.{Element}
use Rattle.network.specs.Ready.{Ready}
use Rattle.sheet.specs.Lines.{WorkedLine}
use Rattle.ways.specs.declared.End.TheVariants.{Lower, Upper}
use Rattle.ways.specs.Routes.{Crossed, Used, duration_of, travel_of, time, Slowest}
use Rattle.ways.specs.Ends.{In, routes, lower_end, upper_end}
use Rattle.ways.specs.Facts.{Near, Facts}
use Rattle.ways.proofs.Times.{time_of_encloses, time_of_near}
use Rattle.ways.proofs.Listed.{used_crossed, used_listed, listed_used, used_few}
use Rattle.ways.proofs.Agreed.{end_bounds, some_route, is_end}

whole_le : (m n : ℕ) → m ≤ n → whole m ≤ᶠ whole n
whole_le m n h = omega arith

-- a greatest fraction of a list of proper ones
latest : (f : List ℕ → Fraction) (s : List ℕ) (rs : List (List ℕ)) → ((r : List ℕ) → In r (s ∷ rs) → Proper (f r))
    → (m : List ℕ) × In m (s ∷ rs) × ((r : List ℕ) → In r (s ∷ rs) → f r ≤ᶠ f m)
latest f s [] p = (s, inl refl, λ r m. elim m [ inl e ↦ subst (λ (q : List ℕ). f q ≤ᶠ f s) (sym e) (omega arith) | inr n ↦ absurd n ])
latest f s (t ∷ rs) p =
    let q = latest f t rs (λ r m. p r (inr m)) in
    ⊎_elim
    (λ (l : (f s).num * (f q.0).den < (f q.0).num * (f s).den). (q.0, inr q.1, λ r m. elim m [ inl e ↦ subst (λ (k : List ℕ). f k ≤ᶠ f q.0) (sym e) (omega arith) | inr n ↦ q.2 r n ]))
    (λ (l : (f q.0).num * (f s).den ≤ (f s).num * (f q.0).den). (s, inl refl, λ r m. elim m [ inl e ↦ subst (λ (k : List ℕ). f k ≤ᶠ f s) (sym e) (omega arith) | inr n ↦ le_trans (f r) (f q.0) (f s) (p q.0 (inr q.1)) (q.2 r n) l ]))
    (cases_lt ((f s).num * (f q.0).den) ((f q.0).num * (f s).den))

latest_of : (f : List ℕ → Fraction) (s : List ℕ) (rs : List (List ℕ)) → In s rs → ((r : List ℕ) → In r rs → Proper (f r))
    → (m : List ℕ) × In m rs × ((r : List ℕ) → In r rs → f r ≤ᶠ f m)
latest_of f s [] i p = absurd i
latest_of f s (t ∷ rs) i p = latest f t rs p

-- over plain numbers: from a route to the ends, and from the number of elements to a thousandth
near_end : (e k u l m : ℕ) → k ≤ e + 1 → l ≤ m → 10000000 * u ≤ 10000000 * l + 31 * e * l + 30000000 * k → 10000000 * u ≤ 10000000 * m + 31 * e * m + 30000000 * (e + 1)
near_end e k u l m c o h = omega (arith, mul-le-mul_left (31 * e) o)

close : (e l u : ℕ) → e ≤ 128 → 10000000 * u ≤ 10000000 * l + 31 * e * l + 30000000 * (e + 1) → 1000 * u ≤ 1001 * l + 1000000
close e l u f h = omega (arith, mul-le-mul_right l f)

module _ (es : List Element) (ls : List WorkedLine) (rd : Ready es) (fs : Facts es ls) where
  pub time_encloses : (r : List ℕ) → Used es ls r → Encloses (time es ls r)
  unfolding time
  time_encloses r u =
      let c = used_crossed es ls r u in
      time_of_encloses (duration_of ls) (travel_of es ls) r
      (All-weaker (Crossed es ls) (λ i. Encloses (duration_of ls i)) (λ i k. (fs.durations i k).0) r c)
      (All-weaker (Crossed es ls) (λ i. Encloses (travel_of es ls i)) (λ i k. (fs.travels i k).0) r c)

  time_near : (r : List ℕ) → Used es ls r
      → 10000000 * (time es ls r).upper ≤ 10000000 * (time es ls r).lower + 31 * length es * (time es ls r).lower + 30000000 * suc (length r)
  unfolding time
  time_near r u =
      let c = used_crossed es ls r u in
      time_of_near (duration_of ls) (travel_of es ls) (length es) r
      (All-weaker (Crossed es ls) (λ i. Near (length es) (duration_of ls i)) (λ i k. (fs.durations i k).1) r c)
      (All-weaker (Crossed es ls) (λ i. Near (length es) (travel_of es ls i)) (λ i k. (fs.travels i k).1) r c)

  pub none_above : (r : List ℕ) → Used es ls r → (time es ls r).exact ≤ᶠ whole (upper_end es ls)
  none_above r u =
      le_trans (time es ls r).exact (whole (time es ls r).upper) (whole (upper_end es ls)) (omega arith)
      (time_encloses r u).high (whole_le (time es ls r).upper (upper_end es ls) (end_bounds Upper es ls rd r u))

  pub one_reaches : (r : List ℕ) × Used es ls r × (whole (lower_end es ls) ≤ᶠ (time es ls r).exact)
  one_reaches =
      let q = (is_end Lower es ls rd fs).reached in
      (q.0, q.1, subst (λ (n : ℕ). whole n ≤ᶠ (time es ls q.0).exact) q.2 (time_encloses q.0 q.1).low)

  pub slowest_exists : (t : Fraction) × Slowest es ls t
  slowest_exists =
      let s = some_route Upper es ls rd fs in
      let m = latest_of (λ r. (time es ls r).exact) s.0 (routes es ls) (used_listed es ls rd s.0 s.1) (λ r i. (time_encloses r (listed_used es ls r i)).proper) in (
        (time es ls m.0).exact,
        record {
          bounds = λ r u. m.2 r (used_listed es ls rd r u);
          reached = (m.0, listed_used es ls m.0 m.1, refl);
        },
      )

  pub slowest_between : (t : Fraction) → Slowest es ls t → Proper t × (whole (lower_end es ls) ≤ᶠ t) × (t ≤ᶠ whole (upper_end es ls))
  slowest_between t sl =
      let q = sl.reached in
      let o = one_reaches in (
        subst (λ (x : Fraction). Proper x) q.2 (time_encloses q.0 q.1).proper,
        le_trans (whole (lower_end es ls)) (time es ls o.0).exact t (time_encloses o.0 o.1).proper o.2 (sl.bounds o.0 o.1),
        subst (λ (x : Fraction). x ≤ᶠ whole (upper_end es ls)) q.2 (none_above q.0 q.1),
      )

  pub ends_near : 10000000 * upper_end es ls ≤ 10000000 * lower_end es ls + 31 * length es * lower_end es ls + 30000000 * (length es + 1)
  ends_near =
      let q = (is_end Upper es ls rd fs).reached in
      let k = used_few es ls rd q.0 q.1 in
      let e = q.2 in
      let n = time_near q.0 q.1 in
      near_end (length es) (suc (length q.0)) (upper_end es ls) (time es ls q.0).lower (lower_end es ls) (omega arith)
      (end_bounds Lower es ls rd q.0 q.1) (omega arith)

  pub ends_close : 1000 * upper_end es ls ≤ 1001 * lower_end es ls + 1000000
  ends_close = close (length es) (lower_end es ls) (upper_end es ls) rd.few ends_near
