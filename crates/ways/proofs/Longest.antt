-- The longest walk from a point, from the longest walks of the points one element further.
use Rattle.std.proofs.Common.{◌≡◌, ℕ, zero, suc, ◌+◌, ◌-◌, ◌*◌, ◌<◌, ◌≤◌, max, Bool, true, false, ◌&&◌, eqb, ltb, ◌⊎◌, List, [], ◌∷◌, get_or, sym, refl, ap, subst, inl, inr, ⊎_elim, add-one, arith}
use Rattle.std.proofs.lemmas.Bool.{cases_Bool, cases_lt, and_parts, and_from, ltb-true, lt-ltb, eqb-true, eq-eqb, cond-true, cond-false, both_ways}
use Rattle.ways.specs.declared.Way.{Way}
use Rattle.ways.specs.declared.Way.TheVariants.{Back, Onward}
use Rattle.ways.specs.Routes.{summed}
use Rattle.ways.specs.Walks.{Net, Passed, near, far, Walks, Longest, gains, most_below, longest_from, Walkable}

-- ---- the greatest below an index

pub most_more : (g : ℕ → ℕ) (k : ℕ) → most_below g (k + 1) ≡ max (most_below g k) (g k)
most_more g k = ap (most_below g) (add-one k)

most_above : (g : ℕ → ℕ) (k i : ℕ) → i < k → g i ≤ most_below g k
most_above g zero i h = absurd (omega arith)
most_above g (suc k) i h =
    ⊎_elim
    (λ (lt : i < k). let l = most_above g k i lt in omega arith)
    (λ (le : k ≤ i). let e : i ≡ k = omega arith in let q = ap g e in omega arith)
    (cases_lt i k)

-- where g is 0 unless a test passes: it is met where the test passes, or 0 since it passes nowhere
abbrev Met : (ℕ → ℕ) → (ℕ → Bool) → ℕ → Type 0
Met g b k = ((i : ℕ) × (i < k) × (b i ≡ true) × (g i ≡ most_below g k)) ⊎ ((most_below g k ≡ 0) × ((i : ℕ) → i < k → b i ≡ false))

most_met : (g : ℕ → ℕ) (b : ℕ → Bool) → ((i : ℕ) → b i ≡ false → g i ≡ 0) → (k : ℕ) → Met g b k
most_met g b off zero = inr (refl, λ i h. absurd (omega arith))
most_met g b off (suc k) = go (most_met g b off k) (cases_Bool (b k)) (cases_lt (g k) (most_below g k))
  where
    go : Met g b k → (b k ≡ true) ⊎ (b k ≡ false) → (g k < most_below g k) ⊎ (most_below g k ≤ g k) → Met g b (suc k)
    go (inl (i, h, t, e)) (inl y) (inl lt) = inl (i, omega arith, t, omega arith)
    go (inl (i, h, t, e)) (inl y) (inr ge) = inl (k, omega arith, y, omega arith)
    go (inl (i, h, t, e)) (inr x) c = let z = off k x in inl (i, omega arith, t, omega arith)
    go (inr (z, none)) (inl y) c = inl (k, omega arith, y, omega arith)
    go (inr (z, none)) (inr x) c =
        let zk = off k x in
        inr (omega arith, λ i h. ⊎_elim (λ lt. none i lt) (λ le. let e : i ≡ k = omega arith in subst (λ (j : ℕ). b j ≡ false) (sym e) x) (cases_lt i k))

-- ---- how many elements a walk from a point may have: points fall on the way back, and rise on the way onward

abbrev pub steps : Way → ℕ → ℕ
steps Back p = p
steps Onward zero = 0
steps Onward (suc p) = 64 - p

pub onward_steps : (p : ℕ) → 0 < p → steps Onward p ≡ 65 - p
onward_steps zero h = absurd (omega arith)
onward_steps (suc p) h = omega arith

pub steps_few : (w : Way) (p : ℕ) → p ≤ 64 → steps w p ≤ 64
steps_few Back p h = h
steps_few Onward zero h = omega arith
steps_few Onward (suc p) h = omega arith

pub steps_none : (w : Way) (p : ℕ) → p ≤ 64 → steps w p ≡ 0 → p ≡ 0
steps_none Back p h e = e
steps_none Onward zero h e = refl
steps_none Onward (suc p) h e = absurd (omega arith)

pub steps_same : (w : Way) (p q : ℕ) → p ≤ 64 → q ≤ 64 → steps w p ≡ steps w q → p ≡ q
steps_same Back p q h k e = e
steps_same Onward zero zero h k e = refl
steps_same Onward zero (suc q) h k e = absurd (omega arith)
steps_same Onward (suc p) zero h k e = absurd (omega arith)
steps_same Onward (suc p) (suc q) h k e = omega arith

module _ (w : Way) (n : Net) where
  abbrev Here : ℕ → ℕ → Type 0
  Here p x = (r : List ℕ) × Walks w n p r × (summed n.travel r ≡ x)

  abbrev Nobody : ℕ → Type 0
  Nobody p = (i : ℕ) → Passed n i → near w n i ≡ p → ⊥

  -- from 0 the empty walk is the longest
  pub longest_zero : Longest w n 0 0
  longest_zero = record { bounds = top; reached = inl ([], refl, refl) }
    where
      top : (r : List ℕ) → Walks w n 0 r → summed n.travel r ≤ 0
      top [] h = omega arith
      top (i ∷ r) h = absurd (let z = h.0 in omega arith)

  -- where someone can walk from p, or p is 0, there is a longest walk
  pub longest_walk : (p x : ℕ) → Longest w n p x → (0 < p → (i : ℕ) × Passed n i × (near w n i ≡ p)) → Here p x
  longest_walk p x l some = go l.reached
    where
      go : Here p x ⊎ ((x ≡ 0) × Nobody p) → Here p x
      go (inl h) = h
      go (inr (z, none)) =
          ⊎_elim
          (λ (lt : 0 < p). let k = some lt in absurd (none k.0 k.1 k.2))
          (λ (le : p ≤ 0). ([], omega arith, omega arith))
          (cases_lt 0 p)

  module _ (wk : Walkable n) where
    -- whoever leaves an element can walk on
    pub further : (i : ℕ) → Passed n i → 0 < far w n i → (j : ℕ) × Passed n j × (near w n j ≡ far w n i)
    further = by_way w
      where
        by_way : (v : Way) → (i : ℕ) → Passed n i → 0 < far v n i → (j : ℕ) × Passed n j × (near v n j ≡ far v n i)
        by_way Back = wk.came
        by_way Onward = wk.goes

    pub far_low : (i : ℕ) → i < n.size → far w n i ≤ 64
    far_low i l = by_way w
      where
        by_way : (v : Way) → far v n i ≤ 64
        by_way Back = wk.starts i l
        by_way Onward = wk.ends i l

    -- and has fewer steps to go
    pub nearer : (i : ℕ) → i < n.size → 0 < near w n i → steps w (far w n i) < steps w (near w n i)
    nearer i l pos = by_way w pos
      where
        by_way : (v : Way) → 0 < near v n i → steps v (far v n i) < steps v (near v n i)
        by_way Back h = wk.rises i l h
        by_way Onward h =
            let a = onward_steps (n.from i) h in
            let s = wk.starts i l in
            ⊎_elim
            (λ (lt : 0 < n.to i). let b = onward_steps (n.to i) lt in let r = wk.rises i l lt in let t = wk.ends i l in omega arith)
            (λ (le : n.to i ≤ 0). let z : n.to i ≡ 0 = omega arith in let b : steps Onward (n.to i) ≡ 0 = ap (steps Onward) z in omega arith)
            (cases_lt 0 (n.to i))

    closer : (p i : ℕ) → 0 < p → i < n.size → near w n i ≡ p → steps w (far w n i) < steps w p
    closer p i pos l e = let d = nearer i l (omega arith) in let q = ap (steps w) e in omega arith

    -- there is a walk from wherever someone can walk
    pub some_walk : (k p : ℕ) → steps w p < k → (0 < p → (i : ℕ) × Passed n i × (near w n i ≡ p)) → (r : List ℕ) × Walks w n p r
    some_walk zero p h some = absurd (omega arith)
    some_walk (suc k) p h some =
        ⊎_elim
        (λ (lt : 0 < p).
        let j = some lt in
        let d = closer p j.0 lt j.1.0 j.2 in
        let r = some_walk k (far w n j.0) (omega arith) (further j.0 j.1) in
        (j.0 ∷ r.0, (lt, j.1, j.2, r.1)))
        (λ (le : p ≤ 0). ([], omega arith))
        (cases_lt 0 p)

    -- no walk takes longer than its steps allow
    walk_low : (p : ℕ) (r : List ℕ) → Walks w n p r → summed n.travel r ≤ steps w p * 100000000000000000
    walk_low p [] h = omega arith
    walk_low p (i ∷ r) h =
        let t = wk.travels i h.1.0 in
        let d = closer p i h.0 h.1.0 h.2 in
        let ih = walk_low (far w n i) r h.3 in
        omega arith

    pub longest_low : (p x : ℕ) → p ≤ 64 → Longest w n p x → x ≤ 6400000000000000000
    longest_low p x le l = go l.reached
      where
        go : Here p x ⊎ ((x ≡ 0) × Nobody p) → x ≤ 6400000000000000000
        go (inl (r, h, e)) = let b = walk_low p r h in let s = steps_few w p le in omega arith
        go (inr (z, none)) = omega arith

    -- ---- the step

    module _ (reach : List ℕ) (p : ℕ) (pos : 0 < p) (known : (i : ℕ) → Passed n i → near w n i ≡ p → Longest w n (far w n i) (get_or reach (far w n i) 0)) where
      abbrev entered : ℕ → Bool
      entered i = ltb 0 (n.persons i) && eqb (near w n i) p

      abbrev gained : ℕ → ℕ
      gained = gains w n reach p

      gained_by : (i : ℕ) → Passed n i → near w n i ≡ p → gained i ≡ get_or reach (far w n i) 0 + n.travel i
      gained_by i c e = cond-true (entered i) _ _ (and_from _ _ (lt-ltb 0 _ c.1) (eq-eqb _ _ e))

      step_bounds : (r : List ℕ) → Walks w n p r → summed n.travel r ≤ longest_from w n reach p
      step_bounds [] h = absurd (omega arith)
      step_bounds (i ∷ r) h =
          let up = (known i h.1 h.2).bounds r h.3 in
          let on = gained_by i h.1 h.2 in
          let ab = most_above gained n.size i h.1.0 in
          omega arith

      step_met : Met gained entered n.size → Here p (longest_from w n reach p) ⊎ ((longest_from w n reach p ≡ 0) × Nobody p)
      step_met (inl (i, h, t, e)) =
          let b = and_parts _ _ t in
          let c : Passed n i = (h, ltb-true 0 (n.persons i) b.0) in
          let at : near w n i ≡ p = eqb-true (near w n i) p b.1 in
          let r = longest_walk (far w n i) (get_or reach (far w n i) 0) (known i c at) (further i c) in
          inl (i ∷ r.0, (pos, c, at, r.1), (let on = gained_by i c at in let s = r.2 in omega arith))
      step_met (inr (z, none)) = inr (z, λ j c at. both_ways (entered j) (none j c.0) (and_from _ _ (lt-ltb 0 _ c.1) (eq-eqb _ _ at)))

      pub longest_step : Longest w n p (longest_from w n reach p)
      longest_step = record { bounds = step_bounds; reached = step_met (most_met gained entered (λ i e. cond-false (entered i) _ _ e) n.size) }
