-- The list of all routes has the used routes and no other, there is one, and none has more elements than the network.
use Rattle.std.proofs.Common.{◌≡◌, ℕ, zero, suc, ◌+◌, ◌<◌, ◌≤◌, Bool, true, false, cond, eqb, ltb, leb, ◌⊎◌, List, [], ◌∷◌, map, length, sym, refl, ap, subst, inl, inr, ⊎_elim, arith}
use Rattle.std.specs.List.{AllByRecursion}
use Rattle.std.proofs.lemmas.Bool.{cases_lt, cases_eq, and_parts, and_from, ltb-true, lt-ltb, le-leb, eqb-true, eqb-false, eq-eqb, ne_eqb}
use Rattle.exact.specs.Sums.{sum_below, count_where}
use Rattle.exact.proofs.Numbers.{at_leb}
use Rattle.exact.proofs.SumLaws.{sum_mono, where_le, where_term}
use Rattle.network.specs.declared.Element.{Element}
use Rattle.network.specs.Elements.{el}
use Rattle.network.specs.Ready.{Ready}
use Rattle.network.proofs.Readiness.{lawful_at}
use Rattle.sheet.specs.Lines.{WorkedLine, at}
use Rattle.ways.specs.Routes.{Crossed, Onward, Used}
use Rattle.ways.specs.Ends.{In, open_at, ways, routes}
use Rattle.ways.proofs.Members.{in_each, from_each, in_led, from_led}

-- ---- the ways by one element: none, where it is not open; itself, where it leads to the station; else it and a way on

abbrev by : Bool → Bool → ℕ → List (List ℕ) → List (List ℕ)
by o e i rest = elim o [ false ↦ [] | true ↦ elim e [ true ↦ (i ∷ []) ∷ [] | false ↦ map (λ w. i ∷ w) rest ] ]

in_last : (o e : Bool) (i : ℕ) (rest : List (List ℕ)) → o ≡ true → e ≡ true → In (i ∷ []) (by o e i rest)
in_last true true i rest p q = inl refl
in_last true false i rest p q = absurd (let z : ◌≡◌ {A = ℕ} 0 1 = cc in omega arith)
in_last false e i rest p q = absurd (let z : ◌≡◌ {A = ℕ} 0 1 = cc in omega arith)

in_more : (o e : Bool) (i : ℕ) (r : List ℕ) (rest : List (List ℕ)) → o ≡ true → e ≡ false → In r rest → In (i ∷ r) (by o e i rest)
in_more true true i r rest p q m = absurd (let z : ◌≡◌ {A = ℕ} 0 1 = cc in omega arith)
in_more true false i r rest p q m = in_led i r rest m
in_more false e i r rest p q m = absurd (let z : ◌≡◌ {A = ℕ} 0 1 = cc in omega arith)

from_by : (o e : Bool) (i : ℕ) (r : List ℕ) (rest : List (List ℕ)) → In r (by o e i rest)
    → (o ≡ true) × (((e ≡ true) × (r ≡ i ∷ [])) ⊎ ((e ≡ false) × ((s : List ℕ) × In s rest × (r ≡ i ∷ s))))
from_by true true i r rest (inl m) = (refl, inl (refl, m))
from_by true true i r rest (inr m) = absurd m
from_by true false i r rest m = (refl, inr (refl, from_led i r rest m))
from_by false e i r rest m = absurd m

-- ---- used routes and ways on

-- r leads on from p by at least one element
abbrev pub Goes : List Element → List WorkedLine → ℕ → List ℕ → Type 0
Goes es ls p [] = ⊥
Goes es ls p (i ∷ r) = Crossed es ls i × ((el es i).from ≡ p) × Onward es ls (el es i).to r

module _ (es : List Element) (ls : List WorkedLine) where
  pub used_from_goes : (r : List ℕ) → Goes es ls 0 r → Used es ls r
  used_from_goes [] g = absurd g
  used_from_goes (i ∷ r) g = g

  pub goes_from_used : (r : List ℕ) → Used es ls r → Goes es ls 0 r
  goes_from_used [] g = absurd g
  goes_from_used (i ∷ r) g = g

  pub onward_from_goes : (p : ℕ) (r : List ℕ) → 0 < p → Goes es ls p r → Onward es ls p r
  onward_from_goes p [] h g = absurd g
  onward_from_goes p (i ∷ r) h g = (h, g.0, g.1, g.2)

  goes_from_onward : (p : ℕ) (r : List ℕ) → 0 < p → Onward es ls p r → Goes es ls p r
  goes_from_onward p [] h g = absurd (omega arith)
  goes_from_onward p (i ∷ r) h g = (g.1, g.2, g.3)

  onward_ends : (p : ℕ) (r : List ℕ) → p ≡ 0 → Onward es ls p r → r ≡ []
  onward_ends p [] z w = refl
  onward_ends p (i ∷ r) z w = absurd (let h = w.0 in omega arith)

  -- someone passes every element of it
  onward_crossed : (p : ℕ) (r : List ℕ) → Onward es ls p r → AllByRecursion (Crossed es ls) r
  onward_crossed p [] w = tt
  onward_crossed p (i ∷ r) w = (w.1, onward_crossed (el es i).to r w.3)

  pub used_crossed : (r : List ℕ) → Used es ls r → AllByRecursion (Crossed es ls) r
  used_crossed [] u = absurd u
  used_crossed (i ∷ r) u = (u.0, onward_crossed (el es i).to r u.2)

  crossed_open : (p i : ℕ) → Crossed es ls i → (el es i).from ≡ p → open_at es ls p i ≡ true
  crossed_open p i cr e = and_from (eqb (el es i).from p) (ltb 0 (at ls i).persons) (eq-eqb (el es i).from p e) (lt-ltb 0 (at ls i).persons cr.1)

  -- what is listed leads on
  listed_goes : (k p : ℕ) (r : List ℕ) → In r (ways k es ls p) → Goes es ls p r
  unfolding ways
  listed_goes zero p r m = absurd m
  listed_goes (suc k) p r m =
      let a = from_each r (λ i. by (open_at es ls p i) (eqb (el es i).to 0) i (ways k es ls (el es i).to)) (length es) 0 m in
      let i = a.0 in
      let b = from_by (open_at es ls p i) (eqb (el es i).to 0) i r (ways k es ls (el es i).to) a.2 in
      let t = and_parts (eqb (el es i).from p) (ltb 0 (at ls i).persons) b.0 in
      let cr : Crossed es ls i = ((let l = a.1 in omega arith), ltb-true 0 (at ls i).persons t.1) in
      let e = eqb-true (el es i).from p t.0 in
      ⊎_elim
      (λ x. subst (Goes es ls p) (sym x.1) (cr, e, eqb-true (el es i).to 0 x.0))
      (λ x.
      let s = x.1 in
      let pos : 0 < (el es i).to = ⊎_elim (λ lt. lt) (λ le. absurd (eqb-false (el es i).to 0 x.0 (omega arith))) (cases_lt 0 (el es i).to) in
      subst (Goes es ls p) (sym s.2) (cr, e, onward_from_goes (el es i).to s.0 pos (listed_goes k (el es i).to s.0 s.1)))
      b.1

  pub listed_used : (r : List ℕ) → In r (routes es ls) → Used es ls r
  unfolding routes
  listed_used r m = used_from_goes r (listed_goes 65 0 r m)

-- a sum that grows somewhere
sum_grows : (n : ℕ) (f g : ℕ → ℕ) → ((i : ℕ) → i < n → f i ≤ g i) → (j : ℕ) → j < n → f j < g j → sum_below n f < sum_below n g
unfolding sum_below
sum_grows zero f g h j l d = absurd (omega arith)
sum_grows (suc n) f g h j l d =
    elim (cases_eq j n) [
      | inl e ↦ omega (arith, sum_mono n f g (λ i m. h i (omega arith)), ap f e, ap g e)
      | inr ne ↦ omega (arith, sum_grows n f g (λ i m. h i (omega arith)) j (omega arith) d, h n (omega arith))
    ]

-- what starts at the point q or later starts at an earlier point or later
later : (p q x : ℕ) → p ≤ q → cond (leb q x) 1 0 ≤ cond (leb p x) 1 0
later p q x l =
    at_leb q x 1 0 (λ (k : ℕ). k ≤ cond (leb p x) 1 0)
    (λ h. at_leb p x 1 0 (λ (k : ℕ). 1 ≤ k) (λ o. omega arith) (λ o. absurd (omega arith)))
    (λ h. omega arith)

later_one : (p q x : ℕ) → x ≡ p → p < q → cond (leb q x) 1 0 < cond (leb p x) 1 0
later_one p q x e l =
    at_leb q x 1 0 (λ (k : ℕ). k < cond (leb p x) 1 0)
    (λ h. absurd (omega arith))
    (λ h. at_leb p x 1 0 (λ (k : ℕ). 0 < k) (λ o. omega arith) (λ o. absurd (omega arith)))

module _ (es : List Element) (ls : List WorkedLine) (rd : Ready es) where
  -- an element that does not end at the station ends at a higher point
  pub rises : (i : ℕ) → i < length es → 0 < (el es i).to → (el es i).from < (el es i).to
  rises i l pos =
      ⊎_elim
      (λ (z : (el es i).from ≡ 0). omega arith)
      (λ y. ⊎_elim (λ (z : (el es i).to ≡ 0). absurd (omega arith)) (λ (z : (el es i).from < (el es i).to). z) y)
      (lawful_at rd i l).rises

  pub starts : (i : ℕ) → i < length es → (el es i).from ≤ 64
  starts i l = (lawful_at rd i l).starts

  pub ends : (i : ℕ) → i < length es → (el es i).to ≤ 64
  ends i l = (lawful_at rd i l).ends

  goes_listed : (k p : ℕ) (r : List ℕ) → 65 ≤ k + p → Goes es ls p r → In r (ways k es ls p)
  unfolding ways
  goes_listed k p [] l g = absurd g
  goes_listed zero p (i ∷ r) l g = absurd (let s = starts i g.0.0 in let e = g.1 in omega arith)
  goes_listed (suc k) p (i ∷ r) l g =
      let f : ℕ → List (List ℕ) = λ j. by (open_at es ls p j) (eqb (el es j).to 0) j (ways k es ls (el es j).to) in
      let c = g.0.0 in
      let e = g.1 in
      let o = crossed_open es ls p i g.0 g.1 in
      in_each (i ∷ r) f (length es) 0 i (omega arith) (omega arith)
      (⊎_elim
      (λ (pos : 0 < (el es i).to).
      let up = rises i c pos in
      in_more (open_at es ls p i) (eqb (el es i).to 0) i r (ways k es ls (el es i).to) o (ne_eqb (el es i).to 0 (λ z. omega arith))
      (goes_listed k (el es i).to r (omega arith) (goes_from_onward es ls (el es i).to r pos g.2)))
      (λ (le : (el es i).to ≤ 0).
      let z : (el es i).to ≡ 0 = omega arith in
      let d : r ≡ [] = onward_ends es ls (el es i).to r z g.2 in
      subst (λ (s : List ℕ). In (i ∷ s) (f i)) (sym d) (in_last (open_at es ls p i) (eqb (el es i).to 0) i (ways k es ls (el es i).to) o (eq-eqb (el es i).to 0 z)))
      (cases_lt 0 (el es i).to))

  pub used_listed : (r : List ℕ) → Used es ls r → In r (routes es ls)
  unfolding routes
  used_listed r u = goes_listed 65 0 r (omega arith) (goes_from_used es ls r u)

  -- its points rise, so it has at most one element for each that starts at its first point or later
  abbrev from_on : ℕ → ℕ → Bool
  from_on p i = leb p (el es i).from

  goes_few : (p : ℕ) (r : List ℕ) → Goes es ls p r → length r ≤ count_where (length es) (from_on p)
  goes_few p [] g = absurd g
  goes_few p (i ∷ r) g =
      let c = g.0.0 in
      let e = g.1 in
      ⊎_elim
      (λ (q : 0 < (el es i).to).
      let up = rises i c q in
      let ih = goes_few (el es i).to r (goes_from_onward es ls (el es i).to r q g.2) in
      let d = sum_grows (length es) (λ k. cond (from_on (el es i).to k) 1 0) (λ k. cond (from_on p k) 1 0)
      (λ k l. later p (el es i).to (el es k).from (omega arith)) i c (later_one p (el es i).to (el es i).from e (omega arith)) in
      omega arith)
      (λ (q : (el es i).to ≤ 0).
      let n : length r ≡ 0 = ap (λ (s : List ℕ). length s) (onward_ends es ls (el es i).to r (omega arith) g.2) in
      let t = where_term (from_on p) (λ _. 1) (length es) i c (le-leb p (el es i).from (omega arith)) in
      omega arith)
      (cases_lt 0 (el es i).to)

  pub used_few : (r : List ℕ) → Used es ls r → length r ≤ length es
  used_few r u =
      let a = goes_few 0 r (goes_from_used es ls r u) in
      let b = where_le (from_on 0) (λ _. 1) 1 (length es) (length es) (λ k. omega arith) (omega arith) in
      omega arith
