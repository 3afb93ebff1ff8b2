-- What a network keeps in its type is known as a fact that has no proof to show; here the proofs come back.
use Rattle.std.proofs.Common.{◌≡◌, ℕ, zero, suc, ◌<◌, ◌&&◌, ◌||◌, Bool, true, false, refl, ltb, eqb}
use mathlib.Core.Logic.{∥∥₁_elim, ∥∥₁_map}
use mathlib.Core.Bool.{Bool-set}
use native.Mathlib.Bridge.{le_prop}
use Rattle.std.specs.Bool.{Decides}
use Rattle.std.proofs.lemmas.Bool.Decides.{Decides-and, Decides-below_or, Decides-eqb, Decides-ltb}
use Rattle.ways.specs.Walks.{Net, Passed, Walkable}

-- what a test decides
found : {P : Type 0} (b : Bool) → Decides b P → ∥ P ∥₁ → P
found b d t = d.0 (∥∥₁_elim t (Bool-set b true) d.1)

abbrev any_below : (ℕ → Bool) → ℕ → Bool
any_below b zero = false
any_below b (suc k) = b k || any_below b k

-- an element that someone passes and that leads from or to a point
someone : (n : Net) (at : ℕ → ℕ) (p : ℕ) → ∥ ((j : ℕ) × Passed n j × (at j ≡ p)) ∥₁ → (j : ℕ) × Passed n j × (at j ≡ p)
someone n at p t =
    let b : ℕ → Bool = λ j. ltb 0 (n.persons j) && eqb (at j) p in
    let each : (j : ℕ) → Decides (b j) ((0 < n.persons j) × (at j ≡ p)) = λ j. Decides-and _ _ (Decides-ltb 0 (n.persons j)) (Decides-eqb (at j) p) in
    let s = found _ (Decides-below_or b _ (any_below b) each refl (λ _. refl) n.size) (∥∥₁_map t (λ k. (k.0, k.1.0, (k.1.1, k.2)))) in
    (s.0, (s.1, s.2.0), s.2.1)

pub walkable_stands : {n : Net} → ∥ Walkable n ∥₁ → Walkable n
walkable_stands {n} t = record {
  size = ∥∥₁_elim t le_prop (λ w. w.size);
  starts = λ i l. ∥∥₁_elim t le_prop (λ w. w.starts i l);
  ends = λ i l. ∥∥₁_elim t le_prop (λ w. w.ends i l);
  rises = λ i l p. ∥∥₁_elim t le_prop (λ w. w.rises i l p);
  some = let s = someone n (λ j. 0) 0 (∥∥₁_map t (λ w. (w.some.0, w.some.1, refl))) in (s.0, s.1);
  goes = λ i p l. someone n n.from (n.to i) (∥∥₁_map t (λ w. w.goes i p l));
  came = λ i p l. someone n n.to (n.from i) (∥∥₁_map t (λ w. w.came i p l));
  durations = λ i l. ∥∥₁_elim t le_prop (λ w. w.durations i l);
  travels = λ i l. ∥∥₁_elim t le_prop (λ w. w.travels i l);
}
