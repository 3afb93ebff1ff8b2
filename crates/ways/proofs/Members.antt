-- What stands in a list, and the greatest over a list.
use Rattle.std.proofs.Common.{◌≡◌, ℕ, zero, suc, ◌+◌, ◌<◌, ◌≤◌, ◌⊎◌, List, [], ◌∷◌, ◌++◌, map, refl, ap, subst, inl, inr, ⊎_elim, arith}
use Rattle.std.specs.List.{range_with_len}
use Rattle.std.proofs.lemmas.Bool.{cases_lt}
use Rattle.ways.specs.Ends.{In, joined, highest}

in_append_left : {X : Type 0} (x : X) (xs ys : List X) → In x xs → In x (xs ++ ys)
in_append_left x [] ys m = absurd m
in_append_left x (z ∷ xs) ys (inl e) = inl e
in_append_left x (z ∷ xs) ys (inr m) = inr (in_append_left x xs ys m)

in_append_right : {X : Type 0} (x : X) (xs ys : List X) → In x ys → In x (xs ++ ys)
in_append_right x [] ys m = m
in_append_right x (z ∷ xs) ys m = inr (in_append_right x xs ys m)

in_append : {X : Type 0} (x : X) (xs ys : List X) → In x (xs ++ ys) → In x xs ⊎ In x ys
in_append x [] ys m = inr m
in_append x (z ∷ xs) ys (inl e) = inl (inl e)
in_append x (z ∷ xs) ys (inr m) = ⊎_elim (λ a. inl (inr a)) (λ b. inr b) (in_append x xs ys m)

-- all that a function of the index gives, from a on
pub in_each : (x : List ℕ) (h : ℕ → List (List ℕ)) (n a i : ℕ) → a ≤ i → i < a + n → In x (h i) → In x (joined (map h (range_with_len a n)))
in_each x h zero a i l g m = absurd (omega arith)
in_each x h (suc n) a i l g m =
    ⊎_elim
    (λ (lt : a < i). in_append_right x (h a) (joined (map h (range_with_len (a + 1) n))) (in_each x h n (a + 1) i (omega arith) (omega arith) m))
    (λ (le : i ≤ a). let e : i ≡ a = omega arith in in_append_left x (h a) (joined (map h (range_with_len (a + 1) n))) (subst (λ (j : ℕ). In x (h j)) e m))
    (cases_lt a i)

pub from_each : (x : List ℕ) (h : ℕ → List (List ℕ)) (n a : ℕ) → In x (joined (map h (range_with_len a n))) → (i : ℕ) × (i < a + n) × In x (h i)
from_each x h zero a m = absurd m
from_each x h (suc n) a m =
    ⊎_elim
    (λ p. (a, omega arith, p))
    (λ q. let r = from_each x h n (a + 1) q in (r.0, (let l = r.1 in omega arith), r.2))
    (in_append x (h a) (joined (map h (range_with_len (a + 1) n))) m)

-- each with i in front
pub in_led : (i : ℕ) (r : List ℕ) (rs : List (List ℕ)) → In r rs → In (i ∷ r) (map (λ w. i ∷ w) rs)
in_led i r [] m = absurd m
in_led i r (s ∷ rs) (inl e) = inl (ap (λ q. i ∷ q) e)
in_led i r (s ∷ rs) (inr m) = inr (in_led i r rs m)

pub from_led : (i : ℕ) (r : List ℕ) (rs : List (List ℕ)) → In r (map (λ w. i ∷ w) rs) → (s : List ℕ) × In s rs × (r ≡ i ∷ s)
from_led i r [] m = absurd m
from_led i r (s ∷ rs) (inl e) = (s, inl refl, e)
from_led i r (s ∷ rs) (inr m) = let t = from_led i r rs m in (t.0, inr t.1, t.2)

-- the highest is above all, and one reaches it unless it is 0
pub highest_above : (f : List ℕ → ℕ) (r : List ℕ) (rs : List (List ℕ)) → In r rs → f r ≤ highest f rs
highest_above f r [] m = absurd m
highest_above f r (s ∷ rs) (inl e) = let q = ap f e in omega arith
highest_above f r (s ∷ rs) (inr m) = let q = highest_above f r rs m in omega arith

pub highest_met : (f : List ℕ → ℕ) (rs : List (List ℕ)) → (highest f rs ≡ 0) ⊎ ((r : List ℕ) × In r rs × (f r ≡ highest f rs))
highest_met f [] = inl refl
highest_met f (s ∷ rs) =
    ⊎_elim
    (λ (l : f s < highest f rs).
    ⊎_elim
    (λ z. absurd (omega arith))
    (λ q. inr (q.0, inr q.1, (let e = q.2 in omega arith)))
    (highest_met f rs))
    (λ (l : highest f rs ≤ f s). inr (s, inl refl, omega arith))
    (cases_lt (f s) (highest f rs))

pub highest_reached : (f : List ℕ → ℕ) (s : List ℕ) (rs : List (List ℕ)) → In s rs → (r : List ℕ) × In r rs × (f r ≡ highest f rs)
highest_reached f s rs m =
    ⊎_elim
    (λ z. (s, m, (let l = highest_above f s rs m in omega arith)))
    (λ q. q)
    (highest_met f rs)
