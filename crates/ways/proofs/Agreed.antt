-- Both ends and the governing element in words and as functions are the same.
use Rattle.std.proofs.Common.{◌≡◌, ℕ, ◌+◌, ◌<◌, ◌≤◌, true, cond, eqb, ◌⊎◌, List, [], ◌∷◌, length, sym, refl, ap, ◌∙◌, subst, inl, inr, ⊎_elim, arith}
use Rattle.std.proofs.lemmas.Bool.{cases_Bool, or_cases, or_left, or_right, eqb-true, eq-eqb, cond-true, cond-false}
use Rattle.network.specs.declared.Element.{Element}
use Rattle.network.specs.Ready.{Ready}
use Rattle.sheet.specs.Lines.{WorkedLine}
use Rattle.ways.specs.declared.End.{End}
use Rattle.ways.specs.Routes.{Used, duration_of, time}
use Rattle.ways.specs.Ends.{by, In, time_with, IsEnd, Through, Governs, routes, greatest_time, on, weight, first_best, governing_by}
use Rattle.ways.specs.Facts.{Facts}
use Rattle.ways.specs.Walks.{FirstMost}
use Rattle.ways.proofs.Members.{highest_above, highest_met, highest_reached}
use Rattle.ways.proofs.Listed.{used_listed, listed_used, goes_from_used}
use Rattle.ways.proofs.Joined.{greatest_at, greatest_above, in_crossed}
use Rattle.ways.proofs.Sized.{worked_walkable}
use Rattle.ways.proofs.Found.{time_by, on_a_route}
use Rattle.ways.proofs.Firsts.{first_best_is, first_most_best}

on_true : (i : ℕ) (r : List ℕ) → In i r → on i r ≡ true
on_true i [] o = absurd o
on_true i (j ∷ r) (inl e) = or_left (eqb i j) (on i r) (eq-eqb i j e)
on_true i (j ∷ r) (inr o) = or_right (eqb i j) (on i r) (on_true i r o)

true_on : (i : ℕ) (r : List ℕ) → on i r ≡ true → In i r
true_on i [] e = absurd (let z : ◌≡◌ {A = ℕ} 0 1 = cc in omega arith)
true_on i (j ∷ r) e = ⊎_elim (λ a. inl (eqb-true i j a)) (λ b. inr (true_on i r b)) (or_cases (eqb i j) (on i r) e)

module _ (e : End) (es : List Element) (ls : List WorkedLine) (rd : Ready es) where
  -- ---- ends

  pub end_bounds : (r : List ℕ) → Used es ls r → by e (time es ls r) ≤ greatest_time e es ls
  unfolding greatest_time
  end_bounds r u = highest_above (λ q. by e (time es ls q)) r (routes es ls) (used_listed es ls rd r u)

  end_reached : (s : List ℕ) → Used es ls s → (r : List ℕ) × Used es ls r × (by e (time es ls r) ≡ greatest_time e es ls)
  unfolding greatest_time
  end_reached s u =
      let q = highest_reached (λ q. by e (time es ls q)) s (routes es ls) (used_listed es ls rd s u) in
      (q.0, listed_used es ls q.0 q.1, q.2)

  -- whoever finds the greatest time has found the end
  pub end_is : (x : ℕ) → IsEnd e es ls x → x ≡ greatest_time e es ls
  end_is x h =
      let m = h.reached in
      let a = end_bounds m.0 m.1 in
      let q = end_reached m.0 m.1 in
      let b = h.bounds q.0 q.1 in
      let c = m.2 in
      let d = q.2 in
      omega arith

  -- ---- the governing element

  through_crossed : (i y : ℕ) → Through e es ls i y → i < length es
  through_crossed i y t = let r = t.reached in (in_crossed e es ls 0 i r.0 r.2 (goes_from_used es ls r.0 r.1)).0

  module _ (i : ℕ) where
    abbrev weighed : List ℕ → ℕ
    weighed r = cond (on i r) (1 + time_with e es ls i r) 0

    weighed_on : (r : List ℕ) → In i r → weighed r ≡ 1 + time_with e es ls i r
    weighed_on r o = cond-true (on i r) (1 + time_with e es ls i r) 0 (on_true i r o)

    weight_above : (r : List ℕ) → Used es ls r → In i r → 1 + time_with e es ls i r ≤ weight e es ls i
    unfolding weight
    weight_above r u o = let a = highest_above weighed r (routes es ls) (used_listed es ls rd r u) in let q = weighed_on r o in omega arith

    weight_met : (weight e es ls i ≡ 0) ⊎ ((r : List ℕ) × In r (routes es ls) × (weighed r ≡ weight e es ls i))
    unfolding weight
    weight_met = highest_met weighed (routes es ls)

    -- no route goes through, or the weight is one more than what the longest makes
    through_cases : (weight e es ls i ≡ 0) ⊎ ((y : ℕ) × Through e es ls i y × (weight e es ls i ≡ 1 + y))
    through_cases =
        ⊎_elim
        (λ z. inl z)
        (λ s.
        ⊎_elim
        (λ t.
        let o : In i s.0 = true_on i s.0 t in
        let q : 1 + time_with e es ls i s.0 ≡ weight e es ls i = sym (weighed_on s.0 o) ∙ s.2 in
        inr (
          time_with e es ls i s.0,
          record {
            bounds = λ r u p. let a = weight_above r u p in omega arith;
            reached = (s.0, listed_used es ls s.0 s.1, o, refl);
          },
          omega arith,
        ))
        (λ f. inl (sym s.2 ∙ cond-false (on i s.0) (1 + time_with e es ls i s.0) 0 f))
        (cases_Bool (on i s.0)))
        weight_met

    through_is : (y : ℕ) → Through e es ls i y → weight e es ls i ≡ 1 + y
    through_is y t =
        let r = t.reached in
        let a = weight_above r.0 r.1 r.2 in
        let q = r.3 in
        ⊎_elim
        (λ (z : weight e es ls i ≡ 0). absurd (omega arith))
        (λ s. let u = s.1.reached in let b = t.bounds u.0 u.1 u.2 in let c = s.1.bounds r.0 r.1 r.2 in let d = u.3 in let f = s.2 in omega arith)
        through_cases

  pub governing_is : (g : ℕ) → Governs e es ls g → 1 + g ≡ governing_by e es ls
  unfolding governing_by
  governing_is g v =
      let w = weight e es ls in
      let most : FirstMost w (length es) g (1 + v.most) = record {
        within = through_crossed g v.most v.here;
        here = through_is g v.most v.here;
        none_above = λ i l. ⊎_elim (λ z. omega arith) (λ s. let a = v.none_above i s.0 s.1 in let q = s.2 in omega arith) (through_cases i);
        first = λ i l. ⊎_elim (λ z. omega arith) (λ s. let a = v.first i s.0 l s.1 in let q = s.2 in omega arith) (through_cases i);
      } in
      ap (λ k. 1 + k) (first_most_best w (length es) g (1 + v.most) most)

  module _ (fs : Facts es ls) where
    pub some_route : (r : List ℕ) × Used es ls r
    some_route = let s = fs.some in let r = on_a_route e es ls (worked_walkable es ls rd fs e) s.0 s.1 in (r.0, r.1)

    pub is_end : IsEnd e es ls (greatest_time e es ls)
    is_end = let s = some_route in record { bounds = end_bounds; reached = end_reached s.0 s.1 }

    pub governs : (g : ℕ) → 1 + g ≡ governing_by e es ls → Governs e es ls g
    unfolding governing_by
    governs g q =
        let w = weight e es ls in
        let s = fs.some in
        let r = on_a_route e es ls (worked_walkable es ls rd fs e) s.0 s.1 in
        let b = first_best w (length es) in
        let f : FirstMost w (length es) b (w b) = first_best_is w (length es) (let l = s.1.0 in omega arith) in
        let a = f.none_above s.0 s.1.0 in
        let p = weight_above s.0 r.0 r.1 r.2 in
        ⊎_elim
        (λ (z : w b ≡ 0). absurd (omega arith))
        (λ t.
        let v = t.2 in
        let found : Governs e es ls b = record {
          most = t.0;
          here = t.1;
          none_above = λ i y h. let c = f.none_above i (through_crossed i y h) in let d = through_is i y h in omega arith;
          first = λ i y l h. let c = f.first i l in let d = through_is i y h in omega arith;
        } in
        subst (Governs e es ls) (let x : b ≡ g = omega arith in x) found)
        (through_cases b)

    -- what governs makes the end: no route takes longer, and the longest through it takes as long
    governed : (g : ℕ) (v : Governs e es ls g) (r : List ℕ) → Used es ls r → by e (time es ls r) ≤ v.most
    governed g v [] u = absurd u
    governed g v (i ∷ r) u =
        let s = time_by e es ls (i ∷ r) in
        let j = greatest_at (λ k. by e (duration_of ls k)) i r in
        let q = j.2 in
        let a = weight_above j.0 (i ∷ r) u j.1 in
        ⊎_elim
        (λ (z : weight e es ls j.0 ≡ 0). absurd (omega arith))
        (λ t. let b = v.none_above j.0 t.0 t.1 in let w = t.2 in omega arith)
        (through_cases j.0)

    pub governs_end : (g : ℕ) → Governs e es ls g → Through e es ls g (greatest_time e es ls)
    governs_end g v =
        let m = is_end.reached in
        let a = governed g v m.0 m.1 in
        let b = m.2 in
        let r = v.here.reached in
        let s = time_by e es ls r.0 in
        let c = greatest_above (λ k. by e (duration_of ls k)) g r.0 r.2 in
        let d = end_bounds r.0 r.1 in
        let q = r.3 in
        let same : v.most ≡ greatest_time e es ls = omega arith in
        subst (Through e es ls g) same v.here
