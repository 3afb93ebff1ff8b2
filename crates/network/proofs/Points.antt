-- The points, one after another, and all of them.
use Rattle.std.proofs.Common.{◌≡◌, ℕ, zero, suc, ◌+◌, ◌<◌, ◌≤◌, Bool, true, false, List, Some, None, Option, sym, ap, ◌∙◌, subst, inl, inr, arith}
use Rattle.std.specs.Option.{IsSomeAnd}
use Rattle.std.proofs.lemmas.Bool.{cases_eq, not-false, not_from_true}
use Rattle.network.specs.declared.Element.{Element}
use Rattle.network.specs.Refusals.{Answer, accepted, refused}
use Rattle.network.specs.Sentences.{says, first_true}
use Rattle.network.specs.Points.{differ, loose, sentences_from, point_sentences}
use Rattle.network.specs.Ready.{Tied}
use Rattle.network.proofs.First.{NoneTrue, pass, stop, all_passed}

-- what an item that was looked at shows of the number that it is
pub held_at : (P : ℕ → Type 0) (o : Option ℕ) (n : ℕ) → IsSomeAnd o (λ x. x ≡ n) → IsSomeAnd o P → P n
held_at P (Some x) n e h = subst P e h
held_at P None n e h = absurd e

same_of : (a b : Bool) → differ a b ≡ false → a ≡ b
same_of true b e = sym (not-false b e)
same_of false b e = sym e

not_differ : (a b : Bool) → a ≡ b → differ a b ≡ false
not_differ true b e = not_from_true b (sym e)
not_differ false b e = sym e

module _ (es : List Element) where
  -- the n points from p on
  none_from : (p n : ℕ) → ((q : ℕ) → p ≤ q → q < p + n → loose es q ≡ false) → NoneTrue (sentences_from es p n)
  none_from p zero h = tt
  none_from p (suc n) h = (h p (omega arith) (omega arith), none_from (suc p) n (λ q lo hi. h q (omega arith) (omega arith)))

  each_from : (p n : ℕ) → NoneTrue (sentences_from es p n) → (q : ℕ) → p ≤ q → q < p + n → loose es q ≡ false
  each_from p zero f q lo hi = absurd (omega arith)
  each_from p (suc n) f q lo hi =
      elim (cases_eq p q) [
        | inl e ↦ subst (λ k. loose es k ≡ false) e f.0
        | inr other ↦ each_from (suc p) n f.1 q (omega arith) (omega arith)
      ]

  first_from : (p n q : ℕ) → p ≤ q → q < p + n → ((k : ℕ) → p ≤ k → k < q → loose es k ≡ false) → loose es q ≡ true
      → ◌≡◌ {A = Answer (Unit {0})} (refused 12 q) (first_true (sentences_from es p n) tt)
  first_from p zero q lo hi before here = absurd (omega arith)
  first_from p (suc n) q lo hi before here =
      elim (cases_eq p q) [
        | inl e ↦
            ap (refused 12) (sym e) ∙ stop (says (loose es p) 12 p) (sentences_from es (suc p) n) tt (subst (λ k. loose es k ≡ true) (sym e) here)
        | inr other ↦
            first_from (suc p) n q (omega arith) (omega arith) (λ k a b. before k (omega arith) b) here
            ∙ pass (says (loose es p) 12 p) (sentences_from es (suc p) n) tt (before p (omega arith) (omega arith))
      ]

  -- all 64 points
  pub first_loose : (p : ℕ) → 1 ≤ p → p ≤ 64 → ((k : ℕ) → 1 ≤ k → k < p → loose es k ≡ false) → loose es p ≡ true → ◌≡◌ {A = Answer (Unit {0})} (refused 12 p) (first_true (point_sentences es) tt)
  unfolding point_sentences
  first_loose p lo hi before here = first_from 1 64 p lo (omega arith) before here

  none_refuses : ((p : ℕ) → 1 ≤ p → p ≤ 64 → loose es p ≡ false) → NoneTrue (point_sentences es)
  unfolding point_sentences
  none_refuses h = none_from 1 64 (λ q lo hi. h q lo (omega arith))

  pub points_pass : Tied es → NoneTrue (point_sentences es)
  points_pass t = none_refuses (λ p lo hi. not_differ _ _ (t p lo hi))

  pub none_loose : ((p : ℕ) → 1 ≤ p → p ≤ 64 → loose es p ≡ false) → ◌≡◌ {A = Answer (Unit {0})} (accepted tt) (first_true (point_sentences es) tt)
  none_loose h = all_passed (point_sentences es) tt (none_refuses h)

  pub tied_by : ((p : ℕ) → 1 ≤ p → p ≤ 64 → loose es p ≡ false) → Tied es
  tied_by h p lo hi = same_of _ _ (h p lo hi)

  pub tied : NoneTrue (point_sentences es) → Tied es
  unfolding point_sentences
  tied f = tied_by (λ p lo hi. each_from 1 64 f p lo (omega arith))
