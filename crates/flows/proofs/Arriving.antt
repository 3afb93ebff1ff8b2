-- What has come to a point so far, while the elements are gone through one after another.
use Rattle.std.proofs.Common.{◌≡◌, ℕ, ◌+◌, ◌<◌, ◌≤◌, List, length, sym, ap, arith}
use Rattle.std.proofs.lemmas.Bool.{eq-eqb, ne_eqb}
use Rattle.exact.specs.Sums.{sum_where}
use Rattle.exact.proofs.SumLaws.{sum_none, where_yes, where_no}
use Rattle.network.specs.declared.Element.{Element}
use Rattle.network.specs.Elements.{el, comes}
use Rattle.sheet.specs.declared.Line.{Line}
use Rattle.flows.specs.Points.{SmallLines, line_at, line_lower, line_upper, line_persons, arrivals_at}
use Rattle.flows.specs.declared.Arrivals.{Arrivals}
use Rattle.flows.proofs.PointSums.{where_small}

module _ (es : List Element) (ls : List Line) (p : ℕ) where
  abbrev so_far : (Line → ℕ) → ℕ → ℕ
  so_far number k = sum_where k (comes es p) (λ i. number (line_at ls i))

  pub record SoFar (k a b n : ℕ) : Type 0 where
    pub lower : a ≡ so_far line_lower k
    pub upper : b ≡ so_far line_upper k
    pub persons : n ≡ so_far line_persons k

  pub none_yet : SoFar 0 0 0 0
  none_yet = record { lower = sym (sum_none _); upper = sym (sum_none _); persons = sym (sum_none _) }

  pub all_come : (k lower upper persons : ℕ) → SoFar k lower upper persons → k ≡ length es → ◌≡◌ {A = Arrivals} (record { flow = record { lower = lower; upper = upper }; persons = persons }) (arrivals_at es ls p)
  unfolding arrivals_at
  all_come k lower upper persons h e = cc

  module _ (k lower upper persons : ℕ) (h : SoFar k lower upper persons) where
    module _ (l : Line) (line : l ≡ line_at ls k) where
      pub one_comes : (el es k).to ≡ p → SoFar (k + 1) (lower + l.flow.lower) (upper + l.flow.upper) (persons + l.persons)
      one_comes to = record {
        lower = omega (arith, h.lower, ap line_lower line, one_more line_lower);
        upper = omega (arith, h.upper, ap line_upper line, one_more line_upper);
        persons = omega (arith, h.persons, ap line_persons line, one_more line_persons);
      }
        where
          one_more : (number : Line → ℕ) → so_far number (k + 1) ≡ so_far number k + number (line_at ls k)
          one_more number = where_yes (comes es p) (λ i. number (line_at ls i)) k (eq-eqb _ _ to)

      -- the sums stay small
      module _ (small : SmallLines es ls) (more : k < length es) where
        pub small_lower : lower + l.flow.lower ≤ 2560000000000
        small_lower = omega (arith, h.lower, ap line_lower line, where_small (comes es p) (λ i. line_lower (line_at ls i)) 20000000000 127 k (λ i b _. (small.small i (omega arith)).lower) (omega (arith, small.few)), (small.small k more).lower)

        pub small_upper : upper + l.flow.upper ≤ 2560000000000
        small_upper = omega (arith, h.upper, ap line_upper line, where_small (comes es p) (λ i. line_upper (line_at ls i)) 20000000000 127 k (λ i b _. (small.small i (omega arith)).upper) (omega (arith, small.few)), (small.small k more).upper)

        pub small_persons : persons + l.persons ≤ 1024000
        small_persons = omega (arith, h.persons, ap line_persons line, where_small (comes es p) (λ i. line_persons (line_at ls i)) 8000 127 k (λ i b _. (small.small i (omega arith)).persons) (omega (arith, small.few)), (small.small k more).persons)

    pub none_comes : ((el es k).to ≡ p → ⊥) → SoFar (k + 1) lower upper persons
    none_comes other = record {
      lower = omega (arith, h.lower, no_more line_lower);
      upper = omega (arith, h.upper, no_more line_upper);
      persons = omega (arith, h.persons, no_more line_persons);
    }
      where
        no_more : (number : Line → ℕ) → so_far number (k + 1) ≡ so_far number k
        no_more number = where_no (comes es p) (λ i. number (line_at ls i)) k (ne_eqb _ _ other)
