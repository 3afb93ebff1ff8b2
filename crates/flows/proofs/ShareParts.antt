-- The whole parts of the shares.
use Rattle.std.proofs.Common.{◌≡◌, ℕ, ◌+◌, ◌-◌, ◌*◌, ◌/◌, ◌%◌, ◌^◌, ◌<◌, ◌≤◌, Bool, cond, ◌&&◌, ◌||◌, eqb, ltb, List, length, sym, ap, ◌∙◌, arith}
use Rattle.std.specs.List.{sum_by, enumerate_from}
use Rattle.std.proofs.lemmas.Bool.{lt-ltb, le-ltb, cond-true, cond-false}
use Rattle.exact.specs.Sums.{sum_where, count_where}
use Rattle.exact.proofs.SumLaws.{where_mono}
use Rattle.network.specs.declared.Element.{Element}
use Rattle.network.specs.Elements.{el, leaves, no_element}
use Rattle.network.specs.Ready.{Ready}
use Rattle.network.proofs.Counts.{sum_of_each}
use Rattle.network.proofs.Readiness.{lawful_at}
use Rattle.network.proofs.Standing.{ready_stands}
use Rattle.sheet.specs.Shares.{width_out, part, remainder, before, left_over, share}
use Rattle.sheet.proofs.ShareLaws.{shares_all}
use Rattle.flows.proofs.PointSums.{where_small, ones_chosen}

module _ (es : List Element) (p n i : ℕ) (s r : ℕ) (all : s ≡ width_out es p) where
  pub part_by : r ≡ n * (el es i).width / s → r ≡ part es p n i
  part_by h = h ∙ ap (λ q. n * (el es i).width / q) all

  pub remainder_by : r ≡ n * (el es i).width % s → r ≡ remainder es p n i
  remainder_by h = h ∙ ap (λ q. n * (el es i).width % q) all

module _ (es : List Element) (p n : ℕ) where
  -- the whole parts are no more than all
  pub parts_le : 0 < width_out es p → sum_where (length es) (leaves es p) (part es p n) ≤ n
  unfolding share
  parts_le some = omega (arith, where_mono (length es) (leaves es p) (part es p n) (share es p n) (λ i l h. omega arith), shares_all es p n some)

-- what the elements that leave a point have together: their widths, and their whole parts; any other has none
module _ (es : List Element) (p : ℕ) where
  abbrev pub wide : Element → ℕ
  wide e = cond (eqb e.from p) e.width 0

  pub width_all : sum_by wide es ≡ width_out es p
  unfolding width_out
  width_all = sym (sum_of_each wide es)

  pub width_fits : ∥ Ready es ∥₁ → sum_by wide es < 2 ^ 32
  unfolding width_out
  width_fits kept =
      let ready = ready_stands kept in
      omega (arith, width_all, where_small (leaves es p) (λ k. (el es k).width) 10000 128 (length es) (λ k l _. (lawful_at ready k l).narrow) ready.few)

  module _ (n s : ℕ) (all : s ≡ width_out es p) (some : 0 < s) where
    abbrev pub part_of : Element → ℕ
    part_of e = cond (eqb e.from p) (n * e.width / s) 0

    pub parts_all : sum_by part_of es ≡ sum_where (length es) (leaves es p) (part es p n)
    parts_all = sym (sum_of_each part_of es) ∙ ap (λ q. sum_where (length es) (leaves es p) (λ i. n * (el es i).width / q)) all

    pub given_le : sum_by part_of es ≤ n
    given_le = omega (arith, parts_all, parts_le es p n (omega arith))

    pub left_by : (given : ℕ) → given ≡ sum_by part_of es → n - given ≡ left_over es p n
    unfolding left_over
    left_by given h = ap (λ k. n - k) (h ∙ parts_all)

-- who is served before the element i, whose remainder is own
module _ (es : List Element) (p n i : ℕ) (s own : ℕ) (all : s ≡ width_out es p) (mine : own ≡ n * (el es i).width % s) where
  abbrev served_first : ℕ × Element → Bool
  served_first q = eqb q.1.from p && (ltb own (n * q.1.width % s) || (eqb own (n * q.1.width % s) && ltb q.0 i))

  abbrev pub served_one : ℕ × Element → ℕ
  served_one q = cond (served_first q) 1 0

  pub ranked : sum_by served_one (enumerate_from 0 es) ≡ count_where (length es) (before es p n i)
  unfolding before
  ranked =
      let earlier : ℕ → ℕ → ℕ → Bool = λ a b j. eqb (el es j).from p && (ltb a b || (eqb a b && ltb j i)) in
      ones_chosen served_first no_element (before es p n i) es
      (λ j. ap (λ a. earlier a (n * (el es j).width % s) j) (remainder_by es p n i s own all mine)
      ∙ ap (λ q. earlier (remainder es p n i) (n * (el es j).width % q) j) all)

  pub ranks_fit : ∥ Ready es ∥₁ → sum_by served_one (enumerate_from 0 es) < 2 ^ 64
  ranks_fit kept = omega (arith, ranked, where_small (before es p n i) (λ _. 1) 1 128 (length es) (λ k l _. omega arith) (ready_stands kept).few)

-- the share, by the part r and how many the code counts before i
module _ (es : List Element) (p n i : ℕ) (s r left count : ℕ) (all : s ≡ width_out es p) (whole : r ≡ n * (el es i).width / s)
    (over : left ≡ left_over es p n) (counted : count ≡ count_where (length es) (before es p n i)) where
  pub share_one : count < left → r + 1 ≡ share es p n i
  unfolding share
  share_one h =
      ap (λ q. q + 1) (part_by es p n i s r all whole)
      ∙ ap (λ x. part es p n i + x) (sym (cond-true _ 1 0 (lt-ltb (count_where (length es) (before es p n i)) (left_over es p n) (omega arith))))

  pub share_whole : left ≤ count → r ≡ share es p n i
  unfolding share
  share_whole h =
      let none : cond {A = ℕ} (ltb (count_where (length es) (before es p n i)) (left_over es p n)) 1 0 ≡ 0 = cond-false (ltb (count_where (length es) (before es p n i)) (left_over es p n)) 1 0 (le-ltb (count_where (length es) (before es p n i)) (left_over es p n) (omega arith)) in
      omega (arith, part_by es p n i s r all whole)
