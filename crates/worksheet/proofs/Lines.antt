-- The lines that the loops write, and those they leave.
use Rattle.std.proofs.Common.{◌≡◌, ℕ, ◌+◌, ◌<◌, ◌≤◌, cond, List, length, set, sym, ap, ◌∙◌, arith}
use Rattle.std.proofs.lemmas.List.FromFn.{get_or-map-range_with_len}
use Rattle.std.proofs.lemmas.Bool.{eq-eqb, ne_eqb, cond-true, cond-false}
use Rattle.exact.specs.Worked.{Worked}
use Rattle.walking.specs.Curves.{Tables}
use Rattle.network.specs.declared.Element.{Element}
use Rattle.network.specs.Elements.{el, leaves}
use Rattle.sheet.specs.declared.Line.{Line}
use Rattle.sheet.specs.Lines.{WorkedLine, idle, shown, no_line}
use Rattle.sheet.specs.Sources.{source}
use Rattle.sheet.specs.Shares.{share}
use Rattle.sheet.specs.Points.{leaving}
use Rattle.sheet.specs.Sheet.{worked}
use Rattle.flows.specs.Points.{line_at}
use Rattle.worksheet.specs.Stages.{laid, shown_at, held, departed}
use Rattle.worksheet.proofs.Laid.{laid_set, laid_keep}

-- all elements are passed
pub all_held : (es : List Element) (ws : List WorkedLine) (xs ys : List Line) (k : ℕ) → k ≡ length es → xs ≡ laid (shown_at es ws) k ys → xs ≡ held es ws ys
unfolding held
all_held es ws xs ys k e h = h ∙ ap (λ n. laid (shown_at es ws) n ys) e

module _ (t : Tables) (es : List Element) (xs ys : List Line) (k : ℕ) (within : k < length es) (room : length es ≤ length ys) where
  -- a line before any point
  pub first_written : (x : Line) → x ≡ shown (el es k) (cond (leaves es 0 k) (source t (el es k)) idle)
      → xs ≡ laid (shown_at es (worked t es 0)) k ys → set xs k x ≡ laid (shown_at es (worked t es 0)) (k + 1) ys
  unfolding worked
  first_written x e h =
      laid_set no_line (shown_at es (worked t es 0)) ys xs k x (omega arith) h
      (e ∙ ap (shown (el es k)) (sym (get_or-map-range_with_len (λ i. cond (leaves es 0 i) (source t (el es i)) idle) 0 (length es) k k idle within (omega arith))))

  -- a line at a point: of an element that leaves it, and of any other
  module _ (p : ℕ) (s : Worked) (n : ℕ) (h : xs ≡ laid (departed t es p s n ys) k ys) where
    pub line_written : (m : ℕ) (x : Line) → (el es k).from ≡ p → m ≡ share es p n k → x ≡ shown (el es k) (leaving t (el es k) s m)
        → set xs k x ≡ laid (departed t es p s n ys) (k + 1) ys
    unfolding departed
    line_written m x f em ex =
        let there = cond-true (leaves es p k) (shown (el es k) (leaving t (el es k) s (share es p n k))) (line_at ys k) (eq-eqb _ _ f) in
        laid_set no_line (departed t es p s n ys) ys xs k x (omega arith) h (ex ∙ ap (λ q. shown (el es k) (leaving t (el es k) s q)) em ∙ sym there)

    pub line_kept : ((el es k).from ≡ p → ⊥) → xs ≡ laid (departed t es p s n ys) (k + 1) ys
    unfolding departed
    line_kept f =
        laid_keep no_line (departed t es p s n ys) ys xs k (omega arith) h
        (sym (cond-false (leaves es p k) (shown (el es k) (leaving t (el es k) s (share es p n k))) (line_at ys k) (ne_eqb _ _ f)))
