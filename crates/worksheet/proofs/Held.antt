-- A slice that holds the worked lines.
use Rattle.std.proofs.Common.{◌≡◌, ℕ, ◌+◌, ◌-◌, ◌≤◌, List, ◌++◌, map, length, drop, sym, refl, ap, ◌∙◌, subst, arith}
use Rattle.std.specs.List.{range_with_len}
use Rattle.walking.specs.Curves.{Tables}
use Rattle.network.specs.declared.Element.{Element}
use Rattle.sheet.specs.declared.Line.{Line}
use Rattle.sheet.specs.Lines.{WorkedLine, no_line}
use Rattle.sheet.specs.Sheet.{worked, sheet, lines}
use Rattle.worksheet.specs.Stages.{Holds, shown_at, held}
use Rattle.worksheet.proofs.Laid.{laid_at, laid_long, laid_none, laid_past}

module _ (es : List Element) (ws : List WorkedLine) (ys : List Line) where
  holds : length es ≤ length ys → Holds es ws (held es ws ys)
  unfolding held
  holds room = record {
    room = omega (arith, laid_long no_line (shown_at es ws) ys (length es) room);
    lines = λ i l. laid_at no_line (shown_at es ws) ys (length es) i l;
  }

  pub holds_by : (xs : List Line) → length es ≤ length ys → xs ≡ held es ws ys → Holds es ws xs
  holds_by xs room e = subst (Holds es ws) (sym e) (holds room)

  -- lines over lines
  held_over : (vs : List WorkedLine) (xs : List Line) → xs ≡ held es vs ys → held es ws xs ≡ held es ws ys
  unfolding held
  held_over vs xs e =
      ap (λ zs. map (shown_at es ws) (range_with_len 0 (length es)) ++ zs)
      (ap (drop (length es)) e ∙ laid_past no_line (shown_at es vs) ys (length es))

held_lines : (t : Tables) (es : List Element) (ys : List Line) → held es (worked t es 64) ys ≡ lines t es ++ drop (length es) ys
unfolding held lines sheet
held_lines t es ys = refl

module _ (t : Tables) (es : List Element) where
  -- point after point, where ys holds the sources' lines
  module _ (ys : List Line) where
    pub points_begin : Holds es (worked t es 0) ys → ys ≡ held es (worked t es 0) ys
    unfolding held
    points_begin h = laid_none no_line (shown_at es (worked t es 0)) ys (length es) h.room h.lines

    pub points_go_on : (p : ℕ) (xs vs : List Line) → xs ≡ held es (worked t es (p - 1)) ys → vs ≡ held es (worked t es p) xs → vs ≡ held es (worked t es ((p + 1) - 1)) ys
    points_go_on p xs vs e h =
        let here : p ≡ (p + 1) - 1 = omega arith in
        h ∙ held_over es (worked t es p) ys (worked t es (p - 1)) xs e ∙ ap (λ m. held es (worked t es m) ys) here

  -- all points, where zs are the sources' lines over ys
  pub points_end : (ys zs xs : List Line) → zs ≡ held es (worked t es 0) ys → xs ≡ held es (worked t es 64) zs → xs ≡ lines t es ++ drop (length es) ys
  points_end ys zs xs e h = h ∙ held_over es (worked t es 64) ys (worked t es 0) zs e ∙ held_lines t es ys
