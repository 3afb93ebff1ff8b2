-- What comes of a worksheet whose flows are tried.
use Rattle.std.proofs.Common.{◌≡◌, ℕ, zero, suc, ◌+◌, ◌-◌, ◌<◌, cond, eqb, ltb, List, [], ◌∷◌, ◌++◌, map, length, take, drop, replicate, Some, None, Option, sym, refl, ap, ◌∙◌, arith}
use Rattle.std.specs.List.{range_with_len}
use Rattle.std.proofs.lemmas.List.FromFn.{length-map-range_with_len}
use Rattle.std.proofs.lemmas.List.{take_at, drop_at}
use Rattle.std.proofs.lemmas.Bool.{cond-true, cond-false, lt-ltb, ne_eqb}
use Rattle.walking.specs.Curves.{Tables}
use Rattle.network.specs.declared.Element.{Element}
use Rattle.network.specs.Refusals.{Answer, accepted, refused}
use Rattle.network.specs.Sentences.{first_true}
use Rattle.sheet.specs.declared.Line.{Line}
use Rattle.sheet.specs.Lines.{WorkedLine, at, thin, no_line}
use Rattle.sheet.specs.Sheet.{sheet, lines, first_thin}
use Rattle.sheet.proofs.Stages.{length_worked}
use Rattle.worksheet.specs.Stages.{shown_at}
use Rattle.worksheet.specs.Thin.{line_thin, first_thin_line, number_or_none, thin_sentences, worked_out}

-- the first thin line is that of the first thin worked line
first_same : (f : ℕ → Line) (ws : List WorkedLine) (a k : ℕ) → ((i j : ℕ) → i < length ws → a + i ≡ j → line_thin (f j) ≡ thin (at ws i))
    → first_thin_line (map f (range_with_len a (length ws))) k ≡ first_thin ws k
first_same f [] a k h = refl
first_same f (w ∷ ws) a k h =
    ap (λ b. cond b (suc k) (first_thin_line (map f (range_with_len (a + 1) (length ws))) (suc k))) (h 0 a (omega arith) (omega arith))
    ∙ ap (λ n. cond (thin w) (suc k) n) (first_same f ws (a + 1) (suc k) (λ i j l e. h (suc i) j (omega arith) (omega arith)))

module _ (t : Tables) (es : List Element) where
  abbrev place : ℕ
  place = first_thin (sheet t es) 0

  lines_long : length (lines t es) ≡ length es
  unfolding lines
  lines_long = length-map-range_with_len (shown_at es (sheet t es)) 0 (length es)

  sheet_long : length es ≡ length (sheet t es)
  unfolding sheet
  sheet_long = sym (length_worked t es 64)

  shown_thin : (i j : ℕ) → i < length (sheet t es) → 0 + i ≡ j → line_thin (shown_at es (sheet t es) j) ≡ thin (at (sheet t es) i)
  shown_thin i j l e = let same : j ≡ i = omega arith in ap (λ n. thin (at (sheet t es) n)) same

  lines_thin : first_thin_line (lines t es) 0 ≡ place
  unfolding lines
  lines_thin =
      ap (λ n. first_thin_line (map (shown_at es (sheet t es)) (range_with_len 0 n)) 0) sheet_long
      ∙ first_same (shown_at es (sheet t es)) (sheet t es) 0 0 shown_thin

-- the answer, and which lines stand, by the number of the first thin line
abbrev Told : Type 0
Told = Answer (Unit {0})

answer_some : (m n : ℕ) → Some n ≡ number_or_none m → ◌≡◌ {A = Told} (refused 14 n) (cond (ltb 0 m) (refused 14 m) (accepted tt))
answer_some zero n e = let z : ◌≡◌ {A = ℕ} 0 1 = cc in absurd (omega arith)
answer_some (suc m) n e =
    let same : n ≡ suc m = cc in
    ap (λ k. refused 14 k) same ∙ sym (cond-true (ltb 0 (suc m)) (refused 14 (suc m)) (accepted tt) (lt-ltb 0 (suc m) (omega arith)))

answer_none : (m : ℕ) → None ≡ number_or_none m → ◌≡◌ {A = Told} (accepted tt) (cond (ltb 0 m) (refused 14 m) (accepted tt))
answer_none zero e = refl
answer_none (suc m) e = let z : ◌≡◌ {A = ℕ} 0 1 = cc in absurd (omega arith)

lines_some : {X : Type 0} (m n : ℕ) (x y : X) → Some n ≡ number_or_none m → y ≡ cond (eqb m 0) x y
lines_some zero n x y e = let z : ◌≡◌ {A = ℕ} 0 1 = cc in absurd (omega arith)
lines_some (suc m) n x y e = sym (cond-false (eqb (suc m) 0) x y (ne_eqb (suc m) 0 (λ z. omega arith)))

lines_none : {X : Type 0} (m : ℕ) (x y : X) → None ≡ number_or_none m → x ≡ cond (eqb m 0) x y
lines_none zero x y e = refl
lines_none (suc m) x y e = let z : ◌≡◌ {A = ℕ} 0 1 = cc in absurd (omega arith)

-- from what the code's calls promise: xs is the slice once the worksheet is filled
module _ (t : Tables) (es : List Element) (ys xs : List Line) (filled : xs ≡ lines t es ++ drop (length es) ys) where
  abbrev tried : ℕ
  tried = first_thin_line (take (length es - 0) xs) 0

  tried_is : tried ≡ first_thin (sheet t es) 0
  tried_is =
      let all : length es - 0 ≡ length es = omega arith in
      ap (λ n. first_thin_line (take n xs) 0) all
      ∙ ap (λ zs. first_thin_line (take (length es) zs) 0) filled
      ∙ ap (λ zs. first_thin_line zs 0) (take_at (lines t es) (drop (length es) ys) (length es) (lines_long t es))
      ∙ lines_thin t es

  number_is : (o : Option ℕ) → o ≡ number_or_none tried → o ≡ number_or_none (first_thin (sheet t es) 0)
  number_is o e = e ∙ ap number_or_none tried_is

  pub refused_by : (n : ℕ) → Some n ≡ number_or_none tried → ◌≡◌ {A = Told} (refused 14 n) (first_true (thin_sentences t es) tt)
  refused_by n e = answer_some (first_thin (sheet t es) 0) n (number_is (Some n) e)

  pub accepted_by : None ≡ number_or_none tried → ◌≡◌ {A = Told} (accepted tt) (first_true (thin_sentences t es) tt)
  accepted_by e = answer_none (first_thin (sheet t es) 0) (number_is None e)

  pub cleared_by : (n : ℕ) (zs : List Line) → Some n ≡ number_or_none tried → zs ≡ replicate (length es) no_line ++ drop (length es) xs → zs ≡ worked_out t es ++ drop (length es) ys
  cleared_by n zs e h =
      h
      ∙ ap (λ vs. replicate (length es) no_line ++ drop (length es) vs) filled
      ∙ ap (λ vs. replicate (length es) no_line ++ vs) (drop_at (lines t es) (drop (length es) ys) (length es) (lines_long t es))
      ∙ ap (λ vs. vs ++ drop (length es) ys) (lines_some (first_thin (sheet t es) 0) n (lines t es) (replicate (length es) no_line) (number_is (Some n) e))

  pub kept_by : None ≡ number_or_none tried → xs ≡ worked_out t es ++ drop (length es) ys
  kept_by e =
      filled ∙ ap (λ vs. vs ++ drop (length es) ys) (lines_none (first_thin (sheet t es) 0) (lines t es) (replicate (length es) no_line) (number_is None e))
