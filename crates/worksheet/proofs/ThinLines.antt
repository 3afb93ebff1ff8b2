-- The first thin line, by its place.
use Rattle.std.proofs.Common.{◌≡◌, ℕ, suc, ◌+◌, Bool, true, false, not, cond, ltb, List, [], ◌∷◌, length, Some, None, sym, refl, ap, ◌∙◌, arith}
use Rattle.std.specs.List.{position, position_or_len}
use Rattle.std.specs.Option.{option_map}
use Rattle.std.proofs.lemmas.Bool.Decides.{nat_tests}
use Rattle.sheet.specs.declared.Line.{Line}
use Rattle.worksheet.specs.Thin.{line_thin, first_thin_line, number_or_none}

-- one line in front of n others, of which the first thin one is at the place m
one_more : (b : Bool) (m n k r : ℕ) → r ≡ cond (ltb m n) (suc (suc k + m)) 0
    → cond b (suc k) r ≡ cond (ltb (cond (not b) (1 + m) 0) (suc n)) (suc (k + cond (not b) (1 + m) 0)) 0
one_more true m n k r h = grind (arith, nat_tests)
one_more false m n k r h = grind (arith, nat_tests)

numbered : (ls : List Line) (k : ℕ) → first_thin_line ls k ≡ cond (ltb (position_or_len line_thin ls) (length ls)) (suc (k + position_or_len line_thin ls)) 0
numbered [] k = refl
numbered (l ∷ ls) k = one_more (line_thin l) (position_or_len line_thin ls) (length ls) k (first_thin_line ls (suc k)) (numbered ls (suc k))

by_place : (b : Bool) (m : ℕ) → option_map (λ i. i + 1) (cond b (Some m) None) ≡ number_or_none (cond b (suc (0 + m)) 0)
by_place true m = let same : m + 1 ≡ suc (0 + m) = omega arith in ap (λ n. Some n) same
by_place false m = refl

pub thin_number : (ls : List Line) → option_map (λ i. i + 1) (position line_thin ls) ≡ number_or_none (first_thin_line ls 0)
thin_number ls = by_place (ltb (position_or_len line_thin ls) (length ls)) (position_or_len line_thin ls) ∙ ap number_or_none (sym (numbered ls 0))
