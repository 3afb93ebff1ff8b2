use Rattle.std.proofs.Common.{ℕ, replicate, ⊎_elim, arith}
use Rattle.std.proofs.lemmas.Bool.{cases_lt}
use Rattle.std.proofs.lemmas.List.{get_or-replicate, get_or_past}
use Rattle.routes.proofs.reach.Reach.new.Goals as goal

pub invariant_of-result : goal.invariant_of-result
invariant_of-result c = record {
  low = λ p. ⊎_elim (λ lt. omega (arith, get_or-replicate {A = ℕ} 65 p 0 0 lt)) (λ le. omega (arith, get_or_past {X = ℕ} (replicate 65 0) p 0 le)) (cases_lt p 65);
}
