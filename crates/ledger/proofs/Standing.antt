-- What a study keeps in its type is known as a fact that has no proof to show; here the proofs come back.
use Rattle.std.proofs.Common.{◌≡◌, ℕ, Some, None, Option, refl, arith}
use mathlib.Core.Logic.{∥∥₁_elim, ∥∥₁_map}
use mathlib.Core.HLevel.{⊥_prop}
use native.Mathlib.Bridge.{le_prop}
use Rattle.network.specs.declared.CaseData.{CaseData}
use Rattle.network.specs.Checks.{case_sentences}
use Rattle.network.specs.Lawful.{LawfulCase}
use Rattle.network.proofs.Rules.{lawful_case, case_passes}
use Rattle.network.proofs.Standing.{none_prop, elements_stand, ready_stands}
use Rattle.ledger.specs.Ledger.{Ledger}
use Rattle.ledger.specs.Reach.{Assessable, LawfulLedger}

case_stands : (c : CaseData) → ∥ LawfulCase c ∥₁ → LawfulCase c
case_stands c t = lawful_case c (∥∥₁_elim t (none_prop (case_sentences c)) (case_passes c))

some_case : (o : Option CaseData) → ∥ ((c : CaseData) × (o ≡ Some c)) ∥₁ → (c : CaseData) × (o ≡ Some c)
some_case None t = absurd (∥∥₁_elim t ⊥_prop (λ k. none_some k.0 k.1))
  where
    none_some : (c : CaseData) → None ≡ Some c → ⊥
    none_some c e = let z : ◌≡◌ {A = ℕ} 0 1 = cc in omega arith
some_case (Some c) t = (c, refl)

assessable_stands : (l : Ledger) → ∥ Assessable l ∥₁ → Assessable l
assessable_stands l t = record { case_set = some_case l.case (∥∥₁_map t (λ a. a.case_set)); ready = ready_stands (∥∥₁_map t (λ a. a.ready)) }

pub ledger_stands : (l : Ledger) → ∥ LawfulLedger l ∥₁ → LawfulLedger l
ledger_stands l t = record {
  few = ∥∥₁_elim t le_prop (λ k. k.few);
  elements_lawful = elements_stand l.elements (∥∥₁_map t (λ k. k.elements_lawful));
  case_lawful = λ c e. case_stands c (∥∥₁_map t (λ k. k.case_lawful c e));
  closed = λ e. assessable_stands l (∥∥₁_map t (λ k. k.closed e));
}
