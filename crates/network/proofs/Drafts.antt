-- A draft and the element that it describes.
use Rattle.std.proofs.Common.{◌≡◌, ℕ, Result, sym, subst, MatchResult}
use Rattle.std.proofs.lemmas.Result.{MatchResult-weaker}
use Rattle.network.specs.declared.Refusal.{Refusal}
use Rattle.network.specs.declared.CaseData.{CaseData}
use Rattle.network.specs.declared.Draft.{Draft}
use Rattle.network.specs.declared.Element.{Element}
use Rattle.network.specs.Refusals.{told}
use Rattle.network.specs.Sentences.{first_true}
use Rattle.network.specs.Checks.{element_of, element_sentences, case_sentences}
use Rattle.network.specs.Lawful.{LawfulElement, LawfulDraft, LawfulCase}
use Rattle.network.proofs.First.{by_result}
use Rattle.network.proofs.Rules.{not_outside, lawful_element, element_passes, lawful_case, case_passes}

module _ (d : Draft) (n : ℕ) where
  pub exactly_lawful : (r : Result Element Refusal) → told r ≡ first_true (element_sentences d n) (element_of d) → MatchResult r LawfulElement (λ _. LawfulDraft d → ⊥)
  exactly_lawful r e =
      MatchResult-weaker r (by_result r (element_sentences d n) (element_of d) e)
      (λ x h. subst LawfulElement (sym h.0) (lawful_element (element_of d) n h.1.1))
      (λ y h l. h (not_outside 1 4 d.kind l.known, element_passes (element_of d) n l.lawful))

pub exactly_lawful_case : (c : CaseData) (r : Result (Unit {0}) Refusal) → told r ≡ first_true (case_sentences c) tt → MatchResult r (λ _. LawfulCase c) (λ _. LawfulCase c → ⊥)
exactly_lawful_case c r e =
    MatchResult-weaker r (by_result r (case_sentences c) tt e) (λ x h. lawful_case c h.1) (λ y h l. h (case_passes c l))
