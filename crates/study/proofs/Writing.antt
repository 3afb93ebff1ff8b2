-- What the table is after a write, as the ledger that is done.
use Rattle.std.proofs.Common.{◌≡◌, ℕ, ◌-◌, List, [], ◌∷◌, ◌++◌, set as put_at, ap, ◌∙◌}
use Rattle.std.specs.List.{remove}
use Rattle.network.specs.declared.Draft.{Draft}
use Rattle.network.specs.declared.Element.{Element}
use Rattle.network.specs.Refusals.{accepted}
use Rattle.network.specs.Sentences.{first_true}
use Rattle.network.specs.Checks.{element_of, element_sentences}
use Rattle.network.proofs.First.{given_is}
use Rattle.ledger.specs.Ledger.{Ledger, ledger_with, entering, altering, striking, number_sentence, done}

module _ (l : Ledger) (es : List Element) where
  -- an element that passed, under the number k
  module _ (d : Draft) (k : ℕ) (x : Element) (passed : accepted x ≡ first_true (element_sentences d k) (element_of d)) where
    is_described : x ≡ element_of d
    is_described = (given_is (element_sentences d k) (element_of d) x passed).0

    pub entered : es ≡ l.elements ++ x ∷ [] → ledger_with l.stage l.case es ≡ done l (entering d)
    entered e = ap (ledger_with l.stage l.case) (e ∙ ap (λ y. l.elements ++ y ∷ []) is_described)

    pub altered : (n i : ℕ) → accepted i ≡ first_true (number_sentence l.elements n ∷ []) (n - 1) → es ≡ put_at l.elements i x
        → ledger_with l.stage l.case es ≡ done l (altering n d)
    altered n i there e =
        let at = (given_is (number_sentence l.elements n ∷ []) (n - 1) i there).0 in
        ap (ledger_with l.stage l.case) (e ∙ ap (put_at l.elements i) is_described ∙ ap (λ j. put_at l.elements j (element_of d)) at)

  pub struck : (n i : ℕ) → accepted i ≡ first_true (number_sentence l.elements n ∷ []) (n - 1) → es ≡ remove l.elements i
      → ledger_with l.stage l.case es ≡ done l (striking n)
  struck n i there e =
      let at = (given_is (number_sentence l.elements n ∷ []) (n - 1) i there).0 in
      ap (ledger_with l.stage l.case) (e ∙ ap (remove l.elements) at)
