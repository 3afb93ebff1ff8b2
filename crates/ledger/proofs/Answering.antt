-- What the checks inside a call come to as the ledger's answer, in the stage that the call needs.
use Rattle.std.proofs.Common.{◌≡◌, ℕ, ◌+◌, ◌-◌, ◌<◌, ◌≤◌, true, false, not, leb, List, [], ◌∷◌, length, is_some, sym, refl, ap, ◌∙◌}
use Rattle.std.proofs.lemmas.Bool.{le-leb, lt-leb}
use Rattle.network.specs.declared.CaseData.{CaseData}
use Rattle.network.specs.declared.Draft.{Draft}
use Rattle.network.specs.declared.Element.{Element}
use Rattle.network.specs.Refusals.{Answer, accepted, refused}
use Rattle.network.specs.Sentences.{Sentence, says, first_true, outside}
use Rattle.network.specs.Checks.{element_of, element_sentences, case_sentences}
use Rattle.network.specs.Elements.{aboard}
use Rattle.network.specs.Points.{point_sentences}
use Rattle.network.proofs.First.{pass, stop, giving, first_giving, given_is, stops_early, goes_on}
use Rattle.ledger.specs.declared.Stage.{Stage}
use Rattle.ledger.specs.declared.Stage.TheVariants.{Open, Closed}
use Rattle.ledger.specs.Ledger.{Ledger, Request, setting, entering, altering, striking, closing, nothing, gives, needed, same_stage, number_sentence, later_sentences, reply}

same : (s : Stage) → same_stage s s ≡ true
same Open = refl
same Closed = refl

module _ (l : Ledger) (q : Request) where
  pub out_of_stage : same_stage l.stage (needed q) ≡ false → refused 1 0 ≡ reply l q
  unfolding reply
  out_of_stage e = stop (says (not (same_stage l.stage (needed q))) 1 0) (later_sentences l q) (gives l q) (ap not e)

  pub in_stage : l.stage ≡ needed q → first_true (later_sentences l q) (gives l q) ≡ reply l q
  unfolding reply
  in_stage e =
      pass (says (not (same_stage l.stage (needed q))) 1 0) (later_sentences l q) (gives l q)
      (ap (λ x. not (same_stage x (needed q))) e ∙ ap not (same (needed q)))

-- what a check answered, in a call that hands nothing back
passed_on : {A : Type 0} (a : Answer A) (ss : List Sentence) (given : A) → a ≡ first_true ss given → giving nothing a ≡ first_true ss nothing
passed_on a ss given e = ap (giving nothing) e ∙ first_giving ss given nothing

module _ (l : Ledger) (open-now : l.stage ≡ Open) where
  pub setting_answer : (c : CaseData) (a : Answer (Unit {0})) → a ≡ first_true (case_sentences c) tt → giving nothing a ≡ reply l (setting c)
  setting_answer c a e = passed_on a (case_sentences c) tt e ∙ in_stage l (setting c) open-now

  pub entering_full : (d : Draft) → 128 ≤ length l.elements → refused 3 0 ≡ reply l (entering d)
  entering_full d full =
      stop (says (leb 128 (length l.elements)) 3 0) (element_sentences d (length l.elements + 1)) nothing (le-leb 128 (length l.elements) full)
      ∙ in_stage l (entering d) open-now

  pub entering_answer : (d : Draft) (n : ℕ) → n ≡ length l.elements → n < 128
      → (a : Answer Element) → a ≡ first_true (element_sentences d (n + 1)) (element_of d) → giving nothing a ≡ reply l (entering d)
  entering_answer d n is room a e =
      passed_on a (element_sentences d (n + 1)) (element_of d) e
      ∙ ap (λ k. first_true (element_sentences d (k + 1)) nothing) is
      ∙ pass (says (leb 128 (length l.elements)) 3 0) (element_sentences d (length l.elements + 1)) nothing
      (ap (leb 128) (sym is) ∙ lt-leb 128 n room)
      ∙ in_stage l (entering d) open-now

  -- of the element with the number n
  module _ (n : ℕ) where
    abbrev by_number : Answer ℕ
    by_number = first_true (number_sentence l.elements n ∷ []) (n - 1)

    pub altering_absent : (d : Draft) (k p : ℕ) → refused k p ≡ by_number → refused k p ≡ reply l (altering n d)
    altering_absent d k p e =
        stops_early (number_sentence l.elements n ∷ []) (element_sentences d n) (n - 1) nothing k p e ∙ in_stage l (altering n d) open-now

    pub altering_answer : (d : Draft) (i : ℕ) → accepted i ≡ by_number
        → (a : Answer Element) → a ≡ first_true (element_sentences d n) (element_of d) → giving nothing a ≡ reply l (altering n d)
    altering_answer d i there a e =
        passed_on a (element_sentences d n) (element_of d) e
        ∙ goes_on (number_sentence l.elements n ∷ []) (element_sentences d n) nothing (given_is (number_sentence l.elements n ∷ []) (n - 1) i there).1
        ∙ in_stage l (altering n d) open-now

    pub striking_answer : (a : Answer ℕ) → a ≡ by_number → giving nothing a ≡ reply l (striking n)
    striking_answer a e = passed_on a (number_sentence l.elements n ∷ []) (n - 1) e ∙ in_stage l (striking n) open-now

  -- ---- closing, sentence after sentence

  unset : Sentence
  unset = says (not (is_some l.case)) 10 0

  crowded : Sentence
  crowded = says (outside 1 8000 (aboard l.elements)) 11 0

  pub closing_unset : is_some l.case ≡ false → refused 10 0 ≡ reply l closing
  unfolding unset crowded
  closing_unset e = stop unset (crowded ∷ point_sentences l.elements) nothing (ap not e) ∙ in_stage l closing open-now

  module _ (case_set : is_some l.case ≡ true) where
    set_on : first_true (crowded ∷ point_sentences l.elements) nothing ≡ reply l closing
    unfolding unset crowded
    set_on = pass unset (crowded ∷ point_sentences l.elements) nothing (ap not case_set) ∙ in_stage l closing open-now

    pub closing_count : outside 1 8000 (aboard l.elements) ≡ true → refused 11 0 ≡ reply l closing
    unfolding crowded
    closing_count e = stop crowded (point_sentences l.elements) nothing e ∙ set_on

    pub closing_points : outside 1 8000 (aboard l.elements) ≡ false
        → (a : Answer (Unit {0})) → a ≡ first_true (point_sentences l.elements) tt → giving nothing a ≡ reply l closing
    unfolding crowded
    closing_points few a e =
        passed_on a (point_sentences l.elements) tt e ∙ pass crowded (point_sentences l.elements) nothing few ∙ set_on
