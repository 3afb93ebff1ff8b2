-- The calls that name an element, where they are accepted: what the study then holds is lawful, and follows the ledger.
use Rattle.std.proofs.Common.{◌≡◌, ℕ, ◌-◌, List, [], ◌∷◌, ◌∙◌}
use Rattle.std.specs.List.{remove}
use Rattle.std.specs.Prelude.{set as put_at}
use Rattle.network.specs.declared.Draft.{Draft}
use Rattle.network.specs.declared.Element.{Element}
use Rattle.network.specs.Refusals.{accepted}
use Rattle.network.specs.Sentences.{first_true}
use Rattle.network.specs.Checks.{element_of, element_sentences}
use Rattle.ledger.specs.declared.Stage.TheVariants.{Open}
use Rattle.ledger.specs.Ledger.{Request, nothing, ledger_with, altering, striking, number_sentence}
use Rattle.ledger.specs.Reach.{LawfulLedger}
use Rattle.ledger.proofs.Answering.{altering_answer, striking_answer}
use Rattle.study.specs.declared.Study.{Study}
use Rattle.study.specs.Studies.{ledger_of, FollowsLedger}
use Rattle.study.proofs.Following.{accepts, stays_lawful}
use Rattle.study.proofs.Writing.{altered, struck}

-- the study s may come to hold these elements by the call q
abbrev pub ComesTo : Study → Request → List Element → Type 0
ComesTo s q es = ∥ LawfulLedger (ledger_with s.stage s.case es) ∥₁ × ((t : Study) → ledger_of t ≡ ledger_with s.stage s.case es → FollowsLedger s q (accepted nothing) t)

module _ (s : Study) (is_open : s.stage ≡ Open) (n i : ℕ) (there : accepted i ≡ first_true (number_sentence (ledger_of s).elements n ∷ []) (n - 1)) where
  pub strikes : (es : List Element) → es ≡ remove (ledger_of s).elements i → ComesTo s (striking n) es
  strikes es w =
      let e = striking_answer (ledger_of s) is_open n _ there in
      let m = struck (ledger_of s) es n i there w in
      (stays_lawful s (striking n) e _ m, λ t h. accepts s (striking n) e t (h ∙ m))

  pub alters : (d : Draft) (x : Element) → accepted x ≡ first_true (element_sentences d n) (element_of d) → (es : List Element) → es ≡ put_at (ledger_of s).elements i x → ComesTo s (altering n d) es
  alters d x passed es w =
      let e = altering_answer (ledger_of s) is_open n d i there _ passed in
      let m = altered (ledger_of s) es d n x passed n i there w in
      (stays_lawful s (altering n d) e _ m, λ t h. accepts s (altering n d) e t (h ∙ m))
