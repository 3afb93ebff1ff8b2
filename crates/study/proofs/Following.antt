-- What a call's reply and writes come to against the ledger.
use Rattle.std.proofs.Common.{◌≡◌, List, [], true, false, Result, IsErrAnd, sym, refl, ap, ◌∙◌, subst}
use mathlib.Core.Logic.{∥∥₁_map}
use Rattle.std.proofs.lemmas.Bool.{false≢true}
use Rattle.std.proofs.lemmas.Result.{err_from_is_err_and}
use Rattle.network.specs.declared.Refusal.{Refusal}
use Rattle.network.specs.declared.Refusal.TheVariants.{WrongStage}
use Rattle.network.specs.Refusals.{accepted, refused, number_of, place_of}
use Rattle.sheet.specs.declared.Line.{Line}
use Rattle.ledger.specs.declared.Stage.TheVariants.{Open, Closed}
use Rattle.ledger.specs.Ledger.{Ledger, Request, setting, entering, altering, striking, closing, reopening, assessing, lines_by, Reply, Given, nothing, needed, same_stage, reply, done, by_reply, next, written}
use Rattle.ledger.specs.Runs.{event, further}
use Rattle.ledger.specs.Reach.{LawfulLedger}
use Rattle.ledger.specs.Sound.{SoundReply}
use Rattle.ledger.proofs.Answering.{out_of_stage}
use Rattle.ledger.proofs.Reaches.{next_lawful}
use Rattle.ledger.proofs.Soundness.{reply_sound}
use Rattle.ledger.proofs.Standing.{ledger_stands}
use Rattle.study.specs.declared.Study.{Study}
use Rattle.study.specs.Studies.{ledger_of, told_done, wrote, is_refused, FollowsLedger}

module _ (s : Study) (q : Request) where
  pub follows : (a : Reply) (t : Study) → a ≡ reply (ledger_of s) q → ledger_of t ≡ next (ledger_of s) q → (is_refused a ≡ true → t ≡ s) → FollowsLedger s q a t
  follows a t e m k = record {
    answered = e;
    moved = m;
    kept = k;
    run = λ h before. further before (ap (λ x. event q x (written (ledger_of s) q)) e) m;
    sound = subst (SoundReply (ledger_of s) q) (sym e) (reply_sound (ledger_of s) (ledger_stands (ledger_of s) s.lawful) q);
  }

  by : (a : Reply) → a ≡ reply (ledger_of s) q → by_reply a (ledger_of s) (done (ledger_of s) q) ≡ next (ledger_of s) q
  unfolding next
  by a e = ap (λ x. by_reply x (ledger_of s) (done (ledger_of s) q)) e

  pub refuses : (y : Refusal) → refused (number_of y) (place_of y) ≡ reply (ledger_of s) q → FollowsLedger s q (refused (number_of y) (place_of y)) s
  refuses y e = follows (refused (number_of y) (place_of y)) s e (by (refused (number_of y) (place_of y)) e) (λ _. refl)

  -- the same where a `?` hands the refusal on
  pub refuses_with : (r : Result (Unit {0}) Refusal) (y : Refusal) → IsErrAnd r (λ x. x ≡ y)
      → refused (number_of y) (place_of y) ≡ reply (ledger_of s) q → FollowsLedger s q (told_done r) s
  refuses_with r y is e = let p = err_from_is_err_and r is in rw (p.1, p.2) (refuses y e)

  -- in the stage that the call does not need
  wrong_stage : same_stage s.stage (needed q) ≡ false → FollowsLedger s q (refused 1 0) s
  wrong_stage e = refuses WrongStage (out_of_stage (ledger_of s) q e)

  pub closed_refuses : needed q ≡ Open → s.stage ≡ Closed → FollowsLedger s q (refused 1 0) s
  closed_refuses n e = wrong_stage (ap (λ x. same_stage x (needed q)) e ∙ ap (same_stage Closed) n)

  pub open_refuses : needed q ≡ Closed → s.stage ≡ Open → FollowsLedger s q (refused 1 0) s
  open_refuses n e = wrong_stage (ap (λ x. same_stage x (needed q)) e ∙ ap (same_stage Open) n)

  module _ (g : Given) (e : accepted g ≡ reply (ledger_of s) q) where
    pub accepts_with : (t : Study) → ledger_of t ≡ done (ledger_of s) q → FollowsLedger s q (accepted g) t
    accepts_with t m = follows (accepted g) t e (m ∙ by (accepted g) e) (λ x. absurd (false≢true x))

    -- and what is then held is lawful
    pub stays_lawful_with : (m : Ledger) → m ≡ done (ledger_of s) q → ∥ LawfulLedger m ∥₁
    stays_lawful_with m f = ∥∥₁_map s.lawful (λ ok. subst LawfulLedger (sym (f ∙ by (accepted g) e)) (next_lawful (ledger_of s) ok q))

  -- the same of a call that hands nothing back
  module _ (e : accepted nothing ≡ reply (ledger_of s) q) where
    pub accepts : (t : Study) → ledger_of t ≡ done (ledger_of s) q → FollowsLedger s q (accepted nothing) t
    accepts t m = accepts_with nothing e t m

    pub stays_lawful : (m : Ledger) → m ≡ done (ledger_of s) q → ∥ LawfulLedger m ∥₁
    stays_lawful m f = stays_lawful_with nothing e m f

-- a call in the wrong stage writes no lines
no_lines : (l : Ledger) (q : Request) → refused 1 0 ≡ reply l q → written l q ≡ []
unfolding written
no_lines l (setting c) e = refl
no_lines l (entering d) e = refl
no_lines l (altering n d) e = refl
no_lines l (striking n) e = refl
no_lines l closing e = refl
no_lines l reopening e = refl
no_lines l (assessing b k) e = ap (λ a. lines_by a b l.elements) (sym e)

pub unwritten : (l : Ledger) (q : Request) (lines : List Line) → refused 1 0 ≡ reply l q → lines ≡ wrote (written l q) lines
unwritten l q lines e = ap (λ new. wrote new lines) (sym (no_lines l q e))
