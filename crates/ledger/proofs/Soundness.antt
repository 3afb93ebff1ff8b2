-- Every finding is sound.
use Rattle.std.proofs.Common.{◌≡◌, ℕ, List, sym, subst, arith}
use Rattle.std.proofs.lemmas.Bool.{ltb-false}
use Rattle.exact.specs.Fractions.{Fraction}
use Rattle.network.specs.declared.CaseData.{CaseData}
use Rattle.network.specs.declared.Element.{Element}
use Rattle.network.specs.Ready.{Ready}
use Rattle.network.specs.Refusals.{accepted}
use Rattle.network.proofs.First.{given_is}
use Rattle.sheet.specs.Sheet.{sheet, first_thin}
use Rattle.sheet.proofs.Crowds.{everyone_arrives}
use Rattle.verdicts.specs.declared.Finding.{Finding}
use Rattle.verdicts.proofs.Judged.{meets_is_true, exceeds_is_true, undecided_is_true}
use Rattle.verdicts.specs.Laws.{Between}
use Rattle.ways.specs.Routes.{Slowest}
use Rattle.ways.specs.Ends.{lower_end, upper_end}
use Rattle.ways.specs.Facts.{Facts}
use Rattle.ways.proofs.Bounds.{none_above, one_reaches, slowest_exists, slowest_between, ends_close}
use Rattle.ledger.specs.declared.Stage.TheVariants.{Closed}
use Rattle.ledger.specs.Books.{Book, Kept, finding}
use Rattle.ledger.specs.Ledger.{Ledger, Request, setting, entering, altering, striking, closing, reopening, assessing, found, case_or, sentences, gives, reply}
use Rattle.ledger.specs.Sound.{Sound, SoundReply, EveryRunIsSound}
use Rattle.ledger.specs.Reach.{LawfulLedger}
use Rattle.ledger.proofs.SheetFacts.{sheet_facts}
use Rattle.ledger.proofs.Reaches.{every_run_is_lawful, stage_is}

module _ (b : Book) (c : CaseData) (es : List Element) (ready : Ready es) (facts : Facts es (sheet b.tables es)) where
  between : (t : Fraction) → Slowest es (sheet b.tables es) t → Between (lower_end es (sheet b.tables es)) t (upper_end es (sheet b.tables es))
  between t s = let k = slowest_between es (sheet b.tables es) ready facts t s in record { proper = k.0; low = k.1; high = k.2 }

  pub finding_sound : Sound b c es (finding b c es)
  unfolding finding
  finding_sound =
      let ls = sheet b.tables es in
      let l = lower_end es ls in
      let u = upper_end es ls in
      record {
        none_above = none_above es ls ready facts;
        one_reaches = one_reaches es ls ready facts;
        close_together = ends_close es ls ready facts;
        slowest = slowest_exists es ls ready facts;
        meets = λ t s e. meets_is_true b.rules c l u t (between t s) e;
        exceeds = λ t s e k. exceeds_is_true b.rules c l u t (between t s) e k;
        undecided = λ t s e. undecided_is_true b.rules c l u t (between t s) (ends_close es ls ready facts) e;
        everyone = everyone_arrives b.tables es ready;
      }

-- an assessment that is accepted, of a ledger that is lawful
module _ (l : Ledger) (ok : LawfulLedger l) (b : Book) (k : ℕ) (kept : Kept b) where
  pub accepted_sound : (f : Finding) → reply l (assessing b k) ≡ accepted (found f) → Sound b (case_or l.case) l.elements f
  unfolding reply
  accepted_sound f e =
      let g = given_is (sentences l (assessing b k)) (gives l (assessing b k)) (found f) (sym e) in
      let closed = stage_is l.stage Closed g.1.0 in
      let ready = (ok.closed closed).ready in
      let none : first_thin (sheet b.tables l.elements) 0 ≡ 0 = omega (arith, ltb-false 0 (first_thin (sheet b.tables l.elements) 0) g.1.1.1.0) in
      let same : finding b (case_or l.case) l.elements ≡ f = found_same g.0 in
      subst (Sound b (case_or l.case) l.elements) same (finding_sound b (case_or l.case) l.elements ready (sheet_facts b.tables l.elements kept.lawful ready none))
    where
      found_same : found f ≡ found (finding b (case_or l.case) l.elements) → finding b (case_or l.case) l.elements ≡ f
      found_same q = cc

pub reply_sound : (l : Ledger) → LawfulLedger l → (q : Request) → SoundReply l q (reply l q)
reply_sound l ok (setting c) = tt
reply_sound l ok (entering d) = tt
reply_sound l ok (altering n d) = tt
reply_sound l ok (striking n) = tt
reply_sound l ok closing = tt
reply_sound l ok reopening = tt
reply_sound l ok (assessing b k) = λ kept f e. accepted_sound l ok b k kept f e

pub every_run_is_sound : EveryRunIsSound
every_run_is_sound h l q r = reply_sound l (every_run_is_lawful h l r) q
