-- What a finding says, and that every finding of every run says it truly.
use Rattle.std.specs.Prelude.{◌≡◌, ℕ, ◌+◌, ◌*◌, ◌≤◌, List, length}
use Rattle.exact.specs.Fractions.{Fraction, ◌≤ᶠ◌, whole, plus}
use Rattle.exact.specs.Sums.{sum_where}
use Rattle.network.specs.declared.CaseData.{CaseData}
use Rattle.network.specs.declared.Element.{Element}
use Rattle.network.specs.Refusals.{accepted}
use Rattle.network.specs.Elements.{comes, aboard}
use Rattle.sheet.specs.Lines.{at}
use Rattle.sheet.specs.Sheet.{sheet}
use Rattle.verdicts.specs.declared.Finding.{Finding}
use Rattle.verdicts.specs.declared.Verdict.TheVariants.{Meets, Exceeds, Undecided}
use Rattle.verdicts.specs.Verdicts.{Keeps, margin, less}
use Rattle.ways.specs.Routes.{Used, time, Slowest}
use Rattle.ledger.specs.Books.{Book, Kept}
use Rattle.ledger.specs.Ledger.{Ledger, Request, setting, entering, altering, striking, closing, reopening, assessing, Reply, found, case_or, reply}
use Rattle.ledger.specs.Runs.{Event, Run}

-- a finding, of a network and its case data, by a rule book
pub record Sound (b : Book) (c : CaseData) (es : List Element) (f : Finding) : Type 0 where
  -- no used route's exact time is above the upper end, and one's is at least the lower end
  pub none_above : (r : List ℕ) → Used es (sheet b.tables es) r → (time es (sheet b.tables es) r).exact ≤ᶠ whole f.time.upper
  pub one_reaches : (r : List ℕ) × Used es (sheet b.tables es) r × (whole f.time.lower ≤ᶠ (time es (sheet b.tables es) r).exact)
  -- the ends are a thousandth of the lower and a millisecond apart at most
  pub close_together : 1000 * f.time.upper ≤ 1001 * f.time.lower + 1000000
  -- there is a slowest time
  pub slowest : (t : Fraction) × Slowest es (sheet b.tables es) t
  -- and each verdict is true of it: it keeps the limit, it does not, or it does less the margin and does not with it
  pub meets : (t : Fraction) → Slowest es (sheet b.tables es) t → f.verdict ≡ Meets → Keeps b.rules c t
  pub exceeds : (t : Fraction) → Slowest es (sheet b.tables es) t → f.verdict ≡ Exceeds → Keeps b.rules c t → ⊥
  pub undecided : (t : Fraction) → Slowest es (sheet b.tables es) t → f.verdict ≡ Undecided
      → Keeps b.rules c (less t (margin f.time.lower)) × (Keeps b.rules c (plus t (margin f.time.lower)) → ⊥)
  -- the persons who arrive at the assembly station are those aboard
  pub everyone : sum_where (length es) (comes es 0) (λ i. (at (sheet b.tables es) i).persons) ≡ aboard es

abbrev pub SoundReply : Ledger → Request → Reply → Type 0
SoundReply l (setting c) a = Unit {0}
SoundReply l (entering d) a = Unit {0}
SoundReply l (altering n d) a = Unit {0}
SoundReply l (striking n) a = Unit {0}
SoundReply l closing a = Unit {0}
SoundReply l reopening a = Unit {0}
SoundReply l (assessing b k) a = Kept b → (f : Finding) → a ≡ accepted (found f) → Sound b (case_or l.case) l.elements f

-- whatever was called before, in whatever succession, the next answer is sound
abbrev pub EveryRunIsSound : Type 0
EveryRunIsSound = (h : List Event) (l : Ledger) (q : Request) → Run h l → SoundReply l q (reply l q)
