-- Every call keeps a ledger lawful, so every run leads to a lawful one.
use Rattle.std.proofs.Common.{◌≡◌, ℕ, suc, ◌+◌, ◌-◌, ◌<◌, false, not, length, take, drop, is_some, Some, None, Option, sym, refl, subst, arith, length-set}
use Rattle.std.proofs.lemmas.Bool.{leb-false}
use Rattle.std.proofs.lemmas.List.{length_push}
use Rattle.std.proofs.lemmas.List.Edits.{length-remove}
use Rattle.std.proofs.ByRecursion.{All-push, All-set, All-append, All-take, All-drop}
use Rattle.network.specs.declared.CaseData.{CaseData}
use Rattle.network.specs.declared.Draft.{Draft}
use Rattle.network.specs.Checks.{element_of}
use Rattle.network.specs.Elements.{aboard}
use Rattle.network.specs.Lawful.{LawfulElement, LawfulCase}
use Rattle.network.proofs.First.{NoneTrue, first_keeps}
use Rattle.network.proofs.Rules.{inside, lawful_element, lawful_case}
use Rattle.network.proofs.Points.{tied}
use Rattle.ledger.specs.declared.Stage.{Stage}
use Rattle.ledger.specs.declared.Stage.TheVariants.{Open, Closed}
use Rattle.ledger.specs.Ledger.{Ledger, new_ledger, Request, setting, entering, altering, striking, closing, reopening, assessing, same_stage, sentences, gives, reply, done, by_reply, next}
use Rattle.ledger.specs.Runs.{start, further}
use Rattle.ledger.specs.Reach.{Assessable, LawfulLedger, EveryRunIsLawful}

pub stage_is : (s t : Stage) → not (same_stage s t) ≡ false → s ≡ t
stage_is Open Open e = refl
stage_is Open Closed e = absurd cc
stage_is Closed Open e = absurd cc
stage_is Closed Closed e = refl

case_there : (o : Option CaseData) → not (is_some o) ≡ false → (c : CaseData) × (o ≡ Some c)
case_there None e = absurd cc
case_there (Some c) e = (c, refl)

module _ (l : Ledger) (ok : LawfulLedger l) where
  -- an open ledger has nothing to show of a closed one
  not_closed : (m : Ledger) → not (same_stage l.stage Open) ≡ false → l.stage ≡ Closed → Assessable m
  not_closed m e q = let o = stage_is l.stage Open e in absurd cc

  set_keeps : (c : CaseData) → NoneTrue (sentences l (setting c)) → LawfulLedger (done l (setting c))
  set_keeps c f = record {
    few = ok.few;
    elements_lawful = ok.elements_lawful;
    case_lawful = λ d e. let q : c ≡ d = cc in subst LawfulCase q (lawful_case c f.1);
    closed = not_closed _ f.0;
  }

  enter_keeps : (d : Draft) → NoneTrue (sentences l (entering d)) → LawfulLedger (done l (entering d))
  enter_keeps d f = let room : length l.elements < 128 = leb-false 128 (length l.elements) f.1.0 in record {
    few = simp length_push (omega arith);
    elements_lawful = All-push LawfulElement l.elements (element_of d) ok.elements_lawful (lawful_element (element_of d) (length l.elements + 1) f.1.1.1);
    case_lawful = ok.case_lawful;
    closed = not_closed _ f.0;
  }

  alter_keeps : (n : ℕ) (d : Draft) → NoneTrue (sentences l (altering n d)) → LawfulLedger (done l (altering n d))
  alter_keeps n d f = record {
    few = simp length-set ok.few;
    elements_lawful = All-set LawfulElement l.elements (n - 1) (element_of d) (lawful_element (element_of d) n f.1.1.1) ok.elements_lawful;
    case_lawful = ok.case_lawful;
    closed = not_closed _ f.0;
  }

  strike_keeps : (n : ℕ) → NoneTrue (sentences l (striking n)) → LawfulLedger (done l (striking n))
  strike_keeps n f = let there = inside 1 (length l.elements) n f.1.0 in record {
    few = omega (arith, length-remove l.elements (n - 1) (omega arith), ok.few);
    elements_lawful =
        All-append LawfulElement (take (n - 1) l.elements) (drop (suc (n - 1)) l.elements)
        (All-take LawfulElement (n - 1) l.elements ok.elements_lawful) (All-drop LawfulElement (suc (n - 1)) l.elements ok.elements_lawful);
    case_lawful = ok.case_lawful;
    closed = not_closed _ f.0;
  }

  close_keeps : NoneTrue (sentences l closing) → LawfulLedger (done l closing)
  close_keeps f = let persons = inside 1 8000 (aboard l.elements) f.1.1.0 in record {
    few = ok.few;
    elements_lawful = ok.elements_lawful;
    case_lawful = ok.case_lawful;
    closed = λ _. record {
      case_set = case_there l.case f.1.0;
      ready = record {
        few = ok.few;
        lawful = ok.elements_lawful;
        aboard_some = persons.0;
        aboard_most = persons.1;
        tied = tied l.elements f.1.1.1;
      };
    };
  }

  reopen_keeps : LawfulLedger (done l reopening)
  reopen_keeps = record {
    few = ok.few;
    elements_lawful = ok.elements_lawful;
    case_lawful = ok.case_lawful;
    closed = λ e. absurd cc;
  }

  done_lawful : (q : Request) → NoneTrue (sentences l q) → LawfulLedger (done l q)
  done_lawful (setting c) f = set_keeps c f
  done_lawful (entering d) f = enter_keeps d f
  done_lawful (altering n d) f = alter_keeps n d f
  done_lawful (striking n) f = strike_keeps n f
  done_lawful closing f = close_keeps f
  done_lawful reopening f = reopen_keeps
  done_lawful (assessing b k) f = ok

  pub next_lawful : (q : Request) → LawfulLedger (next l q)
  unfolding next reply
  next_lawful q = first_keeps (sentences l q) (gives l q) (λ a. LawfulLedger (by_reply a l (done l q))) (λ n p. ok) (done_lawful q)

pub new_lawful : LawfulLedger new_ledger
new_lawful = record {
  few = omega arith;
  elements_lawful = tt;
  case_lawful = λ c e. absurd cc;
  closed = λ e. absurd cc;
}

pub every_run_is_lawful : EveryRunIsLawful
every_run_is_lawful _ _ start = new_lawful
every_run_is_lawful _ _ (further {h = h} {l = l} {e = e} r a m) = subst LawfulLedger (sym m) (next_lawful l (every_run_is_lawful h l r) e.request)
