-- An assessment of a closed study against the ledger.
use Rattle.std.proofs.Common.{◌≡◌, ℕ, ◌<◌, ◌≤◌, Bool, true, false, cond, eqb, ltb, List, [], ◌∷◌, ◌++◌, length, take, drop, replicate, Some, None, Option, sym, refl, ap, ◌∙◌, subst, inl, inr, arith}
use Rattle.std.proofs.lemmas.List.FromFn.{length-map-range_with_len}
use Rattle.std.proofs.lemmas.List.{length-replicate}
use Rattle.std.proofs.lemmas.Bool.{cond-true, cond-false, lt-ltb, le-ltb, ltb-false, eq-eqb, ne_eqb, cases_lt}
use Rattle.walking.specs.Curves.{Tables}
use Rattle.walking.specs.Laws.{Lawful}
use Rattle.network.specs.declared.CaseData.{CaseData}
use Rattle.network.specs.declared.Element.{Element}
use Rattle.network.specs.Tables.{listed}
use Rattle.network.specs.Refusals.{Answer, accepted, refused}
use Rattle.network.specs.Sentences.{says, first_true}
use Rattle.network.specs.Elements.{el}
use Rattle.network.specs.Ready.{Ready}
use Rattle.network.proofs.First.{pass, stop, giving, first_giving, given_is}
use Rattle.sheet.specs.declared.Line.{Line}
use Rattle.sheet.specs.Lines.{at, shown, no_line}
use Rattle.sheet.specs.Sheet.{sheet, lines, first_thin}
use Rattle.verdicts.specs.declared.Verdict.{Verdict}
use Rattle.verdicts.specs.declared.Finding.{Finding}
use Rattle.verdicts.specs.Verdicts.{verdict}
use Rattle.ways.specs.Ends.{lower_end, upper_end, governing}
use Rattle.worksheet.specs.Thin.{thin_sentences, worked_out}
use Rattle.routes.specs.Worksheets.{WorkedOut}
use Rattle.ledger.specs.declared.Stage.TheVariants.{Closed}
use Rattle.ledger.specs.Books.{Book, finding}
use Rattle.ledger.specs.Ledger.{Ledger, assessing, gives, thin_sentence, lines_by, case_or, Reply, reply, by_reply, next, written}
use Rattle.ledger.proofs.Answering.{in_stage}
use Rattle.ledger.proofs.SheetFacts.{sheet_facts}
use Rattle.ledger.specs.Reach.{Assessable}
use Rattle.ledger.proofs.Standing.{ledger_stands}
use Rattle.study.specs.declared.Study.{Study}
use Rattle.study.specs.Studies.{ledger_of, wrote, FollowsLedger}
use Rattle.study.proofs.Following.{follows}

lines_long : (t : Tables) (es : List Element) → length (lines t es) ≡ length es
unfolding lines
lines_long t es = length-map-range_with_len (λ i. shown (el es i) (at (sheet t es) i)) 0 (length es)

-- as many lines are written as there are elements
worked_long : (t : Tables) (es : List Element) → length (worked_out t es) ≡ length es
worked_long t es = by (eqb (first_thin (sheet t es) 0) 0)
  where
    by : (b : Bool) → length (cond b (lines t es) (replicate (length es) no_line)) ≡ length es
    by true = lines_long t es
    by false = length-replicate (length es) no_line

take_front : (v w : List Line) → take (length v) (v ++ w) ≡ v
take_front [] w = refl
take_front (x ∷ v) w = ap (λ u. x ∷ u) (take_front v w)

-- where no flow is thin, they are the worksheet
pub none_thin_worked : (t : Tables) (es : List Element) → first_thin (sheet t es) 0 ≡ 0 → worked_out t es ≡ lines t es
none_thin_worked t es z = cond-true _ _ _ (eq-eqb _ _ z)

module _ (l : Ledger) (closed : l.stage ≡ Closed) (b : Book) (before : List Line) where
  pub short_reply : length before < length l.elements → refused 13 0 ≡ reply l (assessing b (length before))
  short_reply h =
      stop (says (ltb (length before) (length l.elements)) 13 0) (thin_sentence b l.elements ∷ []) (gives l (assessing b (length before))) (lt-ltb _ _ h)
      ∙ in_stage l (assessing b (length before)) closed

  pub short_lines : length before < length l.elements → before ≡ wrote (written l (assessing b (length before))) before
  unfolding written
  short_lines h = ap (λ a. wrote (lines_by a b l.elements) before) (short_reply h)

  module _ (room : length l.elements ≤ length before) where
    thin_reply : first_true (thin_sentences b.tables l.elements) (gives l (assessing b (length before))) ≡ reply l (assessing b (length before))
    thin_reply =
        pass (says (ltb (length before) (length l.elements)) 13 0) (thin_sentence b l.elements ∷ []) (gives l (assessing b (length before))) (le-ltb _ _ room)
        ∙ in_stage l (assessing b (length before)) closed

    -- whatever the worksheet's own answer is
    pub worked_reply : (a : Answer (Unit {0})) → a ≡ first_true (thin_sentences b.tables l.elements) tt → giving (gives l (assessing b (length before))) a ≡ reply l (assessing b (length before))
    worked_reply a e = ap (giving (gives l (assessing b (length before)))) e ∙ first_giving (thin_sentences b.tables l.elements) tt (gives l (assessing b (length before))) ∙ thin_reply

    written_worked : written l (assessing b (length before)) ≡ worked_out b.tables l.elements
    unfolding written
    written_worked =
        let n = first_thin (sheet b.tables l.elements) 0 in
        let g = gives l (assessing b (length before)) in
        elim (cases_lt 0 n) [
          | inl some ↦
              let e = stop (thin_sentence b l.elements) [] g (lt-ltb 0 n some) ∙ thin_reply in
              ap (λ a. lines_by a b l.elements) (sym e) ∙ sym (cond-false (eqb n 0) _ _ (ne_eqb n 0 (λ z. omega arith)))
          | inr none ↦
              let e = pass (thin_sentence b l.elements) [] g (le-ltb 0 n none) ∙ thin_reply in
              ap (λ a. lines_by a b l.elements) (sym e) ∙ sym (cond-true (eqb n 0) _ _ (eq-eqb n 0 (omega arith)))
        ]

    pub worked_lines : (after : List Line) → after ≡ worked_out b.tables l.elements ++ drop (length l.elements) before → after ≡ wrote (written l (assessing b (length before))) before
    worked_lines after e =
        e
        ∙ ap (λ n. worked_out b.tables l.elements ++ drop n before) (sym (worked_long b.tables l.elements))
        ∙ ap (λ v. wrote v before) (sym written_worked)

-- an accepted worksheet has no thin flow
pub accepted_thick : (t : Tables) (es : List Element) → ◌≡◌ {A = Answer (Unit {0})} (accepted tt) (first_true (thin_sentences t es) tt) → first_thin (sheet t es) 0 ≡ 0
accepted_thick t es e = let g = given_is (thin_sentences t es) tt tt e in omega (arith, ltb-false 0 (first_thin (sheet t es) 0) g.1.0)

pub worked_facts : (t : Tables) (es : List Element) (before after : List Line) → Lawful t → Ready es → first_thin (sheet t es) 0 ≡ 0 → after ≡ worked_out t es ++ drop (length es) before → WorkedOut t es after
worked_facts t es before after lawful ready none e = record {
  ready = ready;
  facts = sheet_facts t es lawful ready none;
  same = ap (take (length es)) (e ∙ ap (λ v. v ++ drop (length es) before) (none_thin_worked t es none)) ∙ front;
}
  where
    front : take (length es) (lines t es ++ drop (length es) before) ≡ lines t es
    front = ap (λ n. take n (lines t es ++ drop (length es) before)) (sym (lines_long t es)) ∙ take_front (lines t es) (drop (length es) before)

-- what a closed study keeps
module _ (s : Study) (closed : s.stage ≡ Closed) where
  standing : Assessable (ledger_of s)
  standing = (ledger_stands (ledger_of s) s.lawful).closed closed

  pub ready_now : (xs : List Element) → xs ≡ listed s.elements → Ready xs
  ready_now xs e = subst Ready (sym e) standing.ready

  pub case_now : s.case ≡ None → ⊥
  case_now e = let k = standing.case_set in let q = sym e ∙ k.1 in cc

-- a finding, from its parts
pub found_is : (b : Book) (c : CaseData) (o : Option CaseData) (es : List Element) (lo up gov : ℕ) (v : Verdict) → o ≡ Some c
    → lo ≡ lower_end es (sheet b.tables es) → up ≡ upper_end es (sheet b.tables es) → gov ≡ governing es (sheet b.tables es) → v ≡ verdict b.rules c lo up
    → ◌≡◌ {A = Finding} (record { verdict = v; time = record { lower = lo; upper = up }; governing = gov }) (finding b (case_or o) es)
unfolding finding
found_is b c o es lo up gov v eo el eu eg ev =
    let w = ev ∙ ap (λ x. verdict b.rules c x up) el ∙ ap (λ y. verdict b.rules c (lower_end es (sheet b.tables es)) y) eu ∙ ap (λ k. verdict b.rules k (lower_end es (sheet b.tables es)) (upper_end es (sheet b.tables es))) (sym (ap case_or eo)) in
    λ i. record { verdict = w i; time = record { lower = el i; upper = eu i }; governing = eg i }

-- an assessment leaves the study as it is
assess_stays : (l : Ledger) (b : Book) (k : ℕ) → l ≡ next l (assessing b k)
unfolding next
assess_stays l b k = same (reply l (assessing b k))
  where
    same : (a : Reply) → l ≡ by_reply a l l
    same (accepted g) = refl
    same (refused n p) = refl

pub assessed : (s : Study) (b : Book) (k : ℕ) (a : Reply) → a ≡ reply (ledger_of s) (assessing b k) → FollowsLedger s (assessing b k) a s
assessed s b k a e = follows s (assessing b k) a s e (assess_stays (ledger_of s) b k) (λ _. refl)
