use Rattle.std.proofs.Common.{refl, rules, ◌<◌, ◌≤◌, ◌++◌, length, drop, ap, ◌∙◌, arith}
use Rattle.std.proofs.lemmas.Result.{err_from_is_err_and}
use Rattle.network.specs.Refusals.{accepted, refused, number_of, place_of}
use Rattle.network.specs.Sentences.{first_true}
use Rattle.worksheet.specs.Thin.{thin_sentences, worked_out}
use Rattle.ledger.specs.Books.{Book, finding}
use Rattle.ledger.specs.Ledger.{assessing, found, case_or}
use Rattle.study.specs.Studies.{ledger_of}
use Rattle.study.proofs.Following.{open_refuses, unwritten}
use Rattle.study.proofs.Assessments.{short_reply, short_lines, worked_reply, worked_lines, accepted_thick, worked_facts, ready_now, case_now, found_is, assessed}
use Rattle.study.proofs.Study.assess.Goals as goal

pub returns-in_default : goal.returns-in_default
returns-in_default g c =
    let l = ledger_of c.args.self.now in
    let b : Book = record { tables = g.B.WalkingTables.meaning c.args.book.now; rules = g.B.RuleBook.rules c.args.book.now } in
    let q = assessing b (length c.args.worksheet.now) in
    let refused_so = open_refuses c.args.self.now q refl (search rules) in
    record { follows = refused_so; worksheet = unwritten l q c.args.worksheet.now refused_so.answered }

pub returns-in_default-case : goal.returns-in_default-case
returns-in_default-case g c = absurd (case_now c.args.self.now c.in-Closed.is c.in_default-case.is)

pub returns-then-worksheet-elements : goal.returns-then-worksheet-elements
returns-then-worksheet-elements g c =
    let l = ledger_of c.args.self.now in
    let b : Book = record { tables = g.B.WalkingTables.meaning c.args.book.now; rules = g.B.RuleBook.rules c.args.book.now } in
    let short : length c.args.worksheet.now < length l.elements = omega (arith, ap length c.elements-elements.ensures.value) in
    let e = short_reply l c.in-Closed.is b c.args.worksheet.now short in
    record {
      follows = assessed c.args.self.now b (length c.args.worksheet.now) _ e;
      worksheet = short_lines l c.in-Closed.is b c.args.worksheet.now short;
    }

pub invariant_of-network : goal.invariant_of-network
invariant_of-network g c = record { ready = ∣ ready_now c.args.self.now c.in-Closed.is c.elements-elements.result.now c.elements-elements.ensures.value ∣₁ }

pub returns-in_err-work_out : goal.returns-in_err-work_out
returns-in_err-work_out g c =
    let l = ledger_of c.args.self.now in
    let t = g.B.WalkingTables.meaning c.args.book.now in
    let b : Book = record { tables = t; rules = g.B.RuleBook.rules c.args.book.now } in
    let before = c.args.worksheet.now in
    let same = c.elements-elements.ensures.value in
    let room : length l.elements ≤ length before = omega (arith, ap length same) in
    let y = c.in_err-work_out.field-0.0 in
    let e = worked_reply l c.in-Closed.is b before room (refused (number_of y) (place_of y)) (c.in_err-work_out.ensures.answered ∙ ap (λ x. first_true (thin_sentences t x) tt) same) in
    let p = err_from_is_err_and c.from_residual.result c.from_residual.ensures.1 in
    record {
      follows = rw (p.1, p.2) (assessed c.args.self.now b (length before) _ e);
      worksheet = worked_lines l c.in-Closed.is b before room c.work_out.new.sheet (c.in_err-work_out.ensures.written ∙ ap (λ x. worked_out t x ++ drop (length x) before) same);
    }

pub find_ends-ends-requires : goal.find_ends-ends-requires
find_ends-ends-requires g c =
    let t = g.B.WalkingTables.meaning c.args.book.now in
    let xs = c.elements-elements.result.now in
    let ready = ready_now c.args.self.now c.in-Closed.is xs c.elements-elements.ensures.value in
    let none = accepted_thick t xs c.in_ok-work_out.ensures.answered in
    record { worked = (t, worked_facts t xs c.args.worksheet.now c.work_out.new.sheet (g.met.B.WalkingTables.lawful c.args.book.now) ready none c.in_ok-work_out.ensures.written) }

pub returns : goal.returns
returns g c =
    let s = c.args.self.now in
    let l = ledger_of s in
    let t = g.B.WalkingTables.meaning c.args.book.now in
    let b : Book = record { tables = t; rules = g.B.RuleBook.rules c.args.book.now } in
    let before = c.args.worksheet.now in
    let xs = c.elements-elements.result.now in
    let same = c.elements-elements.ensures.value in
    let room : length l.elements ≤ length before = omega (arith, ap length same) in
    let ready = ready_now s c.in-Closed.is xs same in
    let none = accepted_thick t xs c.in_ok-work_out.ensures.answered in
    let w = worked_facts t xs before c.work_out.new.sheet (g.met.B.WalkingTables.lawful c.args.book.now) ready none c.in_ok-work_out.ensures.written in
    let r = c.find_ends-ends.result in
    let f = found_is b c.in-Some.case_data s.case xs r.time.lower r.time.upper r.governing c.judge.result c.in-Some.is (c.find_ends-ends.ensures.lower t w) (c.find_ends-ends.ensures.upper t w) (c.find_ends-ends.ensures.governing t w) c.judge.ensures in
    let e = worked_reply l c.in-Closed.is b before room (accepted tt) (c.in_ok-work_out.ensures.answered ∙ ap (λ x. first_true (thin_sentences t x) tt) same) in
    let told_so = ap (λ k. accepted (found k)) (f ∙ ap (λ x. finding b (case_or s.case) x) same) ∙ e in
    record {
      follows = assessed s b (length before) _ told_so;
      worksheet = worked_lines l c.in-Closed.is b before room c.work_out.new.sheet (c.in_ok-work_out.ensures.written ∙ ap (λ x. worked_out t x ++ drop (length x) before) same);
    }
