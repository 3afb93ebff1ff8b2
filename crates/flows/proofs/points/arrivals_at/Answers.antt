use Rattle.std.proofs.Common.{◌≡◌, ◌<◌, length, sym, ap, ◌∙◌, arith}
use Rattle.std.proofs.lemmas.List.{length_push}
use Rattle.std.proofs.lemmas.Slice.Zip.{zip_turn, zip_end}
use Rattle.network.specs.declared.Element.{Element}
use Rattle.network.specs.Elements.{el, no_element}
use Rattle.sheet.specs.Lines.{no_line}
use Rattle.flows.specs.Points.{line_at}
use Rattle.flows.proofs.Arriving.{none_yet, one_comes, none_comes, all_come, small_lower, small_upper, small_persons}
use Rattle.flows.proofs.points.arrivals_at.Goals as goal
use Rattle.flows.proofs.points.arrivals_at.Goals.{In-Some}

-- which element and which line it is
turn : (c : In-Some) → (length c.loop-element.yielded < length c.args.elements.now)
    × (c.in-Some.element.now ≡ el c.args.elements.now (length c.loop-element.yielded))
    × (c.in-Some.line.now ≡ line_at c.args.sheet.now (length c.loop-element.yielded))
turn c =
    let t = zip_turn c.args.elements.now c.args.sheet.now c.loop-element.yielded c.into_iter-element-iterator.result c.loop-element.element-iterator c.next.new.self _ (cc) (cc) c.loop-element.yielded_by _ c.in-Some.is c.next.ensures.steps in
    (t.0, t.2 no_element, t.3 no_line)

pub loop-element-init : goal.loop-element-init
loop-element-init c = none_yet _ _ _

pub overflow_add-lower : goal.overflow_add-lower
overflow_add-lower c =
    let t = turn (goal.at.overflow_add-lower c).In-Some in
    omega (arith, small_lower c.args.elements.now c.args.sheet.now c.args.point (length c.loop-element.yielded) _ _ _ c.loop-element.invariant c.in-Some.line.now t.2 c.requires t.0)

pub overflow_add-upper : goal.overflow_add-upper
overflow_add-upper c =
    let t = turn (goal.at.overflow_add-upper c).In-Some in
    omega (arith, small_upper c.args.elements.now c.args.sheet.now c.args.point (length c.loop-element.yielded) _ _ _ c.loop-element.invariant c.in-Some.line.now t.2 c.requires t.0)

pub overflow_add-persons : goal.overflow_add-persons
overflow_add-persons c =
    let t = turn (goal.at.overflow_add-persons c).In-Some in
    omega (arith, small_persons c.args.elements.now c.args.sheet.now c.args.point (length c.loop-element.yielded) _ _ _ c.loop-element.invariant c.in-Some.line.now t.2 c.requires t.0)

pub loop-element-preserved-then-element-point : goal.loop-element-preserved-then-element-point
loop-element-preserved-then-element-point c =
    let t = turn (goal.at.loop-element-preserved-then-element-point c).In-Some in
    let k = length c.loop-element.yielded in
    let to : (el c.args.elements.now k).to ≡ c.args.point = sym (ap (λ (e : Element). e.to) t.1) ∙ c.if-element-point.true in
    rw length_push (one_comes c.args.elements.now c.args.sheet.now c.args.point k _ _ _ c.loop-element.invariant c.in-Some.line.now t.2 to)

pub loop-element-preserved : goal.loop-element-preserved
loop-element-preserved c =
    let t = turn (goal.at.loop-element-preserved c).In-Some in
    let k = length c.loop-element.yielded in
    let other : (el c.args.elements.now k).to ≡ c.args.point → ⊥ = λ e. c.if-element-point.false (ap (λ (e' : Element). e'.to) t.1 ∙ e) in
    rw length_push (none_comes c.args.elements.now c.args.sheet.now c.args.point k _ _ _ c.loop-element.invariant other)

pub returns : goal.returns
returns c =
    let n = zip_end c.args.elements.now c.args.sheet.now c.loop-element.yielded c.into_iter-element-iterator.result c.loop-element.element-iterator c.next.new.self _ (cc) (cc) c.loop-element.yielded_by c.in-None.is c.next.ensures.steps in
    all_come c.args.elements.now c.args.sheet.now c.args.point (length c.loop-element.yielded) _ _ _ c.loop-element.invariant (omega (arith, n, c.requires.room))
