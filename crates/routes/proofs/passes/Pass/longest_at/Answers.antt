use Rattle.std.proofs.Common.{◌≡◌, length, ◌∙◌, rules}
use Rattle.std.proofs.lemmas.List.{length_push}
use Rattle.std.proofs.lemmas.Slice.Zip.{zip_turn}
use Rattle.network.specs.Elements.{no_element}
use Rattle.sheet.specs.Lines.{no_line}
use Rattle.ways.specs.Ends.{end_of}
use Rattle.ways.specs.Walks.{near_point, far_point, gain, gains}
use Rattle.ways.proofs.Longest.{most_more}
use Rattle.routes.specs.Timed.{timed_net}
use Rattle.routes.proofs.passes.Pass.longest_at.Goals as goal

pub loop-element-preserved : goal.loop-element-preserved
loop-element-preserved c =
    let n = c.args.self.now.network in
    let w = c.args.self.now.way in
    let reach = c.args.reach.now.walks in
    let z = zip_turn n.elements.now n.lines.now c.loop-element.yielded c.into_iter-element-iterator.result c.loop-element.element-iterator c.next.new.self _ (cc) (cc) c.loop-element.yielded_by _ c.in-Some.is c.next.ensures.steps in
    let x = z.2 no_element in
    let v = z.3 no_line in
    let g = gains w (timed_net n) reach c.args.p in
    let e : c.reach_by.result ≡ g (length c.loop-element.yielded) =
    c.reach_by.ensures
    ∙ (λ k. gain reach (v k).persons (end_of n.end (v k).travel) (near_point w (x k).from (x k).to) (far_point w (x k).from (x k).to) c.args.p) in
    rw (length_push c.loop-element.yielded (c.in-Some.element, c.in-Some.line), most_more g (length c.loop-element.yielded), ← e, ← c.loop-element.invariant) (search rules)
