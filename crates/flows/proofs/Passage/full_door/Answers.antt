use Rattle.std.proofs.Common.{◌≡◌, ◌*◌, ap, ◌∙◌, rules}
use Rattle.exact.specs.declared.Ends.{Ends}
use Rattle.exact.specs.Worked.{ends, exactly, around}
use Rattle.curves.specs.Reading.{mega}
use Rattle.reading.specs.Sources.{through}
use Rattle.network.specs.declared.Kind.TheVariants.{Door}
use Rattle.sheet.specs.Sources.{full_source}
use Rattle.flows.proofs.Shown.{shown_by}
use Rattle.flows.proofs.Passage.full_door.Goals as goal

pub returns : goal.returns
returns g c =
    let e = c.args.self.now.element.now in
    let t = g.T.WalkingTables.meaning c.args.self.now.tables.now in
    let w = exactly (t.door * mega) in
    let s : c.exactly-specific_flow.result ≡ ends w = c.exactly-specific_flow.ensures ∙ ap (λ n. ends (exactly n)) (c.billionths.ensures ∙ ap (λ d. d * mega) c.door_flow.ensures) in
    let f = c.flow_through.ensures w.exact ∙ ap (λ (q : Ends). ends (through e.width (around q w.exact))) s in
    shown_by e (full_source t Door e) c.line.result c.flow_through.result _ c.line.ensures f (search rules)
