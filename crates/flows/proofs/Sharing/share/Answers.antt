use Rattle.std.proofs.Common.{◌<◌, arith}
use Rattle.sheet.specs.Shares.{width_out}
use Rattle.sheet.proofs.ShareLaws.{share_le}
use Rattle.flows.proofs.ShareParts.{share_one, share_whole}
use Rattle.flows.proofs.Sharing.share.Goals as goal

pub returns-then-rank-left_over : goal.returns-then-rank-left_over
returns-then-rank-left_over c =
    let s = c.args.self.now in
    let es = s.network.elements.now in
    let i = c.args.i in
    let some : 0 < width_out es s.point = omega (arith, s.all, s.some) in
    let same = share_one es s.point s.persons i s.width _ _ _ s.all c.part-part.ensures c.requires.left c.rank.ensures c.if-rank-left_over.true in
    record { value = same; small = omega (arith, share_le es s.point s.persons some i c.requires.within c.requires.leaving) }

pub returns-else-rank-left_over : goal.returns-else-rank-left_over
returns-else-rank-left_over c =
    let s = c.args.self.now in
    let es = s.network.elements.now in
    let i = c.args.i in
    let some : 0 < width_out es s.point = omega (arith, s.all, s.some) in
    let same = share_whole es s.point s.persons i s.width _ _ _ s.all c.part-part.ensures c.requires.left c.rank.ensures c.if-rank-left_over.false in
    record { value = same; small = omega (arith, share_le es s.point s.persons some i c.requires.within c.requires.leaving) }
