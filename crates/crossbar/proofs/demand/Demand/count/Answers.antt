use Rattle.std.proofs.Common.{sym}
use Rattle.crossbar.proofs.Places.{grid_inside}
use Rattle.crossbar.proofs.Room.{inside_from_pair, outside_from_pair}
use Rattle.crossbar.proofs.demand.Demand.count.Goals as goal

pub returns-then-not-has_pair : goal.returns-then-not-has_pair
returns-then-not-has_pair c = sym (outside_from_pair c.args.self.now c.args.pair (sym c.if-not-has_pair.ensures))

pub returns : goal.returns
returns c =
    let d = c.args.self.now in
    let p = c.args.pair in
    let inside = inside_from_pair d p (sym c.if-not-has_pair.ensures) in
    sym (grid_inside d.ports.count d.counts p.input p.output inside.0 inside.1)
