use Rattle.std.proofs.Common.{◌-◌, ap, arith}
use Rattle.crossbar.specs.Loads.{packets}
use Rattle.crossbar.specs.Models.{size, waiting}
use Rattle.crossbar.specs.declared.port.Port.TheVariants.{Input, Output}
use Rattle.crossbar.proofs.Room.{load_within, pair_from_count, waits_inside}
use Rattle.crossbar.proofs.Telling.{packets_set}
use Rattle.crossbar.proofs.demand.Demand.take.Goals as goal

pub recount-requires-clause-pair : goal.recount-requires-clause-pair
recount-requires-clause-pair c = pair_from_count c.args.self.now c.args.pair (omega (arith, c.count-count.ensures, c.if-count-eq0.false))

pub recount-requires-clause-input : goal.recount-requires-clause-input
recount-requires-clause-input c =
    omega (arith, load_within c.args.self.now (Input c.args.pair.input), c.count-count.ensures)

pub recount-requires-clause-output : goal.recount-requires-clause-output
recount-requires-clause-output c =
    omega (arith, load_within c.args.self.now (Output c.args.pair.output), c.count-count.ensures)

pub returns-clause-count : goal.returns-clause-count
returns-clause-count c =
    let d = c.args.self.now in
    let p = c.args.pair in
    let (i, o) = waits_inside d p.input p.output (omega (arith, c.count-count.ensures, c.if-count-eq0.false)) in
    omega (
      arith,
      ap (packets (size d)) c.recount.ensures.after,
      packets_set (size d) (c.count-count.result - 1) p.input p.output (waiting d) i o,
      c.count-count.ensures,
      c.if-count-eq0.false,
    )
