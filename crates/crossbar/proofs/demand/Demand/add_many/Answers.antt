use Rattle.std.proofs.Common.{sym, arith}
use Rattle.crossbar.specs.Models.{size, waiting}
use Rattle.crossbar.proofs.Loads.{count_le}
use Rattle.crossbar.proofs.Room.{room_from_test}
use Rattle.crossbar.proofs.demand.Demand.add_many.Goals as goal

pub overflow_add-count : goal.overflow_add-count
overflow_add-count c =
    let d = c.args.self.now in
    let p = c.args.pair in
    let r = room_from_test 1024 c.args.count d p (sym c.if-not-has_room_for.ensures) in
    omega (arith, c.count.ensures, r.at_input, (count_le (size d) (waiting d) p.input p.output r.input r.output).0)
