use Rattle.std.proofs.Common.{◌≤◌, ltb, sym, ap, ◌∙◌, subst, arith}
use Rattle.crossbar.specs.Loads.{largest_load, turned}
use Rattle.crossbar.specs.Models.{size, waiting}
use Rattle.crossbar.specs.Sides.{Tells}
use Rattle.crossbar.proofs.Loads.{count_le}
use Rattle.crossbar.proofs.Places.{grid_inside, grid_set, square_set}
use Rattle.crossbar.proofs.Room.{inside_from_pair}
use Rattle.crossbar.proofs.Telling.{counted_within, tells_set, turned_count}
use Rattle.crossbar.proofs.demand.Demand.recount.Goals as goal

pub recount-requires-clause-part : goal.recount-requires-clause-part
recount-requires-clause-part c =
    let d = c.args.self.now in
    let p = c.args.pair in
    let (i, o) = inside_from_pair d p c.requires.pair in
    omega (arith, grid_inside (size d) d.counts p.input p.output i o, (count_le (size d) (waiting d) p.input p.output i o).0, d.at_inputs.loads p.input)

pub recount-requires-clause-fits : goal.recount-requires-clause-fits
recount-requires-clause-fits c =
    let d = c.args.self.now in
    let p = c.args.pair in
    let (i, o) = inside_from_pair d p c.requires.pair in
    omega (arith, grid_inside (size d) d.counts p.input p.output i o, c.requires.input, d.at_inputs.loads p.input)

pub recount-requires-clause-marked : goal.recount-requires-clause-marked
recount-requires-clause-marked c =
    let d = c.args.self.now in
    let p = c.args.pair in
    let (i, o) = inside_from_pair d p c.requires.pair in
    d.at_inputs.marks p.input p.output ∙ ap (ltb 0) (grid_inside (size d) d.counts p.input p.output i o)

pub recount-requires-2-clause-part : goal.recount-requires-2-clause-part
recount-requires-2-clause-part c =
    let d = c.args.self.now in
    let p = c.args.pair in
    let (i, o) = inside_from_pair d p c.requires.pair in
    omega (arith, grid_inside (size d) d.counts p.input p.output i o, (count_le (size d) (waiting d) p.input p.output i o).1, d.at_outputs.loads p.output)

pub recount-requires-2-clause-fits : goal.recount-requires-2-clause-fits
recount-requires-2-clause-fits c =
    let d = c.args.self.now in
    let p = c.args.pair in
    let (i, o) = inside_from_pair d p c.requires.pair in
    omega (arith, grid_inside (size d) d.counts p.input p.output i o, c.requires.output, d.at_outputs.loads p.output)

pub recount-requires-2-clause-marked : goal.recount-requires-2-clause-marked
recount-requires-2-clause-marked c =
    let d = c.args.self.now in
    let p = c.args.pair in
    let (i, o) = inside_from_pair d p c.requires.pair in
    d.at_outputs.marks p.output p.input ∙ ap (ltb 0) (grid_inside (size d) d.counts p.input p.output i o)

pub invariant_of-self : goal.invariant_of-self
invariant_of-self c =
    let d = c.args.self.now in
    let p = c.args.pair in
    let n = size d in
    let v = c.args.count in
    let (i, o) = inside_from_pair d p c.requires.pair in
    let few = d.ports.few in
    let old = grid_inside n d.counts p.input p.output i o in
    let after = grid_set n d.counts p.input p.output v d.square few i o in
    record {
      square = square_set d.counts p.input p.output v (omega arith) d.square;
      at_inputs =
          subst (Tells n _) (sym after)
          (tells_set n v p.input p.output (waiting d) i o d.inputs c.recount.new.self d.at_inputs few
          (rw old (c.recount.ensures.load)) c.recount.ensures.links);
      at_outputs =
          subst (Tells n _) (sym (ap turned after ∙ turned_count v p.input p.output (waiting d)))
          (tells_set n v p.output p.input (turned (waiting d)) o i d.outputs c.recount-2.new.self d.at_outputs few
          (rw old (c.recount-2.ensures.load)) c.recount-2.ensures.links);
      bounded =
          subst (λ e. largest_load n e ≤ 1024) (sym after)
          (counted_within n v p.input p.output (waiting d) i o 1024 d.bounded c.requires.input c.requires.output);
    }

pub returns-clause-after : goal.returns-clause-after
returns-clause-after c =
    let d = c.args.self.now in
    let p = c.args.pair in
    let (i, o) = inside_from_pair d p c.requires.pair in
    grid_set (size d) d.counts p.input p.output c.args.count d.square d.ports.few i o
