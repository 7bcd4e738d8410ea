use Rattle.std.proofs.Common.{◌+◌, ◌-◌, ◌&&◌, leb, sym, ap, ◌∙◌, arith}
use Rattle.std.proofs.lemmas.Bool.{and_from, le-leb}
use Rattle.crossbar.specs.Models.{has_pair, load_of}
use Rattle.crossbar.specs.declared.port.Port.TheVariants.{Input, Output}
use Rattle.crossbar.proofs.Room.{load_within, room_left}
use Rattle.crossbar.proofs.demand.Demand.has_room_for.Goals as goal

pub overflow_sub-left_at_input : goal.overflow_sub-left_at_input
overflow_sub-left_at_input c = omega (arith, load_within c.args.self.now (Input c.args.pair.input), c.load-left_at_input.ensures)

pub overflow_sub-left_at_output : goal.overflow_sub-left_at_output
overflow_sub-left_at_output c = omega (arith, load_within c.args.self.now (Output c.args.pair.output), c.load-left_at_output.ensures)

pub returns-then-count-left_at_input : goal.returns-then-count-left_at_input
returns-then-count-left_at_input c =
    let d = c.args.self.now in
    let p = c.args.pair in
    let k = c.args.count in
    let at_input = load_of d (Input p.input) in
    let at_output = load_of d (Output p.output) in
    ap (λ x. leb k (1024 - x)) c.load-left_at_output.ensures
    ∙ room_left 1024 k at_output (load_within d (Output p.output))
    ∙ sym (ap (λ t. t && leb (at_output + k) 1024)
    (and_from (has_pair d p) (leb (at_input + k) 1024) (sym c.if-not-has_pair.ensures)
    (le-leb (at_input + k) 1024 (omega (arith, c.load-left_at_input.ensures, load_within d (Input p.input), c.if-count-left_at_input.true)))))
