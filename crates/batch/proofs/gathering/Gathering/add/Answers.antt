use Rattle.std.proofs.Common.{sym, ◌∙◌, arith}
use Rattle.crossbar.specs.Models.{size, waiting}
use Rattle.batch.proofs.Bounds.{room, stays_within, taken}
use Rattle.batch.proofs.gathering.Gathering.add.Goals as goal

pub invariant_of-self : goal.invariant_of-self
invariant_of-self c =
    let b = c.args.self.now in
    let t = taken (size b.demand) b.slots.count (waiting b.demand) c.args.pair (sym c.refusal.ensures ∙ c.in_default.is) in
    record { bounded = grind (arith, stays_within b.slots.count b.demand c.add-added.new.self c.args.pair t b.bounded, room b.slots.count b.demand c.args.pair b.slots.few t) }
