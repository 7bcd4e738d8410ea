use Rattle.std.proofs.Common.{◌≡◌, map, drop}
use Rattle.crossbar.specs.Clearing.{served_all}
use Rattle.crossbar.specs.Models.{input_at, waiting}
use Rattle.crossbar.proofs.demand.Demand.serve_all.Given as goal

abbrev pub invariant-loop-setting : goal.invariant-loop-setting
invariant-loop-setting l =
    (l.self.ports ≡ l.initial.self.ports)
    × (served_all (map input_at (drop l.setting-index l.settings)) (waiting l.self) ≡ served_all (map input_at l.settings) (waiting l.initial.self))
