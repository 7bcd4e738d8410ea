use Rattle.std.proofs.Common.{◌≡◌}
use Rattle.crossbar.specs.Models.{input_at}
use Rattle.crossbar.proofs.Serving.{below}
use Rattle.policy.specs.Graphs.{graph_of, partners}
use Rattle.policy.specs.Kernel.{ports_of}
use Rattle.policy.specs.Paths.{Spare}
use Rattle.policy.proofs.mending.Mending.ends.Given as goal

abbrev pub invariant-loop-pair : goal.invariant-loop-pair
invariant-loop-pair l =
    record {
      setting : l.pair-iterator.setting.now ≡ l.self.setting;
      spare : Spare (ports_of l.self) (graph_of l.self.side) (partners (below l.pair-iterator.output (input_at l.self.setting))) l.self.want l.ends;
    }
