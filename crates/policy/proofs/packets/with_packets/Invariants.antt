use Rattle.std.proofs.Common.{◌≡◌}
use Rattle.crossbar.proofs.Serving.{below}
use Rattle.crossbar.specs.Models.{input_at, waiting}
use Rattle.policy.specs.Mending.{with_packets}
use Rattle.policy.proofs.packets.with_packets.Given as goal

abbrev pub invariant-loop-pair : goal.invariant-loop-pair
invariant-loop-pair l =
    record {
      setting : l.pair-iterator.setting.now ≡ l.setting;
      kept : input_at l.kept ≡ with_packets (waiting l.demand) (below l.pair-iterator.output (input_at l.setting));
    }
