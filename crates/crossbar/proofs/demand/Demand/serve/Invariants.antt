use Rattle.crossbar.proofs.Serving.{Underway}
use Rattle.crossbar.proofs.demand.Demand.serve.Given as goal

abbrev pub invariant-loop-pair : goal.invariant-loop-pair
invariant-loop-pair l = Underway l.initial.self l.self l.setting l.pair-iterator l.departed
