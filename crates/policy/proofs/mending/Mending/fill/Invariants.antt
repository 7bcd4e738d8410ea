use Rattle.policy.proofs.Filling.{Partway}
use Rattle.policy.proofs.mending.Mending.fill.Given as goal

abbrev pub invariant-loop-input : goal.invariant-loop-input
invariant-loop-input l = Partway l.initial.self l.self l.ends l.input
