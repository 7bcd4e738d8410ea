use Rattle.readout.specs.Readouts.{Grown}
use Rattle.readout.proofs.gather.Given as goal

abbrev pub invariant-loop-packets : goal.invariant-loop-packets
invariant-loop-packets l = Grown l.initial.batch l.readout.pair.input l.readout.pair.output l.packets l.batch
