-- What becomes of a readout: its packets are taken one after the other, until one is refused.
use Rattle.std.specs.Prelude.{◌≡◌, ℕ, ◌<◌, Some, Err, MatchOption}
use Rattle.batch.specs.Models.{gathered, refusal_in}
use Rattle.batch.specs.Rules.{taken_unless}
use Rattle.batch.specs.declared.gathering.Gathering.{Gathering}
use Rattle.crossbar.specs.Loads.{more}
use Rattle.readout.specs.declared.Readout.{Readout}
use Rattle.readout.specs.declared.Taken.{Taken}
use Rattle.reply.specs.Answers.{answer}
use Rattle.reply.specs.declared.reason.Reason.{Reason}

-- the batch has as many packets more of the pair as were taken, and nothing else of it changed
pub record Grown (before : Gathering) (a b taken : ℕ) (after : Gathering) : Type 0 where
  pub slots : after.slots ≡ before.slots
  pub ports : after.demand.ports ≡ before.demand.ports
  pub packets : gathered after ≡ more taken a b (gathered before)

-- all packets of a readout were taken, or some first ones, where the batch refuses the next
pub record ReadOut (before : Gathering) (r : Readout) (t : Taken) (after : Gathering) : Type 0 where
  pub grown : Grown before r.pair.input r.pair.output t.packets after
  pub whole : MatchOption t.refused (t.packets ≡ r.packets) (λ refusal. (t.packets < r.packets) × ((w : Reason) × (refusal_in after r.pair ≡ Some w) × (answer (Err refusal) ≡ taken_unless (Some w))))
