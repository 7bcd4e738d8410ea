-- What the two kinds of batch hold.
use Rattle.std.specs.Prelude.{ℕ, Option}
use Rattle.crossbar.specs.Loads.{Counts}
use Rattle.crossbar.specs.Models.{size, waiting}
use Rattle.crossbar.specs.declared.port.Pair.{Pair}
use Rattle.reply.specs.declared.reason.Reason.{Reason}
use Rattle.batch.specs.Rules.{refusal}
use Rattle.batch.specs.declared.clearing.Clearing.{Clearing}
use Rattle.batch.specs.declared.gathering.Gathering.{Gathering}

-- the ports, the slots of a period, and the packets gathered so far
abbrev pub ports_of : Gathering → ℕ
ports_of b = size b.demand

abbrev pub slots_of : Gathering → ℕ
slots_of b = b.slots.count

abbrev pub gathered : Gathering → Counts
gathered b = waiting b.demand

-- why one packet more for a pair would be refused, if it would
abbrev pub refusal_in : Gathering → Pair → Option Reason
refusal_in b p = refusal (ports_of b) (slots_of b) (gathered b) p

-- the packets still to clear, and the slots left for them
abbrev pub to_clear : Clearing → Counts
to_clear b = waiting b.demand

abbrev pub slots_left : Clearing → ℕ
slots_left b = b.left
