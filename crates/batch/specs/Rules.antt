-- The rules of a batch: the ranges of its numbers, and the packets that it refuses.
use Rattle.std.specs.Prelude.{ℕ, Bool, cond, ◌&&◌, Some, None, Option, nat_le}
use Rattle.crossbar.specs.Loads.{Counts, load}
use Rattle.crossbar.specs.declared.port.Pair.{Pair}
use Rattle.crossbar.specs.declared.port.Port.TheVariants.{Input, Output}
use Rattle.reply.specs.Answers.{Answer, done, refused}
use Rattle.reply.specs.declared.reason.Reason.{Reason}
use Rattle.reply.specs.declared.reason.Reason.TheVariants.{NoSuchInput, NoSuchOutput, InputFull, OutputFull, OutOfRange}

-- low ≤ x ≤ high
abbrev pub between : ℕ → ℕ → ℕ → Bool
between low high x = nat_le low x && nat_le x high

-- a switch has 1 to 16 inputs and as many outputs, and a period has 1 to 1,024 slots
abbrev pub in_range : ℕ → ℕ → Bool
in_range ports slots = between 1 16 ports && between 1 1024 slots

abbrev pub opening : ℕ → ℕ → Answer
opening ports slots = cond (in_range ports slots) (done 0) (refused OutOfRange 0)

-- why one packet more for a pair is refused, of n ports and with a bound on every load: the first of these that applies
abbrev pub refusal : ℕ → ℕ → Counts → Pair → Option Reason
refusal n bound d p =
    cond (nat_le n p.input) (Some NoSuchInput)
    (cond (nat_le n p.output) (Some NoSuchOutput)
    (cond (nat_le bound (load n d (Input p.input))) (Some InputFull)
    (cond (nat_le bound (load n d (Output p.output))) (Some OutputFull) None)))

-- one packet was taken, or it was refused
abbrev pub taken_unless : Option Reason → Answer
taken_unless None = done 1
taken_unless (Some reason) = refused reason 0
