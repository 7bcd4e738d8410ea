-- How many slots a period has on a line.
use Rattle.std.specs.Prelude.{ℕ, ◌*◌, ◌/◌, ◌^◌, Bool, cond, ◌&&◌}
use Rattle.batch.specs.Rules.{between}
use Rattle.document.specs.declared.period.Line.{Line}
use Rattle.reply.specs.Answers.{Answer, done, refused}
use Rattle.reply.specs.declared.reason.Reason.TheVariants.{OutOfRange}

-- the packets that cross a line in one period, a part of one not counted: rate in bits a second, period in microseconds, packet in bits
abbrev pub reckoned : Line → ℕ
reckoned l = l.rate * l.period / (1000000 * l.packet)

-- up to 100 gigabits a second, periods of up to a second, packets of up to a million bits
abbrev pub factors_fit : Line → Bool
factors_fit l = between 1 (10 ^ 11) l.rate && between 1 (10 ^ 6) l.period && between 1 (10 ^ 6) l.packet

-- done with the number of slots, where the factors and that number are in range
abbrev pub slots_answer : Line → Answer
slots_answer l = cond (factors_fit l && between 1 1024 (reckoned l)) (done (reckoned l)) (refused OutOfRange 0)
