-- The reply that each call gets from a switch of n ports and l slots a period.
use Rattle.std.specs.Prelude.{ℕ, suc, Bool, cond, ◌&&◌, List, [], ◌∷◌, Some, None, Option, ◌==◌, nat_le, nat_lt}
use Rattle.batch.specs.Rules.{refusal}
use Rattle.crossbar.specs.Loads.{Counts, largest_load, one_more}
use Rattle.crossbar.specs.declared.port.Pair.{Pair}
use Rattle.reply.specs.Answers.{Answer, done, refused}
use Rattle.reply.specs.declared.reason.Reason.{Reason}
use Rattle.reply.specs.declared.reason.Reason.TheVariants.{NoSuchInput, NoSuchOutput, ListTooShort, LeftOver}
use Rattle.service.specs.declared.entry.Entry.{Entry}
use Rattle.service.specs.declared.question.Question.{Question}
use Rattle.service.specs.declared.question.Question.TheVariants.{Gathering, Clearing, SlotsLeft}

-- refused at a place, or what follows
abbrev pub unless : Option Reason → ℕ → Answer → Answer
unless None place r = r
unless (Some reason) place r = refused reason place

-- The reply to entries, from the k-th on, over what gathers: the first that is refused after those before it decides.
abbrev pub verdict : {T : Type 0} → ℕ → ℕ → Counts → ℕ → List (Entry T) → Answer
verdict n l d k [] = done k
verdict n l d k (e ∷ es) = unless (refusal n l d e.pair) k (verdict n l (one_more e.pair.input e.pair.output d) (suc k) es)

-- one slot is left in the period, and a clearing load is above 1
abbrev pub late : ℕ → ℕ → Counts → Bool
late n left c = left == 1 && nat_lt 1 (largest_load n c)

-- the reply to a slot whose list has room for so many records, and by which so many packets leave if it is done
abbrev pub slot_reply : ℕ → ℕ → Counts → ℕ → ℕ → Answer
slot_reply n left c room count = cond (nat_lt room n) (refused ListTooShort 0) (cond (late n left c) (refused LeftOver 0) (done count))

-- the reply to a question about a pair, of which there are so many packets
abbrev pub pair_reply : ℕ → Pair → ℕ → Answer
pair_reply n p count =
    cond (nat_le n p.input) (refused NoSuchInput 0) (cond (nat_le n p.output) (refused NoSuchOutput 0) (done count))

-- the reply to a question, by the slots left, what gathers and what clears
abbrev pub told : ℕ → ℕ → Counts → Counts → Question → Answer
told n left g c (Gathering p) = pair_reply n p (g p.input p.output)
told n left g c (Clearing p) = pair_reply n p (c p.input p.output)
told n left g c SlotsLeft = done left
