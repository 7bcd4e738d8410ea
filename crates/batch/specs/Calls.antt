-- What the calls on a batch promise.
use Rattle.std.specs.Prelude.{◌≡◌, ℕ, ◌+◌, ◌-◌, List, [], ◌∷◌, ◌++◌, length, is_some, MatchBool, Option, MatchOption, ◌==◌}
use Rattle.crossbar.specs.Clearing.{AllLawful, Exactly, Lawful, served, served_all}
use Rattle.crossbar.specs.Joining.{Joins}
use Rattle.crossbar.specs.Loads.{nothing, one_more, packets as packets_of}
use Rattle.crossbar.specs.Models.{input_at, size}
use Rattle.crossbar.specs.declared.port.Pair.{Pair}
use Rattle.crossbar.specs.declared.setting.Setting.{Setting}
use Rattle.reply.specs.Answers.{Reply, answer, done, refused}
use Rattle.reply.specs.declared.reason.Reason.TheVariants.{NoSlotsLeft}
use Rattle.batch.specs.Models.{gathered, ports_of, refusal_in, slots_left, slots_of, to_clear}
use Rattle.batch.specs.Rules.{in_range, opening, taken_unless}
use Rattle.batch.specs.declared.clearing.Clearing.{Clearing}
use Rattle.batch.specs.declared.gathering.Gathering.{Gathering}

-- an empty batch of n ports and l slots
pub record Empty (n l : ℕ) (b : Gathering) : Type 0 where
  pub ports : ports_of b ≡ n
  pub slots : slots_of b ≡ l
  pub none : gathered b ≡ nothing

-- the place holds an empty batch, or is as it was where a number is out of range
pub record Opened (before : Option Gathering) (n l : ℕ) (r : Reply) (after : Option Gathering) : Type 0 where
  pub reply : answer r ≡ opening n l
  pub place : MatchBool (in_range n l) (MatchOption after ⊥ (Empty n l)) (after ≡ before)

-- one packet more for a pair, or a refusal that changes nothing
pub record Took (before : Gathering) (p : Pair) (r : Reply) (after : Gathering) : Type 0 where
  pub reply : answer r ≡ taken_unless (refusal_in before p)
  pub slots : after.slots ≡ before.slots
  pub ports : after.demand.ports ≡ before.demand.ports
  pub packets : MatchBool (is_some (refusal_in before p)) (after ≡ before) (gathered after ≡ one_more p.input p.output (gathered before))

-- what was gathered is to be cleared in all the slots of a period
pub record Closed (before : Gathering) (after : Clearing) : Type 0 where
  pub demand : after.demand ≡ before.demand
  pub left : after.left ≡ slots_of before

-- one slot of a clearing batch, by the setting s that the policy chose: lawful, served, and one slot fewer is left
pub record SlotDone (before : Clearing) (s : Setting) (r : Reply) (after : Clearing) : Type 0 where
  pub ports : after.demand.ports ≡ before.demand.ports
  pub lawful : Lawful (size before.demand) (to_clear before) (input_at s)
  pub packets : to_clear after ≡ served (input_at s) (to_clear before)
  pub left : slots_left after + 1 ≡ slots_left before
  pub reply : answer r ≡ done (packets_of (size before.demand) (to_clear before) - packets_of (size before.demand) (to_clear after))

-- a slot is refused, with nothing changed, exactly if none is left; else it is done by the policy's setting, which is written to the place
pub record Slotted {P : Type 0} (given : P → Setting) (before : Clearing) (policy : P) (place : Setting) (r : Reply) (after : Clearing) (policy' : P) (place' : Setting) : Type 0 where
  pub outcome : MatchBool (slots_left before == 0) ((answer r ≡ refused NoSlotsLeft 0) × (after ≡ before) × (policy' ≡ policy) × (place' ≡ place)) (SlotDone before place' r after × (given policy' ≡ place'))

-- the slots of a run that began at a batch b, by these settings, each lawful in its turn, have led to c
pub record Run (b : Clearing) (ss : List Joins) (c : Clearing) : Type 0 where
  pub ports : size c.demand ≡ size b.demand
  pub lawful : AllLawful (size b.demand) (to_clear b) ss
  pub packets : to_clear c ≡ served_all ss (to_clear b)
  pub left : slots_left c + length ss ≡ slots_left b

-- The law of a run: its batch is clear exactly from the slot on that its largest load counts, whatever policies chose.
abbrev pub RunsOn : Clearing → Setting → Clearing → Type 0
RunsOn before place after =
    (b : Clearing) (ss : List Joins)
    → Run b ss before
    → MatchBool (slots_left before == 0) (Run b ss after) (Run b (ss ++ input_at place ∷ []) after × Exactly (size b.demand) (to_clear b) (ss ++ input_at place ∷ []))
