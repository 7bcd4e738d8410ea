-- What a reply says, and the 32 bits that say it.
use Rattle.std.specs.Prelude.{ℕ, ◌+◌, ◌*◌, ◌^◌, Some, None, Option, Result, Ok, Err}
use Rattle.reply.specs.Table.{number, layer, layer_number}
use Rattle.reply.specs.declared.place.Place.{Place}
use Rattle.reply.specs.declared.reason.Reason.{Reason}
use Rattle.reply.specs.declared.refusal.Refusal.{Refusal}

-- done, with a place that says how many; or refused, for a reason and at a place
pub data Answer : Type 0 where
  done : ℕ → Answer
  refused : Reason → ℕ → Answer

-- a reply as the code has it
abbrev pub Reply : Type 0
Reply = Result Place Refusal

abbrev pub answer : Reply → Answer
answer (Ok place) = done place.value
answer (Err refusal) = refused refusal.reason refusal.place.value

abbrev pub reason_of : Answer → Option Reason
reason_of (done place) = None
reason_of (refused reason place) = Some reason

abbrev pub place_of : Answer → ℕ
place_of (done place) = place
place_of (refused reason place) = place

-- 4 bits for the layer, 8 for the number and 20 for the place; layer and number are 0 where the call was done
abbrev pub code : Answer → ℕ
code (done place) = place
code (refused reason place) = layer_number (layer reason) * 2 ^ 28 + number reason * 2 ^ 20 + place
