-- Histories that no switch may have, and one that it has.
use Rattle.std.specs.Prelude.{◌≡◌, ℕ, zero, suc, [], ◌∷◌, Some, None}
use Rattle.crossbar.specs.Joining.{Joins, unjoined}
use Rattle.reply.specs.Answers.{done, refused}
use Rattle.reply.specs.declared.reason.Reason.TheVariants.{InputFull, ListTooShort}
use Rattle.service.specs.Histories.{Event, offer, group, trial, slot, question, History, last_departure, departed}
use Rattle.service.specs.Law.{Law}
use Rattle.service.specs.Models.{Model, Stretch}
use Rattle.service.specs.declared.entry.Entry.{Entry}
use Rattle.service.specs.declared.question.Question.TheVariants.{Gathering}

-- the packet x, from input i to output j
abbrev pub at : ℕ → ℕ → ℕ → Entry ℕ
at i j x = record { pair = record { input = i; output = j }; packet = x }

-- output 0 is joined to an input
abbrev pub join : ℕ → Joins
join i zero = Some i
join i (suc j) = None

abbrev pub idle_slot : ℕ → Event ℕ
idle_slot room = slot room unjoined [] (done 0)

-- an offer is turned down though there is room
abbrev pub turned_down : History ℕ
turned_down = offer (at 0 0 5) (refused InputFull 0) ∷ []

-- nothing leaves in the period after
abbrev pub never_serves : History ℕ
never_serves = idle_slot 1 ∷ idle_slot 1 ∷ offer (at 0 0 5) (done 1) ∷ []

-- two packets for one output; the second slot of the period idles
abbrev pub serves_once : History ℕ
serves_once =
    idle_slot 2 ∷ slot 2 (join 0) (at 0 0 5 ∷ []) (done 1) ∷ idle_slot 2 ∷ idle_slot 2
    ∷ group (at 0 0 5 ∷ at 1 0 6 ∷ []) (done 2) ∷ []

-- a packet leaves in the period that accepted it
abbrev pub too_early : History ℕ
too_early = slot 1 (join 0) (at 0 0 5 ∷ []) (done 1) ∷ offer (at 0 0 5) (done 1) ∷ []

-- a trial leaves loads raised
abbrev pub trial_counts : History ℕ
trial_counts = offer (at 0 0 5) (refused InputFull 0) ∷ trial (at 0 0 5 ∷ []) (done 1) ∷ []

-- a refused group leaves its first entry
abbrev pub group_stays : History ℕ
group_stays =
    slot 1 (join 0) (at 0 0 5 ∷ []) (done 1) ∷ idle_slot 1 ∷ group (at 0 0 5 ∷ at 0 0 6 ∷ []) (refused InputFull 1) ∷ []

-- a departure is made up
abbrev pub made_up : History ℕ
made_up = slot 1 unjoined [] (done 1) ∷ []

-- a list with room for just n records is refused
abbrev pub room_enough : History ℕ
room_enough = slot 1 unjoined [] (refused ListTooShort 0) ∷ []

-- the newer of two packets of a pair leaves first
abbrev pub newest_first : History ℕ
newest_first =
    slot 2 (join 0) (at 0 0 6 ∷ []) (done 1) ∷ idle_slot 2 ∷ idle_slot 2 ∷ group (at 0 0 5 ∷ at 0 0 6 ∷ []) (done 2) ∷ []

-- a pair is joined and no record tells of it
abbrev pub untold : History ℕ
untold = slot 1 (join 0) [] (done 0) ∷ []

-- a wrong count is told
abbrev pub wrong_count : History ℕ
wrong_count = question (Gathering (record { input = 0; output = 0 })) (done 0) ∷ offer (at 0 0 5) (done 1) ∷ []

pub record RuledOut : Type 0 where
  pub no_turning_down : Law 1 1 turned_down → ⊥
  pub no_idling : Law 1 1 never_serves → ⊥
  pub no_idling_later : Law 2 2 serves_once → ⊥
  pub not_too_early : Law 1 1 too_early → ⊥
  pub no_raised_trial : Law 1 1 trial_counts → ⊥
  pub no_part_of_group : Law 1 1 group_stays → ⊥
  pub nothing_made_up : Law 1 1 made_up → ⊥
  pub no_short_list : Law 1 1 room_enough → ⊥
  pub no_newest_first : Law 1 2 newest_first → ⊥
  pub nothing_untold : Law 1 1 untold → ⊥
  pub no_wrong_count : Law 1 1 wrong_count → ⊥

-- and one that comes about: a packet is accepted, the period turns, and it leaves in the next slot
abbrev pub served_well : History ℕ
served_well = slot 1 (join 0) (at 0 0 5 ∷ []) (done 1) ∷ idle_slot 1 ∷ offer (at 0 0 5) (done 1) ∷ []

pub record ComesAbout : Type 0 where
  pub model : Model ℕ
  pub stretch : Stretch 1 1 served_well model
  pub last : last_departure 1 1 served_well ≡ 1
  pub left : departed served_well 0 0 ≡ 5 ∷ []
