-- What the calls that change a demand promise.
use Rattle.std.specs.Prelude.{◌≡◌, ℕ, ◌+◌, Bool, List, map, MatchBool}
use Rattle.crossbar.specs.Clearing.{AllLawful, Exactly, Lawful, Lowers, served, served_all}
use Rattle.crossbar.specs.Loads.{more, one_more, packets}
use Rattle.crossbar.specs.Models.{has_room, has_room_for, input_at, size, waiting}
use Rattle.crossbar.specs.declared.demand.Demand.{Demand}
use Rattle.crossbar.specs.declared.port.Pair.{Pair}
use Rattle.crossbar.specs.declared.setting.Setting.{Setting}

-- one packet more for a pair where there was room, and no change where there was none
pub record Added (before : Demand) (p : Pair) (possible : Bool) (after : Demand) : Type 0 where
  pub tested : possible ≡ has_room 1024 before p
  pub ports : after.ports ≡ before.ports
  pub counts : MatchBool possible (waiting after ≡ one_more p.input p.output (waiting before)) (after ≡ before)

-- k packets more for a pair where there was room for all of them, and no change where there was not
pub record AddedMany (before : Demand) (p : Pair) (k : ℕ) (possible : Bool) (after : Demand) : Type 0 where
  pub tested : possible ≡ has_room_for 1024 k before p
  pub ports : after.ports ≡ before.ports
  pub counts : MatchBool possible (waiting after ≡ more k p.input p.output (waiting before)) (after ≡ before)

-- served by a setting, with the number of packets that left; a lawful setting lowers the largest load by one
pub record Served (before : Demand) (s : Setting) (departed : ℕ) (after : Demand) : Type 0 where
  pub ports : after.ports ≡ before.ports
  pub counts : waiting after ≡ served (input_at s) (waiting before)
  pub departures : packets (size before) (waiting after) + departed ≡ packets (size before) (waiting before)
  pub lowers : Lawful (size before) (waiting before) (input_at s) → Lowers (size before) (waiting before) (waiting after)

-- served by settings in turn; lawful ones clear the demand exactly once they are as many as its largest load
pub record ServedByAll (before : Demand) (ss : List Setting) (after : Demand) : Type 0 where
  pub ports : after.ports ≡ before.ports
  pub counts : waiting after ≡ served_all (map input_at ss) (waiting before)
  pub exactly : AllLawful (size before) (waiting before) (map input_at ss) → Exactly (size before) (waiting before) (map input_at ss)
