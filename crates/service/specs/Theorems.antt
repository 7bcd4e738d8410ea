-- The theorems of a stretch of service.
use Rattle.std.specs.Prelude.{◌≡◌, ℕ, ◌≤◌, Bool, [], ◌∷◌, ◌++◌, MatchBool}
use Rattle.service.specs.Histories.{Event, History, Turned, SameCalls, answers}
use Rattle.service.specs.Law.{Law}
use Rattle.service.specs.Models.{Model, made, Ported, Step, Stretch}
use Rattle.service.specs.Outside.{Away, Service}

-- a switch that was just made begins a stretch
abbrev pub Begins : Type 0 → Type 0
Begins T = (n l : ℕ) → 1 ≤ n → n ≤ 16 → 1 ≤ l → l ≤ 1024 → Stretch {T = T} n l [] (made l)

-- whatever call is done as it should be, in service or not, carries a stretch on, and with it the law
abbrev pub GoesOn : Type 0 → Type 0
GoesOn T =
    (in_service : Bool) (n l : ℕ) (h : History T) (m m' : Model T) (e : Event T) → Ported n m' → Service in_service n l h m → MatchBool in_service (Step n l m e m') (Away e × (m' ≡ m)) → Service in_service n l (e ∷ h) m'

-- since a turn in each of two stretches with the same calls the answers to offers, groups and trials are the same
abbrev pub Independent : Type 0 → Type 0
Independent T =
    (n l : ℕ) (since since' before before' : History T) → 1 ≤ l → Law n l (since ++ before) → Law n l (since' ++ before') → Turned l before → Turned l before' → SameCalls since since' → answers since ≡ answers since'
