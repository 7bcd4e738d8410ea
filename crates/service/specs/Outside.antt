-- A switch out of service: every call is refused, and nothing else happens.
use Rattle.std.specs.Prelude.{◌≡◌, ℕ, Bool, [], ◌∷◌, MatchBool}
use Rattle.reply.specs.Answers.{refused}
use Rattle.reply.specs.declared.reason.Reason.TheVariants.{OutOfService}
use Rattle.service.specs.Histories.{Event, offer, group, trial, slot, question, History, slots, accepted, departed, taken, sent}
use Rattle.service.specs.Models.{Model, Stretch}

module _ {T : Type 0} where
  abbrev pub Away : Event T → Type 0
  Away (offer e r) = r ≡ refused OutOfService 0
  Away (group es r) = r ≡ refused OutOfService 0
  Away (trial es r) = r ≡ refused OutOfService 0
  Away (slot room s ds r) = (r ≡ refused OutOfService 0) × (ds ≡ [])
  Away (question q r) = r ≡ refused OutOfService 0

  abbrev pub AllAway : History T → Type 0
  AllAway [] = Unit {0}
  AllAway (e ∷ h) = Away e × AllAway h

  -- nothing was accepted, nothing left, and no period turned
  pub record Quiet (h : History T) : Type 0 where
    pub none_in : (l : ℕ) (f : ℕ → Bool) (i j : ℕ) → accepted l f h i j ≡ []
    pub none_out : (i j : ℕ) → departed h i j ≡ []
    pub no_slot : slots h ≡ 0
    pub none_taken : taken h ≡ 0
    pub none_sent : sent h ≡ 0

  -- a stretch of service, on a switch in service or not
  abbrev pub Service : Bool → ℕ → ℕ → History T → Model T → Type 0
  Service in_service n l h m = MatchBool in_service (Stretch n l h m) (AllAway h × Quiet h)
