-- Out of service nothing happens.
use Rattle.std.proofs.Common.{◌≡◌, ℕ, Bool, true, false, cond, List, [], ◌∷◌, ◌++◌, length, refl, ap, ◌∙◌, arith}
use Rattle.std.proofs.lemmas.List.{append-nil}
use Rattle.reply.specs.Answers.{Answer, refused, place_of}
use Rattle.reply.specs.declared.reason.Reason.TheVariants.{OutOfService}
use Rattle.service.specs.Histories.{Event, offer, group, trial, slot, question, History, is_done, period, accepts, departs, slot_done, accepted, counted_in, counted_out, of_pair}
use Rattle.service.specs.Outside.{Away, Quiet}
use Rattle.service.specs.Theorems.{GoesOn}
use Rattle.service.proofs.Onward.{carries}

off : (r : Answer) → r ≡ refused OutOfService 0 → is_done r ≡ false
off r e = ap is_done e

module _ {T : Type 0} where
  nil_on : (xs ys : List T) (b : Bool) → xs ≡ [] → ys ≡ [] → xs ++ cond b ys [] ≡ []
  nil_on xs ys true e g = ap (λ x. x ++ ys) e ∙ g
  nil_on xs ys false e g = append-nil xs ∙ e

  still : (h : History T) (e : Event T) → Quiet h → ((i j : ℕ) → accepts e i j ≡ []) → ((i j : ℕ) → departs e i j ≡ []) → slot_done e ≡ false → counted_in e ≡ 0 → counted_out e ≡ 0 → Quiet (e ∷ h)
  still h e q a d s t u =
      record {
        none_in = λ l f i j. nil_on (accepted l f h i j) (accepts e i j) (f (period l h)) (q.none_in l f i j) (a i j);
        none_out = λ i j. ap (λ x. x ++ departs e i j) (q.none_out i j) ∙ d i j;
        no_slot = omega (arith, q.no_slot, ap {B = ℕ} (λ b. cond b 1 0) s);
        none_taken = omega (arith, t, q.none_taken);
        none_sent = omega (arith, u, q.none_sent);
      }

  away : (h : History T) (e : Event T) → Quiet h → Away e → Quiet (e ∷ h)
  away h (offer e r) q w =
      still h (offer e r) q (λ i j. ap (λ b. cond b (of_pair i j (e ∷ [])) []) (off r w)) (λ i j. refl) refl
      (ap (λ b. cond b (place_of r) 0) (off r w)) refl
  away h (group es r) q w =
      still h (group es r) q (λ i j. ap (λ b. cond b (of_pair i j es) []) (off r w)) (λ i j. refl) refl
      (ap (λ b. cond b (place_of r) 0) (off r w)) refl
  away h (trial es r) q w = still h (trial es r) q (λ i j. refl) (λ i j. refl) refl refl refl
  away h (slot m s ds r) q w =
      still h (slot m s ds r) q (λ i j. refl) (λ i j. ap (λ b. cond b (of_pair i j ds) []) (off r w.0)) (off r w.0) refl
      (ap (λ b. cond b (length ds) 0) (off r w.0))
  away h (question a r) q w = still h (question a r) q (λ i j. refl) (λ i j. refl) refl refl refl

  pub goes_on : GoesOn T
  goes_on true n l h m m' e o st w = carries n l h m m' e o st w
  goes_on false n l h m m' e o st w = ((w.0, st.0), away h e st.1 w.0)
