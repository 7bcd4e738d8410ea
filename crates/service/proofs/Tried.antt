-- The histories that the law rules out, and one that comes about.
use Rattle.std.proofs.Common.{◌≡◌, ℕ, zero, suc, ◌<◌, ◌≤◌, ◌⊎◌, List, [], ◌∷◌, ◌++◌, length, get_or, Some, sym, refl, ap, inl, inr, arith}
use Rattle.crossbar.specs.Clearing.{Lawful}
use Rattle.crossbar.specs.Joining.{Joined, pairs_below, unjoined}
use Rattle.crossbar.specs.Loads.{Critical, largest_load}
use Rattle.crossbar.specs.Sums.{largest, total}
use Rattle.crossbar.specs.declared.port.Port.{Port}
use Rattle.crossbar.specs.declared.port.Port.TheVariants.{Input, Output}
use Rattle.reply.specs.Answers.{code, done, place_of}
use Rattle.service.specs.Cases.{RuledOut, ComesAbout, at, join, idle_slot, served_well}
use Rattle.service.specs.Histories.{of_pair, offer, slot}
use Rattle.service.specs.Models.{Model, made, counts, Stretch}
use Rattle.service.proofs.Onward.{begins, carries}

pub ruled_out : RuledOut
unfolding total largest largest_load pairs_below
ruled_out =
    record {
      no_turning_down = λ w. let z : ◌≡◌ {A = ℕ} 809500672 1 = ap code w.0.replies in omega arith;
      no_idling = λ w. let z : ◌≡◌ {A = ℕ} 0 1 = (w.0.clears 0 (omega arith)).exactly in omega arith;
      no_idling_later = λ w. let z : ◌≡◌ {A = ℕ} 1 2 = (w.0.clears 0 (omega arith)).exactly in omega arith;
      not_too_early = λ w. let z : ◌≡◌ {A = ℕ} 1 0 = ap length (w.0.at_turn refl 0 0) in omega arith;
      no_raised_trial = λ w. let z : ◌≡◌ {A = ℕ} 809500672 1 = ap code w.0.replies in omega arith;
      no_part_of_group = λ w. let z : ◌≡◌ {A = ℕ} 0 (suc (length ((w.0.in_order 0 0).older ++ []))) = ap length (w.0.in_order 0 0).waiting_is in omega arith;
      nothing_made_up = λ w. let z : ◌≡◌ {A = ℕ} 1 0 = ap place_of w.0.replies in omega arith;
      no_short_list = λ w. let z : ◌≡◌ {A = ℕ} 543162368 0 = ap code w.0.replies in omega arith;
      no_newest_first = λ w. let z : ◌≡◌ {A = ℕ} 5 6 = ap (λ xs. get_or xs 0 0) (w.0.in_order 0 0).waiting_is in omega arith;
      nothing_untold = λ w. let z : ◌≡◌ {A = ℕ} 0 1 = ap length w.0.records in omega arith;
      no_wrong_count = λ w. let z : ◌≡◌ {A = ℕ} 0 1 = ap place_of w.0.replies in omega arith;
    }

-- one packet waits, from input 0 to output 0
one_packet : ℕ → ℕ → List ℕ
one_packet zero zero = 5 ∷ []
one_packet zero (suc j) = []
one_packet (suc i) j = []

one_packet_outside : (i j : ℕ) → (1 ≤ i) ⊎ (1 ≤ j) → one_packet i j ≡ []
unfolding one_packet
one_packet_outside zero zero o = absurd (elim o [ inl h ↦ omega arith | inr h ↦ omega arith ])
one_packet_outside zero (suc j) o = refl
one_packet_outside (suc i) j o = refl

offered : Model ℕ
offered = record { gathering = one_packet; clearing = λ i j. []; left = 1 }

waiting : Model ℕ
waiting = record { gathering = λ i j. []; clearing = one_packet; left = 1 }

joined_at : (i j : ℕ) → join 0 j ≡ Some i → (i ≡ 0) × (j ≡ 0)
joined_at i zero e = let z : ◌≡◌ {A = ℕ} 0 i = cc in (sym z, refl)
joined_at i (suc j) e = let z : ◌≡◌ {A = ℕ} 0 1 = cc in absurd (omega arith)

none_lawful : Lawful 1 (λ i j. 0) unjoined
unfolding total largest largest_load pairs_below
none_lawful =
    record {
      setting =
          record {
            inside = λ i j e. let z : ◌≡◌ {A = ℕ} 0 1 = cc in absurd (omega arith);
            once = λ i j k e g. let z : ◌≡◌ {A = ℕ} 0 1 = cc in absurd (omega arith);
          };
      packet = λ i j e. let z : ◌≡◌ {A = ℕ} 0 1 = cc in absurd (omega arith);
      critical = λ p c. absurd (omega (arith, c.busy));
    }

one_lawful : Lawful 1 (counts one_packet) (join 0)
unfolding total largest largest_load one_packet
one_lawful =
    record {
      setting =
          record {
            inside = λ i j e. let w = joined_at i j e in (omega arith, omega arith);
            once = λ i j k e g. let w = joined_at i j e in let v = joined_at i k g in omega arith;
          };
      packet = λ i j e. let w = joined_at i j e in rw (w.0, w.1) (omega arith);
      critical = joined;
    }
  where
    joined : (p : Port) → Critical 1 (counts one_packet) p → Joined (join 0) p
    joined (Input i) c = let z : i ≡ 0 = omega (arith, c.within) in (0, ap Some (sym z))
    joined (Output j) c = let z : j ≡ 0 = omega (arith, c.within) in (0, ap (join 0) z)

comes_about : Stretch 1 1 served_well (made 1)
unfolding total largest largest_load offered waiting one_packet
comes_about =
    let s0 : Stretch 1 1 [] (made 1) = begins 1 1 (omega arith) (omega arith) (omega arith) (omega arith) in
    let s1 : Stretch 1 1 (offer (at 0 0 5) (done 1) ∷ []) offered =
    carries 1 1 [] (made 1) offered (offer (at 0 0 5) (done 1)) (record { no_gathering = one_packet_outside; no_clearing = λ i j o. refl }) s0
    (refl, record { gathers = first; clears = λ i j h g. refl; stays = refl })
    in
    let s2 : Stretch 1 1 (idle_slot 1 ∷ offer (at 0 0 5) (done 1) ∷ []) waiting =
    carries 1 1 (offer (at 0 0 5) (done 1) ∷ []) offered waiting (idle_slot 1) (record { no_gathering = λ i j o. refl; no_clearing = one_packet_outside }) s1
    (refl, record { lawful = none_lawful; written = refl; next = record { gathers = λ i j h g. refl; clears = λ i j h g. refl; again = refl } })
    in
    carries 1 1 (idle_slot 1 ∷ offer (at 0 0 5) (done 1) ∷ []) waiting (made 1) (slot 1 (join 0) (at 0 0 5 ∷ []) (done 1))
    (record { no_gathering = λ i j o. refl; no_clearing = λ i j o. refl }) s2
    (refl, record { lawful = one_lawful; written = refl; next = record { gathers = λ i j h g. refl; clears = λ i j h g. refl; again = refl } })
  where
    first : (i j : ℕ) → i < 1 → j < 1 → one_packet i j ≡ [] ++ of_pair i j (at 0 0 5 ∷ [])
    first zero zero h g = refl
    first zero (suc j) h g = absurd (omega arith)
    first (suc i) j h g = absurd (omega arith)

pub came_about : ComesAbout
came_about = record { model = made 1; stretch = comes_about; last = refl; left = refl }
