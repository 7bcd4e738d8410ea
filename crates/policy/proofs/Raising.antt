-- Raising a demand pair by pair.
use Rattle.std.proofs.Common.{◌≡◌, ℕ, ◌+◌, ◌-◌, ◌*◌, ◌<◌, ◌≤◌, min, Bool, true, cond, eqb, ◌⊎◌, sym, refl, ap, ◌∙◌, subst, inl, inr, mul-one, arith}
use Rattle.std.proofs.lemmas.Bool.{and_from, cases_lt, eq-eqb, le-leb, lt-ltb}
use Rattle.std.proofs.lemmas.Bool.Decides.{when_true}
use Rattle.crossbar.specs.Calls.{AddedMany}
use Rattle.crossbar.specs.Loads.{index, load, more}
use Rattle.crossbar.specs.Models.{has_room_for, largest_of, load_of, size, waiting}
use Rattle.crossbar.specs.declared.demand.Demand.{Demand}
use Rattle.crossbar.specs.declared.port.Port.{Port}
use Rattle.crossbar.specs.declared.port.Port.TheVariants.{Input, Output}
use Rattle.crossbar.specs.declared.ports.Ports.{Ports}
use Rattle.crossbar.proofs.Loads.{load_le, load_raised}
use Rattle.crossbar.proofs.Places.{grid_outside}
use Rattle.policy.specs.Raising.{Raised}
use Rattle.policy.proofs.Levelling.{Rising, critical_input, critical_output, input_full, output_full, rising_all, rising_more}

module _ (d r : Demand) (level a b : ℕ) (ports : r.ports ≡ d.ports) (rise : Rising (size d) (waiting d) level (waiting r) a b) where
  pub sizes : size r ≡ size d
  sizes = ap (λ (p : Ports). p.count) ports

  same_load : (p : Port) → load_of r p ≡ load (size d) (waiting r) p
  same_load p = ap (λ n. load n (waiting r) p) sizes

  pub load_low : (p : Port) → index p < size d → load_of r p ≤ level
  load_low p l = omega (arith, same_load p, load_le (size d) (waiting r) p l, rise.within)

  -- as many packets more from input a to output b as the nearer of the two loads, x and y, is short of the level
  module _ (la : a < size d) (lb : b < size d) (fits : level ≤ 1024) (x y m : ℕ) (at_a : x ≡ load_of r (Input a)) (at_b : y ≡ load_of r (Output b)) (short : m ≡ min (level - x) (level - y))
      (possible : Bool) (after : Demand) (added : AddedMany r (record { input = a; output = b }) m possible after) where
    at_input : load_of r (Input a) + m ≤ level
    at_input = omega (arith, load_low (Input a) la)

    at_output : load_of r (Output b) + m ≤ level
    at_output = omega (arith, load_low (Output b) lb)

    room : has_room_for 1024 m r (record { input = a; output = b }) ≡ true
    room =
        and_from _ _
        (and_from _ _ (and_from _ _ (lt-ltb a (size r) (omega (arith, sizes))) (lt-ltb b (size r) (omega (arith, sizes)))) (le-leb (load_of r (Input a) + m) 1024 (omega (arith, at_input))))
        (le-leb (load_of r (Output b) + m) 1024 (omega (arith, at_output)))

    counts : waiting after ≡ more m a b (waiting r)
    counts = when_true (waiting after ≡ more m a b (waiting r)) (after ≡ r) (added.tested ∙ room) added.counts

    rises : Rising (size d) (waiting d) level (waiting after) a b
    rises =
        subst (λ e. Rising (size d) (waiting d) level e a b) (sym counts)
        (rising_more (size d) (waiting d) level (waiting r) a b rise m la lb (omega (arith, at_input, same_load (Input a))) (omega (arith, at_output, same_load (Output b))))

    here : (x : ℕ) → m * cond {A = ℕ} (eqb x x) 1 0 ≡ m
    here x = ap (λ t. m * cond {A = ℕ} t 1 0) (eq-eqb x x refl) ∙ mul-one m

    pub step_input : level - x ≤ level - y → Rising (size d) (waiting d) level (waiting after) (a + 1) b
    step_input nearer =
        input_full _ _ _ _ _ _ rises
        (omega (arith, ap (λ e. load (size d) e (Input a)) counts, load_raised (size d) m a b (waiting r) (Input a) la lb, here a, same_load (Input a), load_low (Input a) la))

    pub step_output : level - y ≤ level - x → Rising (size d) (waiting d) level (waiting after) a (b + 1)
    step_output nearer =
        output_full _ _ _ _ _ _ rises
        (omega (arith, ap (λ e. load (size d) e (Output b)) counts, load_raised (size d) m a b (waiting r) (Output b) la lb, here b, same_load (Output b), load_low (Output b) lb))

  -- once one side is full, the demand is raised
  pub raised : level ≡ largest_of d → (size d ≤ a) ⊎ (size d ≤ b) → Raised d r
  raised top full =
      record {
        ports = ports;
        level = λ p l. same_load p ∙ even p l;
        kept = rise.kept;
        at_input =
            λ i j c.
            elim (cases_lt j (size d)) [
              | inl l ↦ critical_input (size d) (waiting d) (waiting r) rise.kept even i j l c
              | inr g ↦ outside i j (inr g)
            ];
        at_output =
            λ i j c.
            elim (cases_lt i (size d)) [
              | inl l ↦ critical_output (size d) (waiting d) (waiting r) rise.kept even i j l c
              | inr g ↦ outside i j (inl g)
            ];
      }
    where
      even : (p : Port) → index p < size d → load (size d) (waiting r) p ≡ largest_of d
      even p l = rising_all (size d) (waiting d) level (waiting r) a b rise full p l ∙ top

      outside : (i j : ℕ) → (size d ≤ i) ⊎ (size d ≤ j) → waiting r i j ≡ waiting d i j
      outside i j (inl g) = grid_outside (size r) r.counts i j (inl (omega (arith, sizes))) ∙ sym (grid_outside (size d) d.counts i j (inl g))
      outside i j (inr g) = grid_outside (size r) r.counts i j (inr (omega (arith, sizes))) ∙ sym (grid_outside (size d) d.counts i j (inr g))
