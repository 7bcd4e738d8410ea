-- What the tests of a pair tell.
use Rattle.std.proofs.Common.{◌≡◌, ℕ, ◌+◌, ◌-◌, ◌<◌, ◌≤◌, Bool, true, false, ◌&&◌, ltb, leb, ◌⊎◌, sym, ◌∙◌, inl, inr, arith, add-one}
use Rattle.std.proofs.lemmas.Bool.{and_cases, and_from, and_parts, cases_lt, le-leb, leb-true, lt-leb, lt-ltb, ltb-false, ltb-true}
use Rattle.crossbar.specs.Loads.{index}
use Rattle.crossbar.specs.Models.{has_pair, has_room_for, load_of, size, waiting, has_room}
use Rattle.crossbar.specs.declared.demand.Demand.{Demand}
use Rattle.crossbar.specs.declared.port.Pair.{Pair}
use Rattle.crossbar.specs.declared.port.Port.{Port}
use Rattle.crossbar.specs.declared.port.Port.TheVariants.{Input, Output}
use Rattle.crossbar.proofs.Loads.{load_le}
use Rattle.crossbar.proofs.Places.{grid_outside}
use Rattle.crossbar.proofs.Sums.{total_zeros}

pub inside_from_pair : (d : Demand) (p : Pair) → has_pair d p ≡ true → (p.input < size d) × (p.output < size d)
inside_from_pair d p e =
    let t = and_parts (ltb p.input (size d)) (ltb p.output (size d)) e in
    (ltb-true p.input (size d) t.0, ltb-true p.output (size d) t.1)

pub outside_from_pair : (d : Demand) (p : Pair) → has_pair d p ≡ false → waiting d p.input p.output ≡ 0
outside_from_pair d p e = grid_outside (size d) d.counts p.input p.output (which (and_cases _ _ e))
  where
    which : (ltb p.input (size d) ≡ false) ⊎ (ltb p.output (size d) ≡ false) → (size d ≤ p.input) ⊎ (size d ≤ p.output)
    which (inl f) = inl (ltb-false p.input (size d) f)
    which (inr f) = inr (ltb-false p.output (size d) f)

-- a pair with a packet is one of the n × n
pub waits_inside : (d : Demand) (i j : ℕ) → 1 ≤ waiting d i j → (i < size d) × (j < size d)
waits_inside d i j h =
    elim (cases_lt i (size d)) [
      | inl a ↦
          elim (cases_lt j (size d)) [
            | inl b ↦ (a, b)
            | inr b ↦ absurd (omega (arith, grid_outside (size d) d.counts i j (inr b)))
          ]
      | inr a ↦ absurd (omega (arith, grid_outside (size d) d.counts i j (inl a)))
    ]

pub pair_from_count : (d : Demand) (p : Pair) → 1 ≤ waiting d p.input p.output → has_pair d p ≡ true
pair_from_count d p h =
    let (i, o) = waits_inside d p.input p.output h in
    and_from (ltb p.input (size d)) (ltb p.output (size d)) (lt-ltb p.input (size d) i) (lt-ltb p.output (size d) o)

-- where there is room for k packets, the pair is there and both loads can rise by k
pub record Room (bound k : ℕ) (d : Demand) (p : Pair) : Type 0 where
  pub input : p.input < size d
  pub output : p.output < size d
  pub at_input : load_of d (Input p.input) + k ≤ bound
  pub at_output : load_of d (Output p.output) + k ≤ bound

pub room_from_test : (bound k : ℕ) (d : Demand) (p : Pair) → has_room_for bound k d p ≡ true → Room bound k d p
room_from_test bound k d p e =
    let at_input : Bool = leb (load_of d (Input p.input) + k) bound in
    let at_output : Bool = leb (load_of d (Output p.output) + k) bound in
    let a = and_parts (has_pair d p && at_input) at_output e in
    let b = and_parts (has_pair d p) at_input a.0 in
    let inside = inside_from_pair d p b.0 in
    record {
      input = inside.0;
      output = inside.1;
      at_input = leb-true (load_of d (Input p.input) + k) bound b.1;
      at_output = leb-true (load_of d (Output p.output) + k) bound a.1;
    }

-- room for one packet is what `has_room` tests
pub room_for_one : (bound : ℕ) (d : Demand) (p : Pair) → has_room_for bound 1 d p ≡ has_room bound d p
room_for_one bound d p = simp add-one

-- what a load leaves of the bound, compared, is the sum compared
pub room_left : (bound k x : ℕ) → x ≤ bound → leb k (bound - x) ≡ leb (x + k) bound
room_left bound k x h =
    elim (cases_lt bound (x + k)) [
      | inl l ↦ lt-leb k (bound - x) (omega arith) ∙ sym (lt-leb (x + k) bound l)
      | inr g ↦ le-leb k (bound - x) (omega arith) ∙ sym (le-leb (x + k) bound (omega arith))
    ]

-- a port with a load is one of the n
pub port_inside : (d : Demand) (p : Port) → 1 ≤ load_of d p → index p < size d
port_inside d (Input i) h =
    elim (cases_lt i (size d)) [
      | inl l ↦ l
      | inr g ↦
          absurd (omega (arith, total_zeros (size d) (λ j. waiting d i j) (λ j _. grid_outside (size d) d.counts i j (inl g))))
    ]
port_inside d (Output j) h =
    elim (cases_lt j (size d)) [
      | inl l ↦ l
      | inr g ↦
          absurd (omega (arith, total_zeros (size d) (λ i. waiting d i j) (λ i _. grid_outside (size d) d.counts i j (inr g))))
    ]

-- no port has a load above 1,024, be it one of the n or not
pub load_within : (d : Demand) (p : Port) → load_of d p ≤ 1024
load_within d p =
    elim (cases_lt 0 (load_of d p)) [
      | inl l ↦ omega (arith, load_le (size d) (waiting d) p (port_inside d p l), d.bounded)
      | inr g ↦ omega arith
    ]
