-- Packets added until every load is the same.
use Rattle.std.proofs.Common.{◌≡◌, ℕ, ◌+◌, ◌*◌, ◌<◌, ◌≤◌, cond, eqb, ◌⊎◌, sym, ap, ◌∙◌, inl, inr, mul-zero, arith, below_more}
use Rattle.std.proofs.lemmas.Bool.{cases_lt, ne_eqb}
use Rattle.crossbar.specs.Loads.{Counts, Critical, index, largest_load, load, more}
use Rattle.crossbar.specs.Sums.{total}
use Rattle.crossbar.specs.declared.port.Port.{Port}
use Rattle.crossbar.specs.declared.port.Port.TheVariants.{Input, Output}
use Rattle.crossbar.proofs.Loads.{load_le, load_raised, many_within}
use Rattle.crossbar.proofs.Sums.{total_same}
use Rattle.policy.proofs.Counting.{total_lt, total_swap}

-- e has grown from d; no load in it passes `level`, which the inputs below a and the outputs below b have reached
pub record Rising (n : ℕ) (d : Counts) (level : ℕ) (e : Counts) (a b : ℕ) : Type 0 where
  pub kept : (i j : ℕ) → d i j ≤ e i j
  pub within : largest_load n e ≤ level
  pub inputs : (k : ℕ) → k < a → load n e (Input k) ≡ level
  pub outputs : (k : ℕ) → k < b → load n e (Output k) ≡ level

-- before the first step: nothing is added, and no port is done
pub rising_none : (n : ℕ) (d : Counts) → Rising n d (largest_load n d) d 0 0
rising_none n d =
    record {
      kept = λ i j. omega arith;
      within = omega arith;
      inputs = λ k l. absurd (omega arith);
      outputs = λ k l. absurd (omega arith);
    }

module _ (n : ℕ) (d : Counts) (level : ℕ) (e : Counts) (a b : ℕ) (r : Rising n d level e a b) where
  pub rising_more : (m : ℕ) → a < n → b < n → load n e (Input a) + m ≤ level → load n e (Output b) + m ≤ level → Rising n d level (more m a b e) a b
  rising_more m la lb at_input at_output =
      record {
        kept = λ i j. omega (arith, r.kept i j);
        within = many_within n m a b level e la lb r.within at_input at_output;
        inputs = λ k l. omega (arith, load_raised n m a b e (Input k) la lb, apart k a (omega arith), r.inputs k l);
        outputs = λ k l. omega (arith, load_raised n m a b e (Output k) la lb, apart k b (omega arith), r.outputs k l);
      }
    where
      apart : (x y : ℕ) → (x ≡ y → ⊥) → m * cond {A = ℕ} (eqb x y) 1 0 ≡ 0
      apart x y ne = ap (λ t. m * cond {A = ℕ} t 1 0) (ne_eqb x y ne) ∙ mul-zero m

  pub input_full : load n e (Input a) ≡ level → Rising n d level e (a + 1) b
  input_full full = record { kept = r.kept; within = r.within; inputs = below_more _ a r.inputs full; outputs = r.outputs }

  pub output_full : load n e (Output b) ≡ level → Rising n d level e a (b + 1)
  output_full full = record { kept = r.kept; within = r.within; inputs = r.inputs; outputs = below_more _ b r.outputs full }

-- summands that reach a bound all, and others of the same sum that do not pass it: those reach it too
all_reach : (n level : ℕ) (f g : ℕ → ℕ) → total n f ≡ total n g → ((k : ℕ) → k < n → f k ≡ level) → ((k : ℕ) → k < n → g k ≤ level) → (k : ℕ) → k < n → g k ≡ level
all_reach n level f g same full most k l =
    elim (cases_lt (g k) level) [
      | inl low ↦ absurd (omega (arith, total_lt n g (λ _. level) k most l low, total_same n f (λ _. level) full))
      | inr high ↦ omega (arith, most k l)
    ]

-- once one side is full, so is the other
pub rising_all : (n : ℕ) (d : Counts) (level : ℕ) (e : Counts) (a b : ℕ) → Rising n d level e a b → (n ≤ a) ⊎ (n ≤ b) → (p : Port) → index p < n → load n e p ≡ level
rising_all n d level e a b r (inl g) (Input i) l = r.inputs i (omega arith)
rising_all n d level e a b r (inl g) (Output j) l =
    all_reach n level (λ i. load n e (Input i)) (λ j. load n e (Output j)) (total_swap n n e)
    (λ k m. r.inputs k (omega arith)) (λ k m. omega (arith, load_le n e (Output k) m, r.within)) j l
rising_all n d level e a b r (inr g) (Output j) l = r.outputs j (omega arith)
rising_all n d level e a b r (inr g) (Input i) l =
    all_reach n level (λ j. load n e (Output j)) (λ i. load n e (Input i)) (sym (total_swap n n e))
    (λ k m. r.outputs k (omega arith)) (λ k m. omega (arith, load_le n e (Input k) m, r.within)) i l

-- where no summand fell and the sum is the same, each is the same
none_rose : (n : ℕ) (f g : ℕ → ℕ) → ((k : ℕ) → f k ≤ g k) → total n f ≡ total n g → (k : ℕ) → k < n → g k ≡ f k
none_rose n f g le same k l =
    elim (cases_lt (f k) (g k)) [
      | inl low ↦ absurd (omega (arith, total_lt n f g k (λ x _. le x) l low))
      | inr high ↦ omega (arith, le k)
    ]

module _ (n : ℕ) (d e : Counts) (kept : (i j : ℕ) → d i j ≤ e i j) (level : (p : Port) → index p < n → load n e p ≡ largest_load n d) where
  pub critical_input : (i j : ℕ) → j < n → Critical n d (Input i) → e i j ≡ d i j
  critical_input i j l c = none_rose n (d i) (e i) (kept i) (c.most ∙ sym (level (Input i) c.within)) j l

  pub critical_output : (i j : ℕ) → i < n → Critical n d (Output j) → e i j ≡ d i j
  critical_output i j l c =
      none_rose n (λ k. d k j) (λ k. e k j) (λ k. kept k j) (c.most ∙ sym (level (Output j) c.within)) i l
