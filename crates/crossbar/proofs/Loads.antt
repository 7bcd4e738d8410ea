-- Loads as counts change, and the largest load over all ports.
use Rattle.std.proofs.Common.{◌≡◌, ℕ, ◌+◌, ◌-◌, ◌*◌, ◌<◌, ◌≤◌, Bool, true, false, cond, ◌&&◌, eqb, refl, ap, ◌∙◌, subst, inl, inr, one-mul, mul-zero, mul-one, arith, sym}
use mathlib.Core.Path.{fun_ext}
use Rattle.std.proofs.lemmas.Bool.{cases_Bool, eqb-true}
use Rattle.std.proofs.lemmas.Bool.Decides.{nat_tests}
use Rattle.crossbar.specs.Loads.{Counts, nothing, single, more, one_more, load, index, largest_load, packets}
use Rattle.crossbar.specs.Sums.{total}
use Rattle.crossbar.specs.declared.port.Port.{Port}
use Rattle.crossbar.specs.declared.port.Port.TheVariants.{Input, Output}
use Rattle.crossbar.proofs.Sums.{total_add, total_has, total_less, total_less_exact, total_none, total_same, total_single, total_times, total_zeros, largest_has, largest_le}

-- ---- the largest load

pub load_le : (n : ℕ) (d : Counts) (p : Port) → index p < n → load n d p ≤ largest_load n d
unfolding largest_load
load_le n d (Input i) h = omega (arith, largest_has n (λ k. load n d (Input k)) i h)
load_le n d (Output j) h = omega (arith, largest_has n (λ k. load n d (Output k)) j h)

pub loads_le : (n : ℕ) (d : Counts) (b : ℕ) → ((p : Port) → index p < n → load n d p ≤ b) → largest_load n d ≤ b
unfolding largest_load
loads_le n d b h =
    omega (
      arith,
      largest_le n (λ k. load n d (Input k)) b (λ k l. h (Input k) l),
      largest_le n (λ k. load n d (Output k)) b (λ k l. h (Output k) l),
    )

-- a pair's packets are part of the loads of both its ports
pub count_le : (n : ℕ) (d : Counts) (i j : ℕ) → i < n → j < n → (d i j ≤ load n d (Input i)) × (d i j ≤ load n d (Output j))
count_le n d i j h k = (total_has n (λ q. d i q) j k, total_has n (λ q. d q j) i h)

pub none_waits : (n : ℕ) (d : Counts) → largest_load n d ≡ 0 → (i j : ℕ) → i < n → j < n → d i j ≡ 0
none_waits n d e i j h k = omega (arith, (count_le n d i j h k).0, load_le n d (Input i) h)

-- ---- sums and differences of counts

pub load_same : (n : ℕ) (d e : Counts) (p : Port) → ((i j : ℕ) → d i j ≡ e i j) → load n d p ≡ load n e p
load_same n d e (Input i) h = total_same n (λ j. d i j) (λ j. e i j) (λ j _. h i j)
load_same n d e (Output j) h = total_same n (λ i. d i j) (λ i. e i j) (λ i _. h i j)

pub load_zeros : (n : ℕ) (d : Counts) (p : Port) → ((i j : ℕ) → d i j ≡ 0) → load n d p ≡ 0
load_zeros n d (Input i) h = total_zeros n (λ j. d i j) (λ j _. h i j)
load_zeros n d (Output j) h = total_zeros n (λ i. d i j) (λ i _. h i j)

pub load_plus : (n : ℕ) (d m : Counts) (p : Port) → load n (λ i j. d i j + m i j) p ≡ load n d p + load n m p
load_plus n d m (Input i) = total_add n (λ j. d i j) (λ j. m i j)
load_plus n d m (Output j) = total_add n (λ i. d i j) (λ i. m i j)

pub load_times : (n k : ℕ) (m : Counts) (p : Port) → load n (λ i j. k * m i j) p ≡ k * load n m p
load_times n k m (Input i) = total_times n k (λ j. m i j)
load_times n k m (Output j) = total_times n k (λ i. m i j)

pub load_minus : (n : ℕ) (d m : Counts) (p : Port) → load n d p ≤ load n (λ i j. d i j - m i j) p + load n m p
load_minus n d m (Input i) = total_less n (λ j. d i j) (λ j. m i j)
load_minus n d m (Output j) = total_less n (λ i. d i j) (λ i. m i j)

pub load_minus_exact : (n : ℕ) (d m : Counts) (p : Port) → ((i j : ℕ) → m i j ≤ d i j) → load n (λ i j. d i j - m i j) p + load n m p ≡ load n d p
load_minus_exact n d m (Input i) h = total_less_exact n (λ j. d i j) (λ j. m i j) (λ j _. h i j)
load_minus_exact n d m (Output j) h = total_less_exact n (λ i. d i j) (λ i. m i j) (λ i _. h i j)

-- ---- one pair

-- 1 if the pair of input a and output b is at port p, else 0
abbrev pub touches : ℕ → ℕ → Port → ℕ
touches a b (Input i) = cond (eqb i a) 1 0
touches a b (Output j) = cond (eqb j b) 1 0

pub load_single : (n a b : ℕ) (p : Port) → a < n → b < n → load n (single a b) p ≡ touches a b p
load_single n a b (Input i) h k = go (eqb i a)
  where
    go : (t : Bool) → total n (λ j. cond (t && eqb j b) 1 0) ≡ cond t 1 0
    go true = total_single n b k
    go false = total_none n
load_single n a b (Output j) h k = go (eqb j b)
  where
    go : (t : Bool) → total n (λ i. cond (eqb i a && t) 1 0) ≡ cond t 1 0
    go true = total_same n (λ i. cond (eqb i a && true) 1 0) (λ i. cond (eqb i a) 1 0) (λ i _. grind (arith, nat_tests)) ∙ total_single n a h
    go false = total_zeros n (λ i. cond (eqb i a && false) 1 0) (λ i _. grind (arith, nat_tests))

-- k packets more at a pair raise the loads of its two ports by k
pub load_raised : (n k a b : ℕ) (d : Counts) (p : Port) → a < n → b < n → load n (more k a b d) p ≡ load n d p + k * touches a b p
load_raised n k a b d p h l =
    load_plus n d (λ i j. k * single a b i j) p
    ∙ ap (λ x. load n d p + x) (load_times n k (single a b) p ∙ ap (λ x. k * x) (load_single n a b p h l))

-- k packets more at a pair whose two loads leave room for them keep every load within the bound
pub many_within : (n k a b bound : ℕ) (d : Counts) → a < n → b < n → largest_load n d ≤ bound → load n d (Input a) + k ≤ bound → load n d (Output b) + k ≤ bound → largest_load n (more k a b d) ≤ bound
many_within n k a b bound d h l most i j = loads_le n (more k a b d) bound within
  where
    at : (x y : ℕ) (f : ℕ → ℕ) → f y + k ≤ bound → f x ≤ bound → f x + k * cond (eqb x y) 1 0 ≤ bound
    at x y f low le =
        elim (cases_Bool (eqb x y)) [
          | inl e ↦ omega (arith, ap (λ t. k * cond {A = ℕ} t 1 0) e, mul-one k, ap f (eqb-true x y e))
          | inr e ↦ omega (arith, ap (λ t. k * cond {A = ℕ} t 1 0) e, mul-zero k)
        ]

    within : (p : Port) → index p < n → load n (more k a b d) p ≤ bound
    within (Input x) m =
        omega (
          arith,
          load_raised n k a b d (Input x) h l,
          at x a (λ q. load n d (Input q)) i (omega (arith, load_le n d (Input x) m)),
        )
    within (Output x) m =
        omega (
          arith,
          load_raised n k a b d (Output x) h l,
          at x b (λ q. load n d (Output q)) j (omega (arith, load_le n d (Output x) m)),
        )

pub more_one : (a b : ℕ) (d : Counts) → more 1 a b d ≡ one_more a b d
more_one a b d = fun_ext (λ i. fun_ext (λ j. ap (λ x. d i j + x) (one-mul (single a b i j))))

-- one packet more at a pair whose two loads are below a bound leaves every load within it
pub more_within : (n a b bound : ℕ) (d : Counts) → a < n → b < n → largest_load n d ≤ bound → load n d (Input a) < bound → load n d (Output b) < bound → largest_load n (one_more a b d) ≤ bound
more_within n a b bound d h k most i j =
    subst (λ e. largest_load n e ≤ bound) (more_one a b d) (many_within n 1 a b bound d h k most (omega arith) (omega arith))

-- ---- all packets

-- all packets, less some of each pair, with those that were taken
pub packets_minus : (n : ℕ) (d m : Counts) → ((i j : ℕ) → m i j ≤ d i j) → packets n (λ i j. d i j - m i j) + packets n m ≡ packets n d
packets_minus n d m h =
    sym (total_add n (λ i. load n (λ i j. d i j - m i j) (Input i)) (λ i. load n m (Input i)))
    ∙ total_same n _ _ (λ i _. load_minus_exact n d m (Input i) h)

pub packets_single : (n a b : ℕ) → a < n → b < n → packets n (single a b) ≡ 1
packets_single n a b h k = total_same n _ _ (λ i _. load_single n a b (Input i) h k) ∙ total_single n a h

pub largest_nothing : (n : ℕ) → largest_load n nothing ≡ 0
largest_nothing n = omega (arith, loads_le n nothing 0 (λ p _. omega (arith, load_zeros n nothing p (λ i j. refl))))
