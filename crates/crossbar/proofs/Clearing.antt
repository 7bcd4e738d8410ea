-- How settings lower the largest load, and how many it takes to clear what waits.
use Rattle.std.proofs.Common.{◌≡◌, ℕ, ◌+◌, ◌-◌, ◌<◌, ◌≤◌, Bool, true, false, cond, eqb, List, [], ◌∷◌, length, Some, None, Option, sym, refl, ap, ◌∙◌, inl, inr, arith}
use mathlib.Core.Path.{fun_ext}
use Rattle.std.specs.List.{AllByRecursion}
use Rattle.std.proofs.lemmas.Bool.{cases_lt, cases_eq, eqb-true, eq-eqb}
use Rattle.crossbar.specs.Clearing.{served, served_all, Lawful, AllLawful, NoFewer, Lowers, Exactly}
use Rattle.crossbar.specs.Joining.{Joins, IsSetting, Joined, is_input, joined}
use Rattle.crossbar.specs.Loads.{Counts, index, load, largest_load}
use Rattle.crossbar.specs.declared.port.Port.{Port}
use Rattle.crossbar.specs.declared.port.Port.TheVariants.{Input, Output}
use Rattle.crossbar.proofs.Loads.{load_le, loads_le, load_minus, load_minus_exact, none_waits}
use Rattle.crossbar.proofs.Sums.{total_has, total_one, total_zeros}

-- ---- a joined pair counts 1

pub joined_has : (o : Option ℕ) (i : ℕ) → 0 < is_input o i → o ≡ Some i
joined_has None i h = absurd (omega arith)
joined_has (Some a) i h = go (eqb i a) refl h
  where
    go : (b : Bool) → eqb i a ≡ b → 0 < cond b 1 0 → Some a ≡ Some i
    go true e h = ap Some (sym (eqb-true i a e))
    go false e h = absurd (omega arith)

pub joined_yes : (o : Option ℕ) (i : ℕ) → o ≡ Some i → is_input o i ≡ 1
joined_yes o i e = ap (λ x. is_input x i) e ∙ ap (λ b. cond {A = ℕ} b 1 0) (eq-eqb i i refl)

pub joined_le : (o : Option ℕ) (i : ℕ) → is_input o i ≤ 1
joined_le None i = omega arith
joined_le (Some a) i = go (eqb i a)
  where
    go : (b : Bool) → cond b 1 0 ≤ 1
    go true = omega arith
    go false = omega arith

-- at each port at most one pair is joined
pub joined_once : (n : ℕ) (s : Joins) → IsSetting n s → (p : Port) → load n (joined s) p ≤ 1
joined_once n s c (Input i) =
    total_one n (λ j. joined s i j) (λ j _. joined_le (s j) i) (λ j k _ _ a b. c.once i j k (joined_has (s j) i a) (joined_has (s k) i b))
joined_once n s c (Output j) =
    total_one n (λ i. joined s i j) (λ i _. joined_le (s j) i) (λ i k _ _ a b. same i k (joined_has (s j) i a) (joined_has (s j) k b))
  where
    same : (i k : ℕ) → s j ≡ Some i → s j ≡ Some k → i ≡ k
    same i k p q = cc

-- at a joined port one pair is joined
pub joined_some : (n : ℕ) (s : Joins) → IsSetting n s → (p : Port) → Joined s p → 1 ≤ load n (joined s) p
joined_some n s c (Input i) (j, e) =
    omega (arith, total_has n (λ j. joined s i j) j (c.inside i j e).1, joined_yes (s j) i e)
joined_some n s c (Output j) (i, e) =
    omega (arith, total_has n (λ i. joined s i j) i (c.inside i j e).0, joined_yes (s j) i e)

-- ---- the lower bound

-- a setting lowers the largest load by at most one
pub lowers_at_most : (n : ℕ) (d : Counts) (s : Joins) → IsSetting n s → largest_load n d ≤ largest_load n (served s d) + 1
lowers_at_most n d s c =
    loads_le n d _ (λ p h. omega (arith, load_minus n d (joined s) p, joined_once n s c p, load_le n (served s d) p h))

pub no_fewer : (n : ℕ) (d : Counts) → NoFewer n d (largest_load n d)
no_fewer n d [] c = loads_le n d 0 empty
  where
    empty : (p : Port) → index p < n → load n d p ≤ 0
    empty (Input i) h = omega (arith, total_zeros n (λ j. d i j) (λ j k. c.nothing_left i j h k))
    empty (Output j) h = omega (arith, total_zeros n (λ i. d i j) (λ i k. c.nothing_left i j k h))
no_fewer n d (s ∷ ss) c =
    omega (
      arith,
      no_fewer n (served s d) ss (record { settings = c.settings.1; nothing_left = c.nothing_left }),
      lowers_at_most n d s c.settings.0,
    )

-- ---- lawful settings

module _ (n : ℕ) (d : Counts) (s : Joins) (law : Lawful n d s) where
  has : (i j : ℕ) → joined s i j ≤ d i j
  has i j =
      elim (cases_lt 0 (joined s i j)) [
        | inl l ↦ omega (arith, law.packet i j (joined_has (s j) i l), joined_le (s j) i)
        | inr g ↦ omega arith
      ]

  -- each port's load falls, or was below the largest
  falls : (p : Port) → index p < n → 1 ≤ largest_load n d → load n (served s d) p ≤ largest_load n d - 1
  falls p h busy =
      elim (cases_eq (load n d p) (largest_load n d)) [
        | inl e ↦
            omega (
              arith,
              load_minus_exact n d (joined s) p has,
              joined_some n s law.setting p (law.critical p (record { within = h; most = e; busy = busy })),
            )
        | inr e ↦ omega (arith, e, load_le n d p h, load_minus_exact n d (joined s) p has)
      ]

  pub lowers : Lowers n d (served s d)
  lowers =
      record {
        by_one =
            λ busy.
            omega (
              arith,
              loads_le n (served s d) (largest_load n d - 1) (λ p h. falls p h busy),
              lowers_at_most n d s law.setting,
            );
        at_zero = λ e. fun_ext (λ i. fun_ext (λ j. untouched e i j));
      }
    where
      untouched : largest_load n d ≡ 0 → (i j : ℕ) → served s d i j ≡ d i j
      untouched e i j =
          elim (cases_lt 0 (joined s i j)) [
            | inl l ↦
                let o = joined_has (s j) i l in
                let inside = law.setting.inside i j o in
                absurd (omega (arith, law.packet i j o, none_waits n d e i j inside.0 inside.1))
            | inr g ↦ omega arith
          ]

  pub lowered : largest_load n (served s d) ≡ largest_load n d - 1
  lowered =
      elim (cases_lt 0 (largest_load n d)) [
        | inl l ↦ omega (arith, lowers.by_one l)
        | inr g ↦ let z : largest_load n d ≡ 0 = omega arith in omega (arith, ap (largest_load n) (lowers.at_zero z))
      ]

all_settings : (n : ℕ) (d : Counts) (ss : List Joins) → AllLawful n d ss → AllByRecursion (IsSetting n) ss
all_settings n d [] h = tt
all_settings n d (s ∷ ss) h = (h.0.setting, all_settings n (served s d) ss h.1)

lowered_all : (n : ℕ) (d : Counts) (ss : List Joins) → AllLawful n d ss → largest_load n (served_all ss d) ≡ largest_load n d - length ss
lowered_all n d [] h = omega arith
lowered_all n d (s ∷ ss) h = omega (arith, lowered_all n (served s d) ss h.1, lowered n d s h.0)

pub exactly : (n : ℕ) (d : Counts) (ss : List Joins) → AllLawful n d ss → Exactly n d ss
exactly n d ss h =
    record {
      lowered = lowered_all n d ss h;
      clear =
          λ g.
          let z : largest_load n (served_all ss d) ≡ 0 = omega (arith, lowered_all n d ss h) in
          record { settings = all_settings n d ss h; nothing_left = none_waits n (served_all ss d) z };
      no_earlier = no_fewer n d ss;
    }
