-- The ports of one side after one count is written. Said of inputs; outputs follow by turning the demand.
use Rattle.std.proofs.Common.{◌≡◌, ℕ, zero, suc, ◌+◌, ◌-◌, ◌*◌, ◌<◌, ◌≤◌, Bool, true, false, cond, ◌&&◌, eqb, ltb, List, get_or, set, replicate, sym, refl, ap, ◌∙◌, inl, inr, mul-zero, mul-one, arith, []}
use mathlib.Core.Path.{fun_ext}
use Rattle.crossbar.specs.Arrays.{Square, grid}
use Rattle.std.proofs.lemmas.List.{get_or-set_same, get_or-set_other, length-set}
use Rattle.std.proofs.lemmas.Bool.{and_from, and_left, and_parts, cases_Bool, cases_eq, eq-eqb, eqb-true, lt-ltb, ne_eqb}
use Rattle.crossbar.specs.Loads.{Counts, index, load, largest_load, packets, single, turned, with_count, more, one_less}
use Rattle.crossbar.specs.Sums.{total}
use Rattle.crossbar.specs.Sides.{Tells, at_port, idle}
use Rattle.crossbar.specs.declared.port.Port.{Port}
use Rattle.crossbar.specs.declared.port.Port.TheVariants.{Input, Output}
use Rattle.crossbar.specs.declared.side.PortLoad.{PortLoad}
use Rattle.crossbar.proofs.Loads.{count_le, load_le, load_plus, load_same, load_single, load_times, load_zeros, loads_le, touches}
use Rattle.crossbar.proofs.Places.{grid_inside, grid_set}
use Rattle.crossbar.proofs.Sums.{total_add, total_same, total_single, total_times}
use Rattle.mask.proofs.Digits.{zero_bit}
use Rattle.mask.specs.Bits.{holds}

-- a pair is the written one, or its count stays
pub count_here : (v a b : ℕ) (d : Counts) (i j : ℕ) → i ≡ a → j ≡ b → with_count v a b d i j ≡ v
count_here v a b d i j p q = ap (λ t. cond t v (d i j)) (and_from (eqb i a) (eqb j b) (eq-eqb i a p) (eq-eqb j b q))

pub count_other : (v a b : ℕ) (d : Counts) (i j : ℕ) → ((i ≡ a) × (j ≡ b) → ⊥) → with_count v a b d i j ≡ d i j
count_other v a b d i j ne =
    elim (cases_Bool (eqb i a && eqb j b)) [
      | inl e ↦ let p = and_parts (eqb i a) (eqb j b) e in absurd (ne (eqb-true i a p.0, eqb-true j b p.1))
      | inr e ↦ ap (λ t. cond t v (d i j)) e
    ]

-- the written count, seen from the other side
pub turned_count : (v a b : ℕ) (d : Counts) → turned (with_count v a b d) ≡ with_count v b a (turned d)
turned_count v a b d = fun_ext (λ j. fun_ext (λ i. ap (λ t. cond t v (d i j)) (swap (eqb i a) (eqb j b))))
  where
    swap : (s t : Bool) → (s && t) ≡ (t && s)
    swap true true = refl
    swap true false = refl
    swap false true = refl
    swap false false = refl

-- where one waits at a pair, the pair alone is part of what waits
pub single_le : (a b : ℕ) (d : Counts) → 1 ≤ d a b → (i j : ℕ) → single a b i j ≤ d i j
single_le a b d waits i j =
    elim (cases_Bool (eqb i a && eqb j b)) [
      | inl e ↦
          let p = and_parts (eqb i a) (eqb j b) e in
          let here : d i j ≡ d a b = ap (λ x. d x j) (eqb-true i a p.0) ∙ ap (λ x. d a x) (eqb-true j b p.1) in
          omega (arith, here, waits, ap (λ t. cond {A = ℕ} t 1 0) e)
      | inr e ↦ omega (arith, ap (λ t. cond {A = ℕ} t 1 0) e)
    ]

-- one count changed by f, a sum or a difference, which changes nothing at 0
count_change : (a b : ℕ) (d : Counts) (f : ℕ → ℕ → ℕ) → ((x : ℕ) → f x 0 ≡ x) → with_count (f (d a b) 1) a b d ≡ (λ i j. f (d i j) (single a b i j))
count_change a b d f same = fun_ext (λ i. fun_ext (λ j. at i j))
  where
    at : (i j : ℕ) → with_count (f (d a b) 1) a b d i j ≡ f (d i j) (single a b i j)
    at i j =
        elim (cases_Bool (eqb i a && eqb j b)) [
          | inl e ↦
              let p = and_parts (eqb i a) (eqb j b) e in
              let here : d i j ≡ d a b = ap (λ x. d x j) (eqb-true i a p.0) ∙ ap (λ x. d a x) (eqb-true j b p.1) in
              ap (λ t. cond t (f (d a b) 1) (d i j)) e
              ∙ ap (λ x. f x 1) (sym here)
              ∙ sym (ap (λ t. f (d i j) (cond {A = ℕ} t 1 0)) e)
          | inr e ↦
              ap (λ t. cond t (f (d a b) 1) (d i j)) e
              ∙ sym (same (d i j))
              ∙ sym (ap (λ t. f (d i j) (cond {A = ℕ} t 1 0)) e)
        ]

-- the same of the rows of a demand: one count changed by f, m more, and one less
module _ (n : ℕ) (rows : List (List ℕ)) (a b : ℕ) (square : Square rows) (few : n ≤ 16) (h : a < n) (k : b < n) where
  pub grid_change : (f : ℕ → ℕ → ℕ) → ((x : ℕ) → f x 0 ≡ x) → grid n (set rows a (set (get_or rows a []) b (f (get_or (get_or rows a []) b 0) 1))) ≡ (λ i j. f (grid n rows i j) (single a b i j))
  grid_change f same =
      grid_set n rows a b (f (get_or (get_or rows a []) b 0) 1) square few h k
      ∙ ap (λ x. with_count (f x 1) a b (grid n rows)) (sym (grid_inside n rows a b h k))
      ∙ count_change a b (grid n rows) f same

  pub grid_more : (m : ℕ) → grid n (set rows a (set (get_or rows a []) b (get_or (get_or rows a []) b 0 + m))) ≡ more m a b (grid n rows)
  grid_more m =
      ap (λ x. grid n (set rows a (set (get_or rows a []) b (get_or (get_or rows a []) b 0 + x)))) (sym (mul-one m))
      ∙ grid_change (λ x y. x + m * y) (λ x. omega (arith, mul-zero m))

  pub grid_less : grid n (set rows a (set (get_or rows a []) b (get_or (get_or rows a []) b 0 - 1))) ≡ one_less a b (grid n rows)
  grid_less = grid_change (λ x y. x - y) (λ x. omega arith)

module _ (n v a b : ℕ) (d : Counts) (h : a < n) (k : b < n) where
  -- a load falls by the old count and rises by the new one, if the pair is at its port
  pub load_set : (p : Port) → load n (with_count v a b d) p + d a b * touches a b p ≡ load n d p + v * touches a b p
  load_set p =
      ap (λ x. load n (with_count v a b d) p + x) (sym (times (d a b)))
      ∙ sym (load_plus n (with_count v a b d) (λ i j. d a b * single a b i j) p)
      ∙ load_same n _ _ p at
      ∙ load_plus n d (λ i j. v * single a b i j) p
      ∙ ap (λ x. load n d p + x) (times v)
    where
      times : (m : ℕ) → load n (λ i j. m * single a b i j) p ≡ m * touches a b p
      times m = load_times n m (single a b) p ∙ ap (λ x. m * x) (load_single n a b p h k)

      at : (i j : ℕ) → with_count v a b d i j + d a b * single a b i j ≡ d i j + v * single a b i j
      at i j =
          elim (cases_Bool (eqb i a && eqb j b)) [
            | inl e ↦
                let p = and_parts (eqb i a) (eqb j b) e in
                let here : d i j ≡ d a b = ap (λ x. d x j) (eqb-true i a p.0) ∙ ap (λ x. d a x) (eqb-true j b p.1) in
                omega (
                  arith,
                  here,
                  ap (λ t. cond t v (d i j)) e,
                  ap (λ t. d a b * cond {A = ℕ} t 1 0) e,
                  ap (λ t. v * cond {A = ℕ} t 1 0) e,
                  mul-one v,
                  mul-one (d a b),
                )
            | inr e ↦
                omega (
                  arith,
                  ap (λ t. cond t v (d i j)) e,
                  ap (λ t. d a b * cond {A = ℕ} t 1 0) e,
                  ap (λ t. v * cond {A = ℕ} t 1 0) e,
                  mul-zero v,
                  mul-zero (d a b),
                )
          ]

  -- the loads of a side whose port x is the pair's, and of its other ports
  at_port_of_pair : (p : Port) (x y : ℕ) → touches a b p ≡ cond (eqb x y) 1 0 → x ≡ y → load n (with_count v a b d) p + d a b ≡ load n d p + v
  at_port_of_pair p x y t e =
      let one : touches a b p ≡ 1 = t ∙ ap (λ q. cond {A = ℕ} q 1 0) (eq-eqb x y e) in
      omega (arith, load_set p, ap (λ q. d a b * q) one, ap (λ q. v * q) one, mul-one v, mul-one (d a b))

  at_port_else : (p : Port) (x y : ℕ) → touches a b p ≡ cond (eqb x y) 1 0 → (x ≡ y → ⊥) → load n (with_count v a b d) p ≡ load n d p
  at_port_else p x y t ne =
      let none : touches a b p ≡ 0 = t ∙ ap (λ q. cond {A = ℕ} q 1 0) (ne_eqb x y ne) in
      omega (arith, load_set p, ap (λ q. d a b * q) none, ap (λ q. v * q) none, mul-zero v, mul-zero (d a b))

  -- all packets fall by the old count and rise by the new one
  pub packets_set : packets n (with_count v a b d) + d a b ≡ packets n d + v
  packets_set =
      omega (
        arith,
        total_add n (λ i. load n (with_count v a b d) (Input i)) (λ i. d a b * cond (eqb i a) 1 0),
        total_add n (λ i. load n d (Input i)) (λ i. v * cond (eqb i a) 1 0),
        total_same n _ _ (λ i _. load_set (Input i)),
        here (d a b),
        here v,
      )
    where
      here : (m : ℕ) → total n (λ i. m * cond (eqb i a) 1 0) ≡ m
      here m = total_times n m (λ i. cond (eqb i a) 1 0) ∙ ap (λ x. m * x) (total_single n a h) ∙ mul-one m

  -- where both loads of the pair have room for the new count, every load is within the bound
  pub counted_within : (bound : ℕ) → largest_load n d ≤ bound → load n d (Input a) + v ≤ bound + d a b → load n d (Output b) + v ≤ bound + d a b → largest_load n (with_count v a b d) ≤ bound
  counted_within bound most at_input at_output = loads_le n (with_count v a b d) bound within
    where
      within : (p : Port) → index p < n → load n (with_count v a b d) p ≤ bound
      within (Input i) l =
          elim (cases_eq i a) [
            | inl e ↦ omega (arith, at_port_of_pair (Input i) i a refl e, ap (λ x. load n d (Input x)) e)
            | inr ne ↦ omega (arith, at_port_else (Input i) i a refl ne, load_le n d (Input i) l)
          ]
      within (Output j) l =
          elim (cases_eq j b) [
            | inl e ↦ omega (arith, at_port_of_pair (Output j) j b refl e, ap (λ x. load n d (Output x)) e)
            | inr ne ↦ omega (arith, at_port_else (Output j) j b refl ne, load_le n d (Output j) l)
          ]

  -- the ports of the side tell the new counts, once the pair's own port does
  module _ (ports : List PortLoad) (x : PortLoad) (tells : Tells n ports d) (few : n ≤ 16) where
    there : (i : ℕ) → i ≡ a → at_port (set ports a x) i ≡ x
    there i e = ap (λ y. get_or (set ports a x) y idle) e ∙ get_or-set_same ports a x idle (omega (arith, tells.sixteen))

    elsewhere : (i : ℕ) → (i ≡ a → ⊥) → at_port (set ports a x) i ≡ at_port ports i
    elsewhere i ne = get_or-set_other ports a i x idle ne

    pub tells_set : x.load ≡ (at_port ports a).load - d a b + v → ((q : ℕ) → holds x.links q ≡ cond (eqb q b && ltb q 16) (ltb 0 v) (holds (at_port ports a).links q)) → Tells n (set ports a x) (with_count v a b d)
    tells_set loaded marked = record { sixteen = length-set ports a x ∙ tells.sixteen; loads = loads; marks = marks }
      where
        loads : (i : ℕ) → (at_port (set ports a x) i).load ≡ load n (with_count v a b d) (Input i)
        loads i =
            elim (cases_eq i a) [
              | inl e ↦
                  let new : (at_port (set ports a x) i).load ≡ x.load = ap (λ (y : PortLoad). y.load) (there i e) in
                  let same : load n d (Input i) ≡ load n d (Input a) = ap (λ y. load n d (Input y)) e in
                  omega (arith, new, loaded, tells.loads a, (count_le n d a b h k).0, at_port_of_pair (Input i) i a refl e, same)
              | inr ne ↦ ap (λ (y : PortLoad). y.load) (elsewhere i ne) ∙ tells.loads i ∙ sym (at_port_else (Input i) i a refl ne)
            ]

        marks : (i j : ℕ) → holds (at_port (set ports a x) i).links j ≡ ltb 0 (with_count v a b d i j)
        marks i j =
            elim (cases_eq i a) [
              | inl e ↦
                  elim (cases_eq j b) [
                    | inl q ↦
                        ap (λ (y : PortLoad). holds y.links j) (there i e)
                        ∙ marked j
                        ∙ ap (λ t. cond t (ltb 0 v) (holds (at_port ports a).links j)) (and_from (eqb j b) (ltb j 16) (eq-eqb j b q) (lt-ltb j 16 (omega arith)))
                        ∙ ap (ltb 0) (sym (count_here v a b d i j e q))
                    | inr q ↦
                        ap (λ (y : PortLoad). holds y.links j) (there i e)
                        ∙ marked j
                        ∙ ap (λ t. cond t (ltb 0 v) (holds (at_port ports a).links j)) (and_left (eqb j b) (ltb j 16) (ne_eqb j b q))
                        ∙ tells.marks a j
                        ∙ ap (λ y. ltb 0 (d y j)) (sym e)
                        ∙ ap (ltb 0) (sym (count_other v a b d i j (λ z. q z.1)))
                  ]
              | inr e ↦
                  ap (λ (y : PortLoad). holds y.links j) (elsewhere i e) ∙ tells.marks i j ∙ ap (ltb 0) (sym (count_other v a b d i j (λ z. e z.0)))
            ]

-- ports at which nothing waits tell of a demand in which nothing waits
pub tells_nothing : (n : ℕ) (x : PortLoad) (d : Counts) → x.load ≡ 0 → ((q : ℕ) → holds x.links q ≡ false) → ((i j : ℕ) → d i j ≡ 0) → Tells n (replicate 16 x) d
tells_nothing n x d unloaded unmarked zeros =
    record {
      sixteen = refl;
      loads = λ k. (all 16 k).0 ∙ sym (load_zeros n d (Input k) zeros);
      marks = λ i j. (all 16 i).1 j ∙ ap (ltb 0) (sym (zeros i j));
    }
  where
    all : (m k : ℕ) → ((at_port (replicate m x) k).load ≡ 0) × ((q : ℕ) → holds (at_port (replicate m x) k).links q ≡ false)
    all zero k = (refl, zero_bit)
    all (suc m) zero = (unloaded, unmarked)
    all (suc m) (suc k) = all m k
