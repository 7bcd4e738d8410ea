-- Arrays after one place is written, and the grid of counts.
use Rattle.std.proofs.Common.{◌≡◌, ℕ, zero, suc, ◌<◌, ◌≤◌, Bool, true, false, cond, ◌&&◌, eqb, ltb, ◌⊎◌, List, [], length, get_or, set, replicate, sym, refl, ap, ◌∙◌, inl, inr, arith, Some, None, Option}
use mathlib.Core.Path.{fun_ext}
use Rattle.std.proofs.lemmas.List.{get_or-set_same, get_or-set_other, length-set}
use Rattle.std.proofs.lemmas.Bool.{and_right, cases_eq, cases_lt, eq-eqb, ne_eqb, lt-ltb, le-ltb}
use Rattle.crossbar.specs.Arrays.{Square, grid, Mirrors}
use Rattle.crossbar.specs.Loads.{nothing, with_count}

pub same_everywhere : {A : Type 0} (n : ℕ) (a : A) (i : ℕ) → get_or (replicate n a) i a ≡ a
same_everywhere zero a i = refl
same_everywhere (suc n) a zero = refl
same_everywhere (suc n) a (suc i) = same_everywhere n a i

-- a written array as a function of the place
pub set_places : {A : Type 0} (xs : List A) (b : ℕ) (v d : A) → b < length xs → (j : ℕ) → get_or (set xs b v) j d ≡ cond (eqb j b) v (get_or xs j d)
set_places xs b v d h j =
    elim (cases_eq j b) [
      | inl e ↦ ap (λ k. get_or (set xs b v) k d) e ∙ get_or-set_same xs b v d h ∙ sym (ap (λ t. cond t v (get_or xs j d)) (eq-eqb j b e))
      | inr e ↦ get_or-set_other xs b j v d e ∙ sym (ap (λ t. cond t v (get_or xs j d)) (ne_eqb j b e))
    ]

-- one pair more, at ports that are free
pub mirrors_set : (xs ys : List (Option ℕ)) (a b : ℕ) → b < length xs → a < length ys → get_or ys a None ≡ None → Mirrors xs ys → Mirrors (set xs b (Some a)) (set ys a (Some b))
mirrors_set xs ys a b h k free m i j e =
    elim (cases_eq j b) [
      | inl q ↦
          let here : get_or (set xs b (Some a)) j None ≡ Some a = ap (λ x. get_or (set xs b (Some a)) x None) q ∙ get_or-set_same xs b (Some a) None h in
          let same : i ≡ a = cc in
          ap (λ x. get_or (set ys a (Some b)) x None) same ∙ get_or-set_same ys a (Some b) None k ∙ ap Some (sym q)
      | inr q ↦
          let old : get_or ys i None ≡ Some j = m i j (sym (get_or-set_other xs b j (Some a) None q) ∙ e) in
          let other : i ≡ a → ⊥ =
          λ s.
          let none : get_or ys i None ≡ None = ap (λ x. get_or ys x None) s ∙ free in
          let z : ◌≡◌ {A = ℕ} 0 1 = cc in
          omega arith
          in
          get_or-set_other ys a i (Some b) None other ∙ old
    ]

-- ---- the grid of counts

pub grid_inside : (n : ℕ) (rows : List (List ℕ)) (i j : ℕ) → i < n → j < n → grid n rows i j ≡ get_or (get_or rows i []) j 0
unfolding grid
grid_inside n rows i j h k =
    ap (λ t. cond (t && ltb j n) (get_or (get_or rows i []) j 0) 0) (lt-ltb i n h) ∙ ap (λ t. cond t (get_or (get_or rows i []) j 0) 0) (lt-ltb j n k)

pub grid_outside : (n : ℕ) (rows : List (List ℕ)) (i j : ℕ) → (n ≤ i) ⊎ (n ≤ j) → grid n rows i j ≡ 0
unfolding grid
grid_outside n rows i j (inl h) = ap (λ t. cond (t && ltb j n) (get_or (get_or rows i []) j 0) 0) (le-ltb i n h)
grid_outside n rows i j (inr h) = ap (λ t. cond (ltb i n && t) (get_or (get_or rows i []) j 0) 0) (le-ltb j n h) ∙ neither (ltb i n)
  where
    neither : (t : Bool) → cond (t && false) (get_or (get_or rows i []) j 0) 0 ≡ 0
    neither true = refl
    neither false = refl

-- one count written
pub grid_set : (n : ℕ) (rows : List (List ℕ)) (a b v : ℕ) → Square rows → n ≤ 16 → a < n → b < n → grid n (set rows a (set (get_or rows a []) b v)) ≡ with_count v a b (grid n rows)
grid_set n rows a b v square few h k = fun_ext (λ i. fun_ext (λ j. at i j))
  where
    rows' : List (List ℕ)
    rows' = set rows a (set (get_or rows a []) b v)

    row_here : (i : ℕ) → i ≡ a → get_or rows' i [] ≡ set (get_or rows a []) b v
    row_here i e = ap (λ x. get_or rows' x []) e ∙ get_or-set_same rows a (set (get_or rows a []) b v) [] (omega (arith, square.height))

    cell : (i j : ℕ) → get_or (get_or rows' i []) j 0 ≡ cond (eqb i a && eqb j b) v (get_or (get_or rows i []) j 0)
    cell i j =
        elim (cases_eq i a) [
          | inl p ↦
              ap (λ r. get_or r j 0) (row_here i p)
              ∙ set_places (get_or rows a []) b v 0 (omega (arith, square.width a (omega arith))) j
              ∙ ap (λ x. cond (eqb j b) v (get_or (get_or rows x []) j 0)) (sym p)
              ∙ sym (ap (λ t. cond (t && eqb j b) v (get_or (get_or rows i []) j 0)) (eq-eqb i a p))
          | inr p ↦
              ap (λ r. get_or r j 0) (get_or-set_other rows a i (set (get_or rows a []) b v) [] p)
              ∙ sym (ap (λ t. cond (t && eqb j b) v (get_or (get_or rows i []) j 0)) (ne_eqb i a p))
        ]

    outside : (i j : ℕ) → (n ≤ i) ⊎ (n ≤ j) → grid n rows' i j ≡ with_count v a b (grid n rows) i j
    outside i j (inl o) =
        grid_outside n rows' i j (inl o)
        ∙ sym (ap (λ t. cond (t && eqb j b) v (grid n rows i j)) (ne_eqb i a (λ e. omega arith)) ∙ grid_outside n rows i j (inl o))
    outside i j (inr o) =
        grid_outside n rows' i j (inr o)
        ∙ sym (ap (λ t. cond t v (grid n rows i j)) (and_right (eqb i a) (eqb j b) (ne_eqb j b (λ e. omega arith))) ∙ grid_outside n rows i j (inr o))

    at : (i j : ℕ) → grid n rows' i j ≡ with_count v a b (grid n rows) i j
    at i j =
        elim (cases_lt i n) [
          | inl l ↦
              elim (cases_lt j n) [
                | inl m ↦ grid_inside n rows' i j l m ∙ cell i j ∙ ap (cond (eqb i a && eqb j b) v) (sym (grid_inside n rows i j l m))
                | inr m ↦ outside i j (inr m)
              ]
          | inr l ↦ outside i j (inl l)
        ]

-- rows that hold only zeros
pub grid_zeros : (n : ℕ) (rows : List (List ℕ)) → ((i j : ℕ) → get_or (get_or rows i []) j 0 ≡ 0) → grid n rows ≡ nothing
unfolding grid
grid_zeros n rows zeros =
    fun_ext (λ i. fun_ext (λ j. ap (λ x. cond (ltb i n && ltb j n) x 0) (zeros i j) ∙ both (ltb i n && ltb j n)))
  where
    both : (t : Bool) → cond {A = ℕ} t 0 0 ≡ 0
    both true = refl
    both false = refl

-- sixteen rows of sixteen zeros
pub zeros_all : (h w i j : ℕ) → ◌≡◌ {A = ℕ} (get_or (get_or (replicate h (replicate w 0)) i []) j 0) 0
zeros_all zero w i j = refl
zeros_all (suc h) w zero j = same_everywhere w 0 j
zeros_all (suc h) w (suc i) j = zeros_all h w i j

pub square_replicate : (h w : ℕ) (r : List ℕ) → length r ≡ w → (i : ℕ) → i < h → length (get_or (replicate h r) i []) ≡ w
square_replicate zero w r e i l = absurd (omega arith)
square_replicate (suc h) w r e zero l = e
square_replicate (suc h) w r e (suc i) l = square_replicate h w r e i (omega arith)

-- one row written
pub square_set : (rows : List (List ℕ)) (a b v : ℕ) → a < 16 → Square rows → Square (set rows a (set (get_or rows a []) b v))
square_set rows a b v h s =
    record {
      height = length-set rows a _ ∙ s.height;
      width =
          λ i l.
          elim (cases_eq i a) [
            | inl e ↦
                ap length (ap (λ x. get_or (set rows a (set (get_or rows a []) b v)) x []) e ∙ get_or-set_same rows a _ [] (omega (arith, s.height)))
                ∙ length-set (get_or rows a []) b v
                ∙ s.width a h
            | inr e ↦ ap length (get_or-set_other rows a i _ [] e) ∙ s.width i l
          ];
    }
