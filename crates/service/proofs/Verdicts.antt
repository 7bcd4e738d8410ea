-- What a done offer or group adds.
use Rattle.std.proofs.Common.{◌≡◌, ℕ, suc, ◌+◌, ◌<◌, ◌≤◌, Bool, true, false, cond, ◌&&◌, eqb, ◌⊎◌, List, [], ◌∷◌, ◌++◌, length, Some, None, Option, sym, refl, ap, ◌∙◌, subst, inl, inr, arith}
use mathlib.Core.Path.{fun_ext}
use Rattle.std.proofs.lemmas.Bool.{and_parts, eqb-true, false≢true}
use Rattle.batch.proofs.Bounds.{taken}
use Rattle.batch.specs.Rules.{refusal}
use Rattle.crossbar.proofs.Loads.{load_plus, more_within, packets_single}
use Rattle.crossbar.proofs.Sums.{total_add, total_same, total_zeros}
use Rattle.crossbar.specs.Loads.{Counts, largest_load, load, one_more, packets, single}
use Rattle.crossbar.specs.declared.port.Port.TheVariants.{Input}
use Rattle.reply.specs.Answers.{Answer, place_of}
use Rattle.reply.specs.declared.reason.Reason.{Reason}
use Rattle.service.specs.Histories.{is_done, of_pair}
use Rattle.service.specs.Tables.{unless, verdict}
use Rattle.service.specs.declared.entry.Entry.{Entry}

pub packets_add : (n : ℕ) (f g : Counts) → packets n (λ i j. f i j + g i j) ≡ packets n f + packets n g
packets_add n f g =
    total_same n _ _ (λ i _. load_plus n f g (Input i)) ∙ total_add n (λ i. load n f (Input i)) (λ i. load n g (Input i))

pub packets_none : (n : ℕ) → packets n (λ i j. 0) ≡ 0
packets_none n = total_zeros n _ (λ i _. total_zeros n (λ j. 0) (λ j _. refl))

-- a done answer where the first of its tests gave no reason
pub unless_done : (o : Option Reason) (k : ℕ) (r : Answer) → is_done (unless o k r) ≡ true → (o ≡ None) × (is_done r ≡ true)
unless_done None k r e = (refl, e)
unless_done (Some reason) k r e = absurd (false≢true e)

module _ {T : Type 0} where
  -- every entry is for a pair of the n × n
  unfoldable pub Inside : ℕ → List (Entry T) → Type 0
  Inside n [] = Unit {0}
  Inside n (e ∷ es) = (e.pair.input < n) × (e.pair.output < n) × Inside n es

  pub inside_append : (n : ℕ) (xs ys : List (Entry T)) → Inside n xs → Inside n ys → Inside n (xs ++ ys)
  unfolding Inside
  inside_append n [] ys h g = g
  inside_append n (x ∷ xs) ys h g = (h.0, h.1, inside_append n xs ys h.2 g)

  -- one entry counts 1 at its pair
  pub count_head : (e : Entry T) (es : List (Entry T)) (i j : ℕ) → length (of_pair i j (e ∷ es)) ≡ single e.pair.input e.pair.output i j + length (of_pair i j es)
  count_head e es i j = go (eqb i e.pair.input && eqb j e.pair.output)
    where
      go : (t : Bool) → length (cond t (e.packet ∷ []) [] ++ of_pair i j es) ≡ cond t 1 0 + length (of_pair i j es)
      go true = omega arith
      go false = omega arith

  -- the entries, counted by pair, are all of them
  pub sum_of : (n : ℕ) (es : List (Entry T)) → Inside n es → packets n (λ i j. length (of_pair i j es)) ≡ length es
  unfolding Inside
  sum_of n [] h = packets_none n
  sum_of n (e ∷ es) h =
      ap (packets n) (fun_ext (λ i. fun_ext (λ j. count_head e es i j)))
      ∙ packets_add n (single e.pair.input e.pair.output) (λ i j. length (of_pair i j es))
      ∙ omega (arith, packets_single n e.pair.input e.pair.output h.0 h.1, sum_of n es h.2)

  pub none_outside : (n : ℕ) (es : List (Entry T)) → Inside n es → (i j : ℕ) → (n ≤ i) ⊎ (n ≤ j) → of_pair i j es ≡ []
  unfolding Inside
  none_outside n [] h i j o = refl
  none_outside n (e ∷ es) h i j o = go (eqb i e.pair.input && eqb j e.pair.output) refl ∙ none_outside n es h.2 i j o
    where
      go : (t : Bool) → (eqb i e.pair.input && eqb j e.pair.output) ≡ t → cond t (e.packet ∷ []) [] ++ of_pair i j es ≡ of_pair i j es
      go true q =
          let w = and_parts (eqb i e.pair.input) (eqb j e.pair.output) q in
          let a : i ≡ e.pair.input = eqb-true i e.pair.input w.0 in
          let b : j ≡ e.pair.output = eqb-true j e.pair.output w.1 in
          absurd (elim o [ inl g ↦ omega (arith, h.0) | inr g ↦ omega (arith, h.1) ])
      go false q = refl

  -- what entries that were taken tell: their ports exist, the loads stay within the bound, and the place counts them
  pub record Fine (n l : ℕ) (d : Counts) (k : ℕ) (es : List (Entry T)) : Type 0 where
    pub inside : Inside n es
    pub fits : largest_load n (λ i j. d i j + length (of_pair i j es)) ≤ l
    pub place_is : place_of (verdict n l d k es) ≡ k + length es

  pub fine : (n l : ℕ) (d : Counts) (k : ℕ) (es : List (Entry T)) → largest_load n d ≤ l → is_done (verdict n l d k es) ≡ true → Fine n l d k es
  unfolding Inside
  fine n l d k [] h e =
      record {
        inside = tt;
        fits = let z : (λ i j. d i j + 0) ≡ d = fun_ext (λ i. fun_ext (λ j. omega arith)) in subst (λ x. largest_load n x ≤ l) (sym z) h;
        place_is = omega arith;
      }
  fine n l d k (e ∷ es) h q =
      let p = e.pair in
      let next : Counts = one_more p.input p.output d in
      let (free, rest) = unless_done (refusal n l d p) k (verdict n l next (suc k) es) q in
      let t = taken n l d p free in
      let tail = fine n l next (suc k) es (more_within n p.input p.output l d t.input t.output h t.at_input t.at_output) rest in
      let same : (λ i j. d i j + length (of_pair i j (e ∷ es))) ≡ (λ i j. next i j + length (of_pair i j es)) =
      fun_ext (λ i. fun_ext (λ j. omega (arith, count_head e es i j)))
      in
      record {
        inside = (t.input, t.output, tail.inside);
        fits = subst (λ x. largest_load n x ≤ l) (sym same) tail.fits;
        place_is = ap (λ o. place_of (unless o k (verdict n l next (suc k) es))) free ∙ omega (arith, tail.place_is);
      }

  -- only entries with ports below n are accepted
  pub inside_done : (n l : ℕ) (d : Counts) (k : ℕ) (es : List (Entry T)) → is_done (verdict n l d k es) ≡ true → Inside n es
  unfolding Inside
  inside_done n l d k [] e = tt
  inside_done n l d k (e ∷ es) q =
      let p = e.pair in
      let next : Counts = one_more p.input p.output d in
      let (free, rest) = unless_done (refusal n l d p) k (verdict n l next (suc k) es) q in
      let t = taken n l d p free in
      (t.input, t.output, inside_done n l next (suc k) es rest)
