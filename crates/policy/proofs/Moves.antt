-- Moving inputs along a path of a search's tree, one at a time.
use Rattle.std.proofs.Common.{◌≡◌, ℕ, ◌+◌, ◌<◌, ◌≤◌, true, Some, Option, sym, refl, ap, ◌∙◌, subst, inl, inr, arith}
use Rattle.std.proofs.lemmas.Bool.{cases_eq}
use Rattle.crossbar.specs.Joining.{Joins, moved}
use Rattle.crossbar.proofs.Moving.{moved_here, moved_left, moved_other, moved_tell}
use Rattle.policy.specs.Graphs.{Fits, Graph, InJoined, Keeps, Partners, partners}
use Rattle.policy.specs.Paths.{Tree, Mended, Held, Holds, Ending}
use Rattle.policy.proofs.Turning.{partners_none, partners_some, partners_tell}

-- ---- one move

-- g' is g with the input i at j, and at no other output
pub record Puts (n : ℕ) (g : Partners) (j i : ℕ) (g' : Partners) : Type 0 where
  pub here : g' j ≡ i
  pub other : (a : ℕ) → (a ≡ j → ⊥) → (g a ≡ i → ⊥) → g' a ≡ g a
  pub left : (a : ℕ) → (a ≡ j → ⊥) → g a ≡ i → n ≤ g' a

pub puts_moved : (n : ℕ) (s : Joins) (i j : ℕ) → n ≤ 16 → i < n → Puts n (partners s) j i (partners (moved i j s))
puts_moved n s i j small l =
    record {
      here = partners_some (moved i j s) i j (moved_here s i j j refl);
      other = λ a ne no'. ap (λ o. same o) (moved_other s i j a ne (λ e. no' (partners_some s i a e)));
      left = λ a ne e. omega (arith, partners_none (moved i j s) a (moved_left s i j a ne (partners_tell s i a (omega arith) e)));
    }
  where
    same : Option ℕ → ℕ
    same o = partners (λ (k : ℕ). o) 0

-- a pair with a packet joins a setting that fits
pub fits_moved : (n : ℕ) (d : Graph) (s : Joins) (i j : ℕ) → Fits n d s → i < n → j < n → d.link i j ≡ true → Fits n d (moved i j s)
fits_moved n d s i j f li lj o = record { setting = record { inside = inside; once = once }; packet = packet }
  where
    inside : (a b : ℕ) → moved i j s b ≡ Some a → (a < n) × (b < n)
    inside a b e =
        elim (moved_tell s i j a b e) [
          | inl (p, q) ↦ (omega arith, omega arith)
          | inr (old, _) ↦ f.setting.inside a b old
        ]

    once : (a b c : ℕ) → moved i j s b ≡ Some a → moved i j s c ≡ Some a → b ≡ c
    once a b c e g =
        elim (moved_tell s i j a b e) [
          | inl (p, q) ↦ elim (moved_tell s i j a c g) [ inl (p', q') ↦ p ∙ sym p' | inr (_, ne) ↦ absurd (ne q) ]
          | inr (old, ne) ↦ elim (moved_tell s i j a c g) [ inl (p', q') ↦ absurd (ne q') | inr (old', _) ↦ f.setting.once a b c old old' ]
        ]

    packet : (a b : ℕ) → moved i j s b ≡ Some a → d.link a b ≡ true
    packet a b e =
        elim (moved_tell s i j a b e) [
          | inl (p, q) ↦ subst (λ x. d.link x b ≡ true) (sym q) (subst (λ x. d.link i x ≡ true) (sym p) o)
          | inr (old, _) ↦ f.packet a b old
        ]

-- ---- the moves of a path

-- The partners g, while the input ins p is to move to the output j: what they keep of the partners s.
pub record Moving (n : ℕ) (d : Graph) (s : Partners) (w : ℕ) (ins outs : ℕ → ℕ) (p j : ℕ) (g : Partners) : Type 0 where
  pub within : j < n
  pub packet : d.link (ins p) j ≡ true
  pub unjoined : (a : ℕ) → a < n → g a ≡ ins 0 → ⊥
  pub rest : (k : ℕ) → k < p → g (outs k) ≡ ins (k + 1)
  pub fresh : (k : ℕ) → k < p → outs k ≡ j → ⊥
  pub outputs : (a : ℕ) → a < n → (a ≡ j → ⊥) → s a < n → g a < n
  pub inputs : (i : ℕ) → i < n → w ≤ d.load i → InJoined n s i → (a : ℕ) × (a < n) × ((a ≡ j → ⊥) × (g a ≡ i))

module _ (n : ℕ) (d : Graph) (s : Partners) (w : ℕ) (ins outs par : ℕ → ℕ) (c : ℕ) (tree : Tree n d s ins outs par c) where
  -- before the first move
  pub moving_none : (at output : ℕ) → Ending n d s w ins outs c at output → Moving n d s w ins outs at output s
  moving_none at output e =
      record {
        within = e.within;
        packet = e.packet;
        unjoined = λ a l q. tree.unjoined a l q;
        rest = λ k l. tree.next k (omega (arith, e.low));
        fresh = λ k l. e.fresh k (omega (arith, e.low));
        outputs = λ a l _ h. h;
        inputs = λ i l h (a, m, q). (a, m, (λ r. light i l h (ap s (sym r) ∙ q), q));
      }
    where
      light : (i : ℕ) → i < n → w ≤ d.load i → s output ≡ i → ⊥
      light i l h q = let lt : d.load (s output) < w = e.spare (omega arith) in omega (arith, ap d.load q)

  module _ (p j : ℕ) (g g' : Partners) (m : Moving n d s w ins outs p j g) where
    -- the last move
    module _ (z : p ≡ 0) (puts : Puts n g j (ins 0) g') where
      pub last_other : (a : ℕ) → a < n → (a ≡ j → ⊥) → g' a ≡ g a
      last_other a l ne = puts.other a ne (m.unjoined a l)

      pub moving_all : Keeps n d g' → Mended n d s w (ins 0) g'
      moving_all keeps' =
          record {
            grown = record { keeps = keeps'; outputs = outputs; inputs = λ i l h q. let (a, la, (ne, e)) = m.inputs i l h q in (a, la, last_other a la ne ∙ e) };
            start_joined = (j, m.within, puts.here);
          }
        where
          outputs : (a : ℕ) → a < n → s a < n → g' a < n
          outputs a l h =
              elim (cases_eq a j) [
                | inl x ↦ omega (arith, ap g' x, puts.here, tree.root)
                | inr x ↦ omega (arith, last_other a l x, m.outputs a l x h)
              ]

    -- any other
    module _ (keeps : Keeps n d g) (k : ℕ) (e : p ≡ k + 1) (low : p ≤ c) (puts : Puts n g j (ins p) g') where
      kc : k < c
      kc = omega arith

      up : par k ≤ k
      up = tree.earlier k kc

      apart : outs k ≡ j → ⊥
      apart = m.fresh k (omega arith)

      -- the output that the input leaves
      left : g (outs k) ≡ ins p
      left = m.rest k (omega arith) ∙ ap ins (sym e)

      is_input : ins p < n
      is_input = omega (arith, tree.joined k kc, tree.next k kc, ap ins e)

      pub more_other : (a : ℕ) → a < n → (a ≡ j → ⊥) → (a ≡ outs k → ⊥) → g' a ≡ g a
      more_other a l ne no' = puts.other a ne (λ q. no' (keeps.once a (outs k) l (tree.within k kc) (omega (arith, is_input)) (q ∙ sym left)))

      pub moving_more : Moving n d s w ins outs (par k) (outs k) g'
      moving_more =
          record {
            within = tree.within k kc;
            packet = tree.packet k kc;
            unjoined = unjoined;
            rest =
                λ i l.
                more_other (outs i) (tree.within i (omega (arith, up))) (m.fresh i (omega (arith, up))) (λ q. omega (arith, up, tree.apart i k (omega (arith, up)) kc q))
                ∙ m.rest i (omega (arith, up));
            fresh = λ i l q. omega (arith, up, tree.apart i k (omega (arith, up)) kc q);
            outputs = outputs;
            inputs = inputs;
          }
        where
          unjoined : (a : ℕ) → a < n → g' a ≡ ins 0 → ⊥
          unjoined a l q =
              elim (cases_eq a j) [
                | inl x ↦ tree.unjoined (outs k) (tree.within k kc) (tree.next k kc ∙ ap ins (sym e) ∙ sym (ap g' x ∙ puts.here) ∙ q)
                | inr x ↦
                    elim (cases_eq a (outs k)) [
                      | inl y ↦ omega (arith, puts.left a x (ap g y ∙ left), tree.root)
                      | inr y ↦ m.unjoined a l (sym (more_other a l x y) ∙ q)
                    ]
              ]

          outputs : (a : ℕ) → a < n → (a ≡ outs k → ⊥) → s a < n → g' a < n
          outputs a l na h =
              elim (cases_eq a j) [
                | inl x ↦ omega (arith, ap g' x, puts.here, is_input)
                | inr x ↦ omega (arith, more_other a l x na, m.outputs a l x h)
              ]

          inputs : (i : ℕ) → i < n → w ≤ d.load i → InJoined n s i → (a : ℕ) × (a < n) × ((a ≡ outs k → ⊥) × (g' a ≡ i))
          inputs i l h q =
              let (a, la, (ne, r)) = m.inputs i l h q in
              elim (cases_eq a (outs k)) [
                | inl x ↦ (j, m.within, (λ y. apart (sym y), puts.here ∙ sym left ∙ ap g (sym x) ∙ r))
                | inr x ↦ (a, la, (x, more_other a la ne x ∙ r))
              ]

-- Which outputs a partners holds while inputs move: the partners g, but for the output j, against the partners s at which the path to `end` began.
pub record Holding (n : ℕ) (d : Graph) (s : Partners) (w end j : ℕ) (g : Partners) : Type 0 where
  pub here : (j ≡ end → ⊥) → Held n d s w j
  pub ended : (end ≡ j → ⊥) → Held n d g w end
  pub forth : (a : ℕ) → a < n → (a ≡ j → ⊥) → (a ≡ end → ⊥) → Held n d s w a → Held n d g w a
  pub back : (a : ℕ) → a < n → (a ≡ j → ⊥) → (a ≡ end → ⊥) → Held n d g w a → Held n d s w a

module _ (n : ℕ) (d : Graph) (s : Partners) (w end : ℕ) where
  -- before the first move, and before the move that follows one that held `end`
  pub holding_none : Holding n d s w end end s
  holding_none =
      record { here = λ ne. absurd (ne refl); ended = λ ne. absurd (ne refl); forth = λ a _ _ _ h. h; back = λ a _ _ _ h. h }

  pub holding_next : (j : ℕ) (g : Partners) → Held n d s w j → Holds n d s w end g → Holding n d s w end j g
  holding_next j g here h =
      record { here = λ _. here; ended = λ _. h.ended; forth = λ a l _ ne. h.forth a l ne; back = λ a l _ ne. h.back a l ne }

  -- an input put at j, where every other output stays as it was
  pub holding_put : (j i : ℕ) (g g' : Partners) → Holding n d s w end j g → g' j ≡ i → ((a : ℕ) → (a ≡ j → ⊥) → g' a ≡ g a) → i < n → w ≤ d.load i → Holds n d s w end g'
  holding_put j i g g' m here other il ih =
      record {
        ended = elim (cases_eq end j) [ inl e ↦ put end e | inr ne ↦ carry (g end) (g' end) (other end ne) (m.ended ne) ];
        forth = λ a l ne h. elim (cases_eq a j) [ inl e ↦ put a e | inr no' ↦ carry (g a) (g' a) (other a no') (m.forth a l no' ne h) ];
        back =
            λ a l ne h.
            elim (cases_eq a j) [
              | inl e ↦ subst (λ x. Held n d s w x) (sym e) (m.here (λ q. ne (e ∙ q)))
              | inr no' ↦ m.back a l no' ne (carry (g' a) (g a) (sym (other a no')) h)
            ];
      }
    where
      carry : (x y : ℕ) → y ≡ x → (x < n) × (w ≤ d.load x) → (y < n) × (w ≤ d.load y)
      carry x y e h = subst (λ v. (v < n) × (w ≤ d.load v)) (sym e) h

      put : (a : ℕ) → a ≡ j → Held n d g' w a
      put a e = carry i (g' a) (ap g' e ∙ here) (il, ih)

  -- a move to j, with the output x put by, or none where x is n
  module _ (le : end < n) (j i x : ℕ) (g g' : Partners) (m : Holding n d s w end j g) (here : g' j ≡ i)
      (other : (a : ℕ) → a < n → (a ≡ j → ⊥) → (a ≡ x → ⊥) → g' a ≡ g a) (il : i < n) (ih : w ≤ d.load i) where
    carry : (y z : ℕ) → z ≡ y → (y < n) × (w ≤ d.load y) → (z < n) × (w ≤ d.load z)
    carry y z e h = subst (λ v. (v < n) × (w ≤ d.load v)) (sym e) h

    put : (a : ℕ) → a ≡ j → Held n d g' w a
    put a e = carry i (g' a) (ap g' e ∙ here) (il, ih)

    ended : (end ≡ x → ⊥) → Held n d g' w end
    ended nx = elim (cases_eq end j) [ inl e ↦ put end e | inr ne ↦ carry (g end) (g' end) (other end le ne nx) (m.ended ne) ]

    forth : (a : ℕ) → a < n → (a ≡ x → ⊥) → (a ≡ end → ⊥) → Held n d s w a → Held n d g' w a
    forth a l nx ne h = elim (cases_eq a j) [ inl e ↦ put a e | inr nj ↦ carry (g a) (g' a) (other a l nj nx) (m.forth a l nj ne h) ]

    back : (a : ℕ) → a < n → (a ≡ x → ⊥) → (a ≡ end → ⊥) → Held n d g' w a → Held n d s w a
    back a l nx ne h =
        elim (cases_eq a j) [
          | inl e ↦ subst (λ y. Held n d s w y) (sym e) (m.here (λ q. ne (e ∙ q)))
          | inr nj ↦ m.back a l nj ne (carry (g' a) (g a) (sym (other a l nj nx)) h)
        ]

    pub holding_more : Held n d s w x → Holding n d s w end x g'
    holding_more h = record { here = λ _. h; ended = ended; forth = forth; back = back }

    pub holding_all : n ≤ x → Holds n d s w end g'
    holding_all far =
        record {
          ended = ended (λ e. omega arith);
          forth = λ a l ne h. forth a l (λ e. omega arith) ne h;
          back = λ a l ne h. back a l (λ e. omega arith) ne h;
        }
