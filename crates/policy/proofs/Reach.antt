-- A search in its course: what it has reached, and one output more.
use Rattle.std.proofs.Common.{◌≡◌, ℕ, ◌+◌, ◌-◌, ◌<◌, ◌≤◌, Bool, true, false, cond, not, ◌&&◌, sym, ap, ◌∙◌, subst, inl, inr, arith, below_more, ltb}
use Rattle.std.proofs.lemmas.Bool.{cases_eq, cases_lt, both_ways, and_parts, not_from_true, not_from_false, cases_Bool, and_from, ltb-true, lt-ltb, not-true}
use Rattle.mask.specs.Bits.{holds}
use Rattle.crossbar.proofs.Sums.{total_le}
use Rattle.mask.specs.declared.Mask.{Mask}
use Rattle.policy.specs.Picked.{count}
use Rattle.policy.proofs.Counting.{total_lt, total_ones}
use Rattle.policy.specs.Graphs.{Graph, Partners, Stuck}
use Rattle.policy.specs.Paths.{Tree, Held, Ending}
use Rattle.policy.specs.Searching.{Course, Reach, Row, seen}

-- g is f with x at c, and what f has below c
abbrev pub Pushes : (ℕ → ℕ) → ℕ → ℕ → (ℕ → ℕ) → Type 0
Pushes f c x g = (g c ≡ x) × ((k : ℕ) → k < c → g k ≡ f k)

-- r is q with j
abbrev pub Marks : (ℕ → Bool) → ℕ → (ℕ → Bool) → Type 0
Marks q j r = (r j ≡ true) × ((k : ℕ) → (k ≡ j → ⊥) → r k ≡ q k)

pub marks_clear : (u v : Mask) (j : ℕ) → holds v j ≡ false → ((k : ℕ) → (k ≡ j → ⊥) → holds v k ≡ holds u k) → Marks (seen u) j (seen v)
marks_clear u v j here others = (not_from_false (holds v j) here, λ k ne. ap not (others k ne))

-- one more is counted
pub count_more : (n : ℕ) (q r : ℕ → Bool) (j : ℕ) → j < n → q j ≡ false → Marks q j r → count n q < count n r
count_more n q r j l new (here, others) =
    total_lt n _ _ j
    (λ k _. elim (cases_eq k j) [ inl e ↦ low k (ap q e ∙ new) | inr ne ↦ omega (arith, ap (λ b. cond {A = ℕ} b 1 0) (others k ne)) ])
    l (omega (arith, ap (λ b. cond {A = ℕ} b 1 0) new, ap (λ b. cond {A = ℕ} b 1 0) here))
  where
    low : (k : ℕ) → q k ≡ false → cond (q k) 1 0 ≤ cond (r k) 1 0
    low k e = omega (arith, ap (λ b. cond {A = ℕ} b 1 0) e)

at_most_one : (b : Bool) → cond b 1 0 ≤ 1
at_most_one true = omega arith
at_most_one false = omega arith

pub count_le : (n : ℕ) (q : ℕ → Bool) → count n q ≤ n
count_le n q = omega (arith, total_le n (λ k. cond (q k) 1 0) (λ _. 1) (λ k _. at_most_one (q k)), total_ones n)

module _ (n : ℕ) (d : Graph) (s : Partners) (w : ℕ) (ins outs par : ℕ → ℕ) (c : ℕ) (tree : Tree n d s ins outs par c) (q : ℕ → Bool) (p : ℕ) (reach : Reach n d w ins outs c q p) where
  -- the end of a search
  pub stuck : p ≡ c + 1 → Stuck n d s w (ins 0) q
  stuck e =
      record {
        within = tree.root;
        unjoined = tree.unjoined;
        heavy = reach.heavy 0 (omega arith);
        first = λ k l h. reach.done 0 (omega arith) k l h;
        joined = λ j l h. let (k, m, r) = reach.listed j l h in subst (λ x. s x < n) r (tree.joined k m);
        heavies =
            λ j l h.
            let (k, m, r) = reach.listed j l h in
            subst (λ x. w ≤ d.load x) (sym (tree.next k m) ∙ ap s r) (reach.heavy (k + 1) (omega arith));
        next =
            λ j a l la h o.
            let (k, m, r) = reach.listed j l h in
            reach.done (k + 1) (omega arith) a la (subst (λ x. d.link x a ≡ true) (ap s (sym r) ∙ tree.next k m) o);
      }

  module _ (j : ℕ) (low : p ≤ c) (l : j < n) (new : q j ≡ false) (o : d.link (ins p) j ≡ true) (sj : s j < n) (hj : w ≤ d.load (s j))
      (ins' outs' par' : ℕ → ℕ) (r : ℕ → Bool)
      (pi : Pushes ins (c + 1) (s j) ins') (po : Pushes outs c j outs') (pp : Pushes par c p par') (pr : Marks q j r) where
    mark : (a : ℕ) → q a ≡ true → r a ≡ true
    mark a h = elim (cases_eq a j) [ inl e ↦ ap r e ∙ pr.0 | inr ne ↦ pr.1 a ne ∙ h ]

    carry : (x x' y y' : ℕ) → x' ≡ x → y' ≡ y → d.link x y ≡ true → d.link x' y' ≡ true
    carry x x' y y' e f h = subst (λ v. d.link v y' ≡ true) (sym e) (subst (λ v. d.link x v ≡ true) (sym f) h)

    apart : (a b : ℕ) → a < c + 1 → b < c + 1 → outs' a ≡ outs' b → a ≡ b
    apart a b la lb e =
        elim (cases_lt a c) [
          | inl x ↦
              elim (cases_lt b c) [
                | inl y ↦ tree.apart a b x y (sym (po.1 a x) ∙ e ∙ po.1 b y)
                | inr y ↦ absurd (old a x (e ∙ ap outs' (last b lb y)))
              ]
          | inr x ↦
              elim (cases_lt b c) [
                | inl y ↦ absurd (old b y (sym e ∙ ap outs' (last a la x)))
                | inr y ↦ last a la x ∙ sym (last b lb y)
              ]
        ]
      where
        last : (a : ℕ) → a < c + 1 → c ≤ a → a ≡ c
        last a l m = omega arith

        old : (a : ℕ) → a < c → outs' a ≡ outs' c → ⊥
        old a l e = both_ways (q j) new (ap q (sym (sym (po.1 a l) ∙ e ∙ po.0)) ∙ reach.seen a l)

    pub tree_more : Tree n d s ins' outs' par' (c + 1)
    tree_more =
        record {
          root = subst (λ x. x < n) (sym root) tree.root;
          unjoined = λ a la e. tree.unjoined a la (e ∙ root);
          within = below_more _ c (λ k m. subst (λ x. x < n) (sym (po.1 k m)) (tree.within k m)) (subst (λ x. x < n) (sym po.0) l);
          joined = below_more _ c (λ k m. subst (λ x. s x < n) (sym (po.1 k m)) (tree.joined k m)) (subst (λ x. s x < n) (sym po.0) sj);
          next =
              below_more (λ k. s (outs' k) ≡ ins' (k + 1)) c
              (λ k m. ap s (po.1 k m) ∙ tree.next k m ∙ sym (pi.1 (k + 1) (omega arith)))
              (ap s po.0 ∙ sym pi.0);
          apart = apart;
          earlier = below_more _ c (λ k m. omega (arith, pp.1 k m, tree.earlier k m)) (omega (arith, pp.0));
          packet =
              below_more (λ k. d.link (ins' (par' k)) (outs' k) ≡ true) c
              (λ k m. carry _ _ _ _ (ap ins' (pp.1 k m) ∙ pi.1 (par k) (omega (arith, tree.earlier k m))) (po.1 k m) (tree.packet k m))
              (carry _ _ _ _ (ap ins' pp.0 ∙ pi.1 p (omega arith)) po.0 o);
        }
      where
        root : ins' 0 ≡ ins 0
        root = pi.1 0 (omega arith)

    pub reach_more : Reach n d w ins' outs' (c + 1) r p
    reach_more =
        record {
          seen = below_more _ c (λ k m. mark (outs' k) (ap q (po.1 k m) ∙ reach.seen k m)) (ap r po.0 ∙ pr.0);
          listed =
              λ a la h.
              elim (cases_eq a j) [
                | inl e ↦ (c, omega arith, po.0 ∙ sym e)
                | inr ne ↦ let (k, m, f) = reach.listed a la (sym (pr.1 a ne) ∙ h) in (k, omega arith, po.1 k m ∙ f)
              ];
          heavy = below_more _ (c + 1) (λ k m. subst (λ x. w ≤ d.load x) (sym (pi.1 k m)) (reach.heavy k m)) (subst (λ x. w ≤ d.load x) (sym pi.0) hj);
          done = λ k m a la h. mark a (reach.done k m a la (subst (λ x. d.link x a ≡ true) (pi.1 k (omega arith)) h));
        }

pub tree_input : (n : ℕ) (d : Graph) (s : Partners) (ins outs par : ℕ → ℕ) (c : ℕ) → Tree n d s ins outs par c → (k : ℕ) → k ≤ c → ins k < n
tree_input n d s ins outs par c tree k l =
    elim (cases_eq k 0) [
      | inl z ↦ subst (λ x. ins x < n) (sym z) tree.root
      | inr nz ↦
          let lc : k - 1 < c = omega arith in
          let e : k - 1 + 1 ≡ k = omega arith in
          omega (arith, tree.joined (k - 1) lc, tree.next (k - 1) lc, ap ins e)
    ]

module _ (n : ℕ) (d : Graph) (s : Partners) (w : ℕ) (ins outs par : ℕ → ℕ) (unseen : Mask) (c p : ℕ) (k : Course n d s w ins outs par unseen c p) where
  pub course_low : c ≤ n
  course_low = omega (arith, k.counted, count_le n (seen unseen))

  pub course_end : p ≡ c + 1 → Stuck n d s w (ins 0) (seen unseen)
  course_end e = stuck n d s w _ _ _ c k.tree (seen unseen) p k.reach e

  -- one input more is done
  pub course_done : ((j : ℕ) → j < n → d.link (ins p) j ≡ true → seen unseen j ≡ true) → Course n d s w ins outs par unseen c (p + 1)
  course_done h =
      record {
        inside = k.inside;
        counted = k.counted;
        tree = k.tree;
        reach =
            record {
              seen = k.reach.seen;
              listed = k.reach.listed;
              heavy = k.reach.heavy;
              done = below_more (λ a. (j : ℕ) → j < n → d.link (ins a) j ≡ true → seen unseen j ≡ true) p k.reach.done h;
            };
      }

  -- an output that ends a path
  pub course_found : p ≤ c → (j : ℕ) → holds unseen j ≡ true → d.link (ins p) j ≡ true → (Held n d s w j → ⊥) → Ending n d s w ins outs c p j
  course_found low j new o free =
      record {
        low = low;
        within = k.inside j new;
        packet = o;
        fresh = λ a m e. both_ways (seen unseen j) (not_from_true (holds unseen j) new) (ap (seen unseen) (sym e) ∙ k.reach.seen a m);
        spare = λ l. elim (cases_lt (d.load (s j)) w) [ inl h ↦ h | inr h ↦ absurd (free (l, h)) ];
      }

  -- one output more
  module _ (j : ℕ) (v : Mask) (low : p ≤ c) (new : holds unseen j ≡ true) (here : holds v j ≡ false) (others : (a : ℕ) → (a ≡ j → ⊥) → holds v a ≡ holds unseen a)
      (ins' outs' par' : ℕ → ℕ) (pi : Pushes ins (c + 1) (s j) ins') (po : Pushes outs c j outs') (pp : Pushes par c p par') where
    new' : seen unseen j ≡ false
    new' = not_from_true (holds unseen j) new

    pub course_more : d.link (ins p) j ≡ true → Held n d s w j → Course n d s w ins' outs' par' v (c + 1) p
    course_more o (sj, hj) =
        let l = k.inside j new in
        let pr = marks_clear unseen v j here others in
        record {
          inside = λ a h. elim (cases_eq a j) [ inl e ↦ absurd (both_ways (holds v j) here (ap (holds v) (sym e) ∙ h)) | inr ne ↦ k.inside a (sym (others a ne) ∙ h) ];
          counted = omega (arith, k.counted, count_more n (seen unseen) (seen v) j l new' pr);
          tree = tree_more n d s w _ _ _ c k.tree (seen unseen) p k.reach j low l new' o sj hj _ _ _ _ pi po pp pr;
          reach = reach_more n d s w _ _ _ c k.tree (seen unseen) p k.reach j low l new' o sj hj _ _ _ _ pi po pp pr;
        }

module _ (n : ℕ) (d : Graph) (s : Partners) (w : ℕ) (row : Mask) (ins outs par : ℕ → ℕ) (unseen : Mask) (c p : ℕ) (r : Row n d s w row ins outs par unseen c p) where
  -- no output of the row is unseen, so that its input is done
  pub row_end : ((j : ℕ) → (holds row j && holds unseen j) ≡ false) → Course n d s w ins outs par unseen c (p + 1)
  row_end none =
      course_done n d s w ins outs par unseen c p r.course
      (λ j l o.
      elim (cases_Bool (holds unseen j)) [
        | inl h ↦ absurd (both_ways _ (none j) (and_from (holds row j) (holds unseen j) (r.packets j l ∙ o) h))
        | inr h ↦ not_from_false (holds unseen j) h
      ])

  module _ (j : ℕ) (v : Mask) (both : (holds row j && holds unseen j) ≡ true) (here : holds v j ≡ false) (others : (a : ℕ) → (a ≡ j → ⊥) → holds v a ≡ holds unseen a) where
    new : holds unseen j ≡ true
    new = (and_parts (holds row j) (holds unseen j) both).1

    mine : holds row j ≡ true
    mine = (and_parts (holds row j) (holds unseen j) both).0

    -- the output that comes next is joined
    pub row_held : Held n d s w j
    row_held = r.held j new mine

    pub row_more : (ins' outs' par' : ℕ → ℕ) → Pushes ins (c + 1) (s j) ins' → Pushes outs c j outs' → Pushes par c p par' → Row n d s w row ins' outs' par' v (c + 1) p
    row_more ins' outs' par' pi po pp =
        record {
          low = omega (arith, r.low);
          course =
              course_more n d s w ins outs par unseen c p r.course j v r.low new here others ins' outs' par' pi po pp
              (sym (r.packets j (r.course.inside j new)) ∙ mine) row_held;
          packets = λ a m. r.packets a m ∙ ap (λ x. d.link x a) (sym (pi.1 p (omega (arith, r.low))));
          held = λ a h m. elim (cases_eq a j) [ inl e ↦ absurd (both_ways (holds v j) here (ap (holds v) (sym e) ∙ h)) | inr ne ↦ r.held a (sym (others a ne) ∙ h) m ];
        }

-- a search before its first step
pub course_none : (n : ℕ) (d : Graph) (s : Partners) (w : ℕ) (ins outs par : ℕ → ℕ) (unseen : Mask) → ((k : ℕ) → holds unseen k ≡ ltb k n) → ins 0 < n → w ≤ d.load (ins 0) → ((j : ℕ) → j < n → s j ≡ ins 0 → ⊥) → Course n d s w ins outs par unseen 0 0
course_none n d s w ins outs par unseen every root heavy free =
    record {
      inside = λ k h. ltb-true k n (sym (every k) ∙ h);
      counted = omega arith;
      tree =
          record {
            root = root;
            unjoined = free;
            within = λ k l. omega arith;
            joined = λ k l. omega arith;
            next = λ k l. absurd (omega arith);
            apart = λ a b l m. omega arith;
            earlier = λ k l. omega arith;
            packet = λ k l. absurd (omega arith);
          };
      reach =
          record {
            seen = λ k l. absurd (omega arith);
            listed = λ j l h. absurd (both_ways (holds unseen j) (not-true (holds unseen j) h) (every j ∙ lt-ltb j n l));
            heavy = λ k l. let z : k ≡ 0 = omega arith in subst (λ x. w ≤ d.load (ins x)) (sym z) heavy;
            done = λ k l. absurd (omega arith);
          };
    }

-- a set that lacks a number below n has fewer than n
pub count_short : (n : ℕ) (q : ℕ → Bool) (j : ℕ) → j < n → q j ≡ false → count n q < n
count_short n q j l lacks =
    omega (arith, total_lt n (λ k. cond (q k) 1 0) (λ _. 1) j (λ k _. at_most_one (q k)) l (omega (arith, ap (λ b. cond {A = ℕ} b 1 0) lacks)), total_ones n)

-- while an output is unseen, there is room for one more
pub course_space : (n : ℕ) (d : Graph) (s : Partners) (w : ℕ) (ins outs par : ℕ → ℕ) (unseen : Mask) (c p : ℕ) → Course n d s w ins outs par unseen c p → (j : ℕ) → holds unseen j ≡ true → c < n
course_space n d s w ins outs par unseen c p k j new =
    omega (arith, k.counted, count_short n (seen unseen) j (k.inside j new) (not_from_true (holds unseen j) new))
