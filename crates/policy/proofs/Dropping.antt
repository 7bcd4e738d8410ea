-- The pairs of a setting that have a packet.
use Rattle.std.proofs.Common.{◌≡◌, ℕ, ◌≤◌, Bool, true, false, cond, not, ltb, ◌⊎◌, [], ◌∷◌, ◌++◌, is_some, Some, None, MatchBool, Option, sym, refl, ap, ◌∙◌, subst, inl, inr, arith}
use mathlib.Core.Path.{fun_ext}
use Rattle.std.proofs.lemmas.Bool.{and_right, cases_eq, eq-eqb, le-ltb, lt-ltb, ltb-true, ne_eqb}
use Rattle.std.proofs.lemmas.Bool.Decides.{when_false, when_true}
use Rattle.crossbar.proofs.Giving.{below_tell, given_more}
use Rattle.crossbar.proofs.Moving.{joinable_free}
use Rattle.crossbar.proofs.Room.{waits_inside}
use Rattle.crossbar.proofs.Serving.{below}
use Rattle.crossbar.specs.Clearing.{Lawful}
use Rattle.crossbar.specs.Joining.{IsSetting, Joins, pairs_below, unjoined, with_pair}
use Rattle.crossbar.specs.Loads.{Counts}
use Rattle.crossbar.specs.Models.{input_at, joinable, size, waiting}
use Rattle.crossbar.specs.declared.demand.Demand.{Demand}
use Rattle.crossbar.specs.declared.port.Pair.{Pair}
use Rattle.crossbar.specs.declared.setting.Setting.{Setting}
use Rattle.policy.specs.Mending.{if_waiting, with_packets}
use Rattle.policy.specs.Settled.{Matched}

pub packets_some : (d : Counts) (s : Joins) (i j : ℕ) → s j ≡ Some i → 1 ≤ d i j → with_packets d s j ≡ Some i
packets_some d s i j e h = ap (if_waiting d j) e ∙ ap (λ t. cond t (Some i) None) (lt-ltb 0 (d i j) h)

pub packets_zero : (d : Counts) (s : Joins) (i j : ℕ) → s j ≡ Some i → d i j ≡ 0 → with_packets d s j ≡ None
packets_zero d s i j e h = ap (if_waiting d j) e ∙ ap (λ t. cond t (Some i) None) (le-ltb 0 (d i j) (omega arith))

pub packets_none : (d : Counts) (s : Joins) (j : ℕ) → s j ≡ None → with_packets d s j ≡ None
packets_none d s j e = ap (if_waiting d j) e

pub packets_tell : (d : Counts) (s : Joins) (i j : ℕ) → with_packets d s j ≡ Some i → (s j ≡ Some i) × (1 ≤ d i j)
packets_tell d s i j e = go (s j) refl e
  where
    go : (o : Option ℕ) → s j ≡ o → if_waiting d j o ≡ Some i → (o ≡ Some i) × (1 ≤ d i j)
    go None is h = let z : ◌≡◌ {A = ℕ} 0 1 = cc in absurd (omega arith)
    go (Some a) is h = waits (ltb 0 (d a j)) refl h
      where
        waits : (t : Bool) → ltb 0 (d a j) ≡ t → cond t (Some a) None ≡ Some i → (Some a ≡ Some i) × (1 ≤ d i j)
        waits true told f = let q : a ≡ i = cc in (f, subst (λ x. 1 ≤ d x j) q (ltb-true 0 (d a j) told))
        waits false told f = let z : ◌≡◌ {A = ℕ} 0 1 = cc in absurd (omega arith)

pub packets_setting : (n : ℕ) (d : Counts) (s : Joins) → IsSetting n s → IsSetting n (with_packets d s)
packets_setting n d s rule =
    record {
      inside = λ i j e. rule.inside i j (packets_tell d s i j e).0;
      once = λ i j k e f. rule.once i j k (packets_tell d s i j e).0 (packets_tell d s i k f).0;
    }

-- a lawful setting has a packet for each pair
pub packets_lawful : (n : ℕ) (d : Counts) (s : Joins) → Lawful n d s → with_packets d s ≡ s
packets_lawful n d s law = fun_ext at
  where
    go : (j : ℕ) (o : Option ℕ) → s j ≡ o → with_packets d s j ≡ o
    go j None e = packets_none d s j e
    go j (Some i) e = packets_some d s i j e (law.packet i j e)

    at : (j : ℕ) → with_packets d s j ≡ s j
    at j = go j (s j) refl

pub packets_matched : (d : Demand) (s : Joins) → IsSetting 16 s → Matched (size d) (waiting d) (with_packets (waiting d) s)
packets_matched d s rule =
    record {
      setting =
          record {
            inside = λ i j e. waits_inside d i j (packets_tell (waiting d) s i j e).1;
            once = λ i j k e f. rule.once i j k (packets_tell (waiting d) s i j e).0 (packets_tell (waiting d) s i k f).0;
          };
      packet = λ i j e. (packets_tell (waiting d) s i j e).1;
    }

-- what joins nothing has no pair without a packet
pub matched_none : (n : ℕ) (d : Counts) → Matched n d unjoined
matched_none n d = record { setting = record { inside = λ i j e. none i e; once = λ i j k e _. none i e }; packet = λ i j e. none i e }
  where
    none : {T : Type 0} (i : ℕ) → None ≡ Some i → T
    none i e = cc

-- ---- pair by pair

-- the setting `kept` has the pairs with a packet of those that s has given, and x is the next pair
module _ (d : Counts) (s : Joins) (rule : IsSetting 16 s) (p q : ℕ) (x : Pair) (next : pairs_below s q ≡ pairs_below s p ++ x ∷ []) where
  more : below q s ≡ with_pair x.input x.output (below p s)
  more = given_more s p q x next

  here : (j : ℕ) → j ≡ x.output → below q s j ≡ Some x.input
  here j e = ap (λ f. f j) more ∙ ap (λ t. cond t (Some x.input) (below p s j)) (eq-eqb j x.output e)

  other : (j : ℕ) → (j ≡ x.output → ⊥) → below q s j ≡ below p s j
  other j ne = ap (λ f. f j) more ∙ ap (λ t. cond t (Some x.input) (below p s j)) (ne_eqb j x.output ne)

  x_joined : s x.output ≡ Some x.input
  x_joined = (below_tell q s x.input x.output (here x.output refl)).1

  -- what an output of x had before
  before : (o : Option ℕ) → below p s x.output ≡ o → (o ≡ None) ⊎ (o ≡ Some x.input)
  before None e = inl refl
  before (Some i) e = let told = (below_tell p s i x.output e).1 in let same : i ≡ x.input = cc (x_joined) in inr (ap Some same)

  old_other : (j : ℕ) → (j ≡ x.output → ⊥) → with_packets d (below p s) j ≡ with_packets d (below q s) j
  old_other j ne = ap (if_waiting d j) (sym (other j ne))

  -- a pair without a packet is left out
  pub kept_skip : d x.input x.output ≡ 0 → with_packets d (below p s) ≡ with_packets d (below q s)
  kept_skip z = fun_ext at
    where
      none : (j : ℕ) → j ≡ x.output → with_packets d (below p s) j ≡ None
      none j e =
          ap (with_packets d (below p s)) e
          ∙ elim (before (below p s x.output) refl) [
            | inl h ↦ packets_none d (below p s) x.output h
            | inr h ↦ packets_zero d (below p s) x.input x.output h z
          ]

      at : (j : ℕ) → with_packets d (below p s) j ≡ with_packets d (below q s) j
      at j =
          elim (cases_eq j x.output) [
            | inl e ↦ none j e ∙ sym (ap (with_packets d (below q s)) e ∙ packets_zero d (below q s) x.input x.output (here x.output refl) z)
            | inr ne ↦ old_other j ne
          ]

  -- any other is joined
  module _ (waits : 1 ≤ d x.input x.output) (kept after : Setting) (r : Bool) (is : input_at kept ≡ with_packets d (below p s)) (told : r ≡ joinable kept x)
      (joined : MatchBool r (input_at after ≡ with_pair x.input x.output (input_at kept)) (after ≡ kept)) where
    new_here : (j : ℕ) → j ≡ x.output → with_packets d (below q s) j ≡ Some x.input
    new_here j e = ap (with_packets d (below q s)) e ∙ packets_some d (below q s) x.input x.output (here x.output refl) waits

    new_pairs : with_pair x.input x.output (with_packets d (below p s)) ≡ with_packets d (below q s)
    new_pairs = fun_ext at
      where
        at : (j : ℕ) → with_pair x.input x.output (with_packets d (below p s)) j ≡ with_packets d (below q s) j
        at j =
            elim (cases_eq j x.output) [
              | inl e ↦ ap (λ t. cond t (Some x.input) (with_packets d (below p s) j)) (eq-eqb j x.output e) ∙ sym (new_here j e)
              | inr ne ↦ ap (λ t. cond t (Some x.input) (with_packets d (below p s) j)) (ne_eqb j x.output ne) ∙ old_other j ne
            ]

    -- both its ports are free, where its output is
    free : below p s x.output ≡ None → joinable kept x ≡ true
    free none =
        let (li, lo) = rule.inside x.input x.output x_joined in
        joinable_free kept x li lo taken (ap (λ f. f x.output) is ∙ packets_none d (below p s) x.output none)
      where
        taken : (j : ℕ) → input_at kept j ≡ Some x.input → ⊥
        taken j e =
            let old = (packets_tell d (below p s) x.input j (sym (ap (λ f. f j) is) ∙ e)).0 in
            let same : j ≡ x.output = rule.once x.input j x.output (below_tell p s x.input j old).1 x_joined in
            let there : below p s x.output ≡ Some x.input = ap (below p s) (sym same) ∙ old in
            let z : ◌≡◌ {A = ℕ} 0 1 = cc in
            omega arith

    pub kept_join : input_at after ≡ with_packets d (below q s)
    kept_join =
        elim (before (below p s x.output) refl) [
          | inl none ↦ when_true _ _ (told ∙ free none) joined ∙ ap (with_pair x.input x.output) is ∙ new_pairs
          | inr had ↦
              let full : input_at kept x.output ≡ Some x.input = ap (λ f. f x.output) is ∙ packets_some d (below p s) x.input x.output had waits in
              let not_free : joinable kept x ≡ false = and_right _ _ (ap (λ o. not (is_some o)) full) in
              ap input_at (when_false _ _ (told ∙ not_free) joined) ∙ is ∙ fun_ext (at had)
        ]
      where
        at : below p s x.output ≡ Some x.input → (j : ℕ) → with_packets d (below p s) j ≡ with_packets d (below q s) j
        at had j =
            elim (cases_eq j x.output) [
              | inl e ↦ ap (with_packets d (below p s)) e ∙ packets_some d (below p s) x.input x.output had waits ∙ sym (new_here j e)
              | inr ne ↦ old_other j ne
            ]
