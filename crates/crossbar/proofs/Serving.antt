-- Serving pair by pair, in order of output.
use Rattle.std.proofs.Common.{◌≡◌, ℕ, zero, suc, ◌+◌, ◌-◌, ◌<◌, ◌≤◌, cond, ◌&&◌, eqb, ltb, List, [], ◌∷◌, ◌++◌, length, Some, None, Option, sym, refl, ap, ◌∙◌, subst, inl, inr, add-one, arith, length-append}
use mathlib.Core.Path.{fun_ext}
use Rattle.std.proofs.Math.Bool.{and-true}
use Rattle.std.proofs.lemmas.Bool.{and_right, cases_eq, cases_lt, eq-eqb, le-ltb, lt-ltb, ne_eqb, and_parts, cases_Bool, eqb-true}
use Rattle.std.specs.Option.{option_map, option_to_list}
use Rattle.crossbar.specs.Clearing.{served}
use Rattle.crossbar.specs.Joining.{Joins, is_input, pairs_below}
use Rattle.crossbar.specs.Loads.{Counts, one_less, packets, single}
use Rattle.crossbar.specs.Models.{given_by, size, waiting}
use Rattle.crossbar.specs.declared.demand.Demand.{Demand}
use Rattle.crossbar.specs.declared.port.Pair.{Pair}
use Rattle.crossbar.specs.declared.ports.Ports.{Ports}
use Rattle.crossbar.specs.declared.setting.Setting.{Setting}
use Rattle.crossbar.specs.declared.setting.pairs.Pairs.{Pairs}
use Rattle.crossbar.proofs.Joins.{pairs_none, pairs_past, pairs_some}

-- what a setting joins to the outputs below k
abbrev pub below : ℕ → Joins → Joins
below k s j = cond (ltb j k) (s j) None

pub below_yes : (k : ℕ) (s : Joins) (j : ℕ) → j < k → below k s j ≡ s j
below_yes k s j h = ap (λ t. cond t (s j) None) (lt-ltb j k h)

pub below_no : (k : ℕ) (s : Joins) (j : ℕ) → k ≤ j → below k s j ≡ None
below_no k s j h = ap (λ t. cond t (s j) None) (le-ltb j k h)

pub below_all : (n : ℕ) (s : Joins) → ((j : ℕ) → n ≤ j → s j ≡ None) → below n s ≡ s
below_all n s past = fun_ext at
  where
    at : (j : ℕ) → below n s j ≡ s j
    at j =
        elim (cases_lt j n) [
          | inl l ↦ below_yes n s j l
          | inr g ↦ below_no n s j g ∙ sym (past j g)
        ]

-- serving takes nothing of the outputs past the last one, which have no packets
pub serve_whole : (n : ℕ) (s : Joins) (d : Counts) → ((i j : ℕ) → n ≤ j → d i j ≡ 0) → served (below n s) d ≡ served s d
serve_whole n s d none = fun_ext (λ i. fun_ext (λ j. at i j))
  where
    at : (i j : ℕ) → served (below n s) d i j ≡ served s d i j
    at i j =
        elim (cases_lt j n) [
          | inl l ↦ ap (λ o. d i j - is_input o i) (below_yes n s j l)
          | inr g ↦ omega (arith, none i j g)
        ]

-- nothing is taken of a pair without a packet
pub less_none : (d : Counts) (a b : ℕ) → d a b ≡ 0 → d ≡ one_less a b d
less_none d a b z = fun_ext (λ i. fun_ext (λ j. at i j))
  where
    at : (i j : ℕ) → d i j ≡ one_less a b d i j
    at i j =
        elim (cases_Bool (eqb i a && eqb j b)) [
          | inl e ↦
              let p = and_parts (eqb i a) (eqb j b) e in
              omega (arith, ap (λ x. d x j) (eqb-true i a p.0), ap (λ x. d a x) (eqb-true j b p.1), z)
          | inr e ↦ omega (arith, ap (λ t. cond {A = ℕ} t 1 0) e)
        ]

-- one packet is taken of each of these pairs
abbrev pub taken : List Pair → Counts → Counts
taken [] d = d
taken (p ∷ ps) d = taken ps (one_less p.input p.output d)

pub taken_more : (ps : List Pair) (p : Pair) (d : Counts) → taken (ps ++ p ∷ []) d ≡ one_less p.input p.output (taken ps d)
taken_more [] p d = refl
taken_more (q ∷ ps) p d = taken_more ps p (one_less q.input q.output d)

-- how far serving a demand by the setting s has come, from `before` to `now`, by the pairs that `it` has given
pub record Underway (before now : Demand) (s : Setting) (it : Pairs) (departed : ℕ) : Type 0 where
  pub setting : it.setting.now ≡ s
  pub ports : now.ports ≡ before.ports
  pub counts : waiting now ≡ taken (given_by it) (waiting before)
  pub departures : packets (size before) (waiting now) + departed ≡ packets (size before) (waiting before)
  pub few : departed ≤ length (given_by it)

-- one packet of the next pair is taken, if one waits: m is 1 or 0
pub underway_next : (before now after : Demand) (s : Setting) (it next : Pairs) (p : Pair) (m departed total : ℕ) → Underway before now s it departed → next.setting.now ≡ it.setting.now → given_by next ≡ given_by it ++ p ∷ [] → after.ports ≡ now.ports → waiting after ≡ one_less p.input p.output (waiting now) → packets (size now) (waiting after) + m ≡ packets (size now) (waiting now) → m ≤ 1 → total ≡ departed + m → Underway before after s next total
underway_next before now after s it next p m departed total u setting given ports is count le sum =
    record {
      setting = setting ∙ u.setting;
      ports = ports ∙ u.ports;
      counts =
          is
          ∙ ap (one_less p.input p.output) u.counts
          ∙ sym (ap (λ ps. taken ps (waiting before)) given ∙ taken_more (given_by it) p (waiting before));
      departures = omega (arith, u.departures, sum, same);
      few = omega (arith, u.few, sum, le, ap length given, length-append (given_by it) (p ∷ []));
    }
  where
    same : packets (size before) (waiting after) + m ≡ packets (size before) (waiting now)
    same = subst (λ (q : Ports). packets q.count (waiting after) + m ≡ packets q.count (waiting now)) u.ports count

-- the outputs below k + 1 are those below k and the output k
module _ (s : Joins) (d : Counts) (k : ℕ) where
  other : (j : ℕ) → (j ≡ k → ⊥) → below (k + 1) s j ≡ below k s j
  other j ne =
      elim (cases_lt j k) [
        | inl l ↦ below_yes (k + 1) s j (omega arith) ∙ sym (below_yes k s j l)
        | inr g ↦ below_no (k + 1) s j (omega arith) ∙ sym (below_no k s j g)
      ]

  before : (i j : ℕ) → j ≡ k → served (below k s) d i j ≡ d i j
  before i j e = omega (arith, ap (λ o. d i j - is_input o i) (below_no k s j (omega arith)))

  after : (o : Option ℕ) → s k ≡ o → (i j : ℕ) → j ≡ k → served (below (k + 1) s) d i j ≡ d i j - is_input o i
  after o is i j e = ap (λ x. d i j - is_input x i) (below_yes (k + 1) s j (omega arith) ∙ ap s e ∙ is)

  none_more : s k ≡ None → served (below k s) d ≡ served (below (k + 1) s) d
  none_more is = fun_ext (λ i. fun_ext (λ j. at i j))
    where
      at : (i j : ℕ) → served (below k s) d i j ≡ served (below (k + 1) s) d i j
      at i j =
          elim (cases_eq j k) [
            | inl e ↦ omega (arith, before i j e, after None is i j e)
            | inr ne ↦ ap (λ o. d i j - is_input o i) (sym (other j ne))
          ]

  one_more_pair : (a : ℕ) → s k ≡ Some a → one_less a k (served (below k s) d) ≡ served (below (k + 1) s) d
  one_more_pair a is = fun_ext (λ i. fun_ext (λ j. at i j))
    where
      at : (i j : ℕ) → one_less a k (served (below k s) d) i j ≡ served (below (k + 1) s) d i j
      at i j =
          elim (cases_eq j k) [
            | inl e ↦
                let here : single a k i j ≡ is_input (Some a) i = ap (λ t. cond {A = ℕ} (eqb i a && t) 1 0) (eq-eqb j k e) ∙ ap (λ t. cond {A = ℕ} t 1 0) (and-true (eqb i a)) in
                omega (arith, before i j e, after (Some a) is i j e, here)
            | inr ne ↦
                let none : single a k i j ≡ 0 = ap (λ t. cond {A = ℕ} t 1 0) (and_right (eqb i a) (eqb j k) (ne_eqb j k ne)) in
                omega (arith, none, ap (λ o. d i j - is_input o i) (other j ne))
          ]

  taken_next : (o : Option ℕ) → s k ≡ o → taken (pairs_below s k) d ≡ served (below k s) d → taken (pairs_below s (k + 1)) d ≡ served (below (k + 1) s) d
  taken_next None is told = ap (λ ps. taken ps d) (pairs_none s k is) ∙ told ∙ none_more is
  taken_next (Some a) is told =
      ap (λ ps. taken ps d) (pairs_some s k a is)
      ∙ taken_more (pairs_below s k) (record { input = a; output = k }) d
      ∙ ap (one_less a k) told
      ∙ one_more_pair a is

taken_none : (s : Joins) (d : Counts) → taken (pairs_below s 0) d ≡ d
unfolding pairs_below
taken_none s d = refl

-- serving by a setting takes one packet of each of its pairs
pub taken_below : (s : Joins) (d : Counts) (k : ℕ) → taken (pairs_below s k) d ≡ served (below k s) d
taken_below s d zero = taken_none s d ∙ fun_ext (λ i. fun_ext (λ j. omega (arith, ap (λ o. d i j - is_input o i) (below_no 0 s j (omega arith)))))
taken_below s d (suc k) =
    subst (λ m. taken (pairs_below s m) d ≡ served (below m s) d) (add-one k) (taken_next s d k (s k) refl (taken_below s d k))

-- no setting of sixteen ports has more than sixteen pairs
pairs_le : (s : Joins) (k : ℕ) → length (pairs_below s k) ≤ k
unfolding pairs_below
pairs_le s zero = omega arith
pairs_le s (suc k) = omega (arith, length-append (pairs_below s k) (option_to_list (option_map (λ i. record { input = i; output = k }) (s k))), one (s k), pairs_le s k)
  where
    one : (o : Option ℕ) → length {A = Pair} (option_to_list (option_map (λ i. record { input = i; output = k }) o)) ≤ 1
    one None = omega arith
    one (Some i) = omega arith

pub pairs_few : (s : Joins) → ((j : ℕ) → 16 ≤ j → s j ≡ None) → (k : ℕ) → length (pairs_below s k) ≤ 16
pairs_few s past k =
    elim (cases_lt k 16) [
      | inl l ↦ omega (arith, pairs_le s k)
      | inr g ↦
          let far : k ≡ 16 + (k - 16) = omega arith in
          omega (arith, ap (λ m. length (pairs_below s m)) far, ap length (pairs_past s 16 past (k - 16)), pairs_le s 16)
    ]
