-- Joining one pair more, the setting rule, and the pairs in order of output.
use Rattle.std.proofs.Common.{◌≡◌, ℕ, zero, suc, ◌+◌, ◌<◌, ◌≤◌, List, [], ◌∷◌, ◌++◌, length, get_or, Some, None, Option, refl, ap, ◌∙◌, inl, inr, add-zero, add-one, arith, MatchOption, Bool, true, not, ◌&&◌, ltb, is_some}
use Rattle.std.specs.Option.{option_map, option_to_list}
use Rattle.std.proofs.lemmas.List.{append-nil, get_or_past}
use Rattle.std.proofs.lemmas.Bool.{cases_lt, and_parts, false≢true, ltb-true}
use Rattle.crossbar.specs.Arrays.{Within}
use Rattle.crossbar.specs.Joining.{IsSetting, Joins, pairs_below}
use Rattle.crossbar.specs.Models.{input_at, output_at, joinable}
use Rattle.crossbar.specs.declared.port.Pair.{Pair}
use Rattle.crossbar.specs.declared.setting.Setting.{Setting}

free_from_test : (o : Option ℕ) → not (is_some o) ≡ true → o ≡ None
free_from_test None e = refl
free_from_test (Some x) e = absurd (false≢true e)

-- what the test of a pair tells
pub record Free (s : Setting) (p : Pair) : Type 0 where
  pub input : p.input < 16
  pub output : p.output < 16
  pub input_free : output_at s p.input ≡ None
  pub output_free : input_at s p.output ≡ None

pub free_from_joinable : (s : Setting) (p : Pair) → joinable s p ≡ true → Free s p
free_from_joinable s p e =
    let in_tested : Bool = ltb p.input 16 in
    let out_tested : Bool = ltb p.output 16 in
    let in_free : Bool = not (is_some (output_at s p.input)) in
    let out_free : Bool = not (is_some (input_at s p.output)) in
    let a = and_parts (in_tested && out_tested && in_free) out_free e in
    let b = and_parts (in_tested && out_tested) in_free a.0 in
    let c = and_parts in_tested out_tested b.0 in
    record {
      input = ltb-true p.input 16 c.0;
      output = ltb-true p.output 16 c.1;
      input_free = free_from_test (output_at s p.input) b.1;
      output_free = free_from_test (input_at s p.output) a.1;
    }

-- ---- the setting rule

-- a setting's arrays mirror each other, so that no input has two outputs
pub setting_rule : (s : Setting) → IsSetting 16 (input_at s)
setting_rule s =
    record {
      inside = λ i j e. (below_end s.outputs i j s.sized.1 (s.there i j e), below_end s.inputs j i s.sized.0 e);
      once = λ i j k p q. same j k (s.there i j p) (s.there i k q);
    }
  where
    below_end : (xs : List (Option ℕ)) (i j : ℕ) → length xs ≡ 16 → get_or xs i None ≡ Some j → i < 16
    below_end xs i j long e =
        elim (cases_lt i 16) [
          | inl l ↦ l
          | inr g ↦
              let none : get_or xs i None ≡ None = get_or_past xs i None (omega arith) in
              let z : ◌≡◌ {A = ℕ} 0 1 = cc in
              absurd (omega arith)
        ]

    same : {o : Option ℕ} (j k : ℕ) → o ≡ Some j → o ≡ Some k → j ≡ k
    same j k p q = cc

-- the output of an input is the one that it is joined to
pub output_joined : (s : Setting) (i : ℕ) → MatchOption (output_at s i) ((j : ℕ) → input_at s j ≡ Some i → ⊥) (λ j. input_at s j ≡ Some i)
output_joined s i = go (output_at s i) refl
  where
    go : (o : Option ℕ) → output_at s i ≡ o → MatchOption o ((j : ℕ) → input_at s j ≡ Some i → ⊥) (λ j. input_at s j ≡ Some i)
    go None e = λ j h. let there = s.there i j h in let z : ◌≡◌ {A = ℕ} 0 1 = cc in omega arith
    go (Some j) e = s.back j i e

-- no output from 16 on is joined
pub joined_past : (s : Setting) (j : ℕ) → 16 ≤ j → input_at s j ≡ None
joined_past s j h = get_or_past s.inputs j None (omega (arith, s.sized.0))

-- nor any input
pub output_past : (s : Setting) (i : ℕ) → 16 ≤ i → output_at s i ≡ None
output_past s i h = get_or_past s.outputs i None (omega (arith, s.sized.1))

-- nor any output from a setting's end on
pub joined_end : (s : Setting) (j : ℕ) → s.end ≤ j → input_at s j ≡ None
joined_end s j h = go (input_at s j) refl
  where
    go : (o : Option ℕ) → input_at s j ≡ o → o ≡ None
    go None e = refl
    go (Some i) e = absurd (omega (arith, (s.within i j e).1))

-- its end holds for the other side too
pub within_back : (s : Setting) → Within s.end s.outputs
within_back s i j e = let (there, here) = s.within j i (s.back i j e) in (here, there)

-- ---- the pairs in order of output

pub pairs_none : (s : Joins) (k : ℕ) → s k ≡ None → pairs_below s (k + 1) ≡ pairs_below s k
unfolding pairs_below
pairs_none s k e =
    ap (pairs_below s) (add-one k) ∙ ap (λ o. pairs_below s k ++ option_to_list (option_map (λ i. record { input = i; output = k }) o)) e ∙ append-nil (pairs_below s k)

pub pairs_some : (s : Joins) (k a : ℕ) → s k ≡ Some a → pairs_below s (k + 1) ≡ pairs_below s k ++ record { input = a; output = k } ∷ []
unfolding pairs_below
pairs_some s k a e = ap (pairs_below s) (add-one k) ∙ ap (λ o. pairs_below s k ++ option_to_list (option_map (λ i. record { input = i; output = k }) o)) e

-- no pair stands past the last output that is joined
pub pairs_past : (s : Joins) (n : ℕ) → ((j : ℕ) → n ≤ j → s j ≡ None) → (m : ℕ) → pairs_below s (n + m) ≡ pairs_below s n
pairs_past s n none zero = ap (pairs_below s) (add-zero n)
pairs_past s n none (suc m) =
    let e : n + suc m ≡ n + m + 1 = omega arith in
    ap (pairs_below s) e ∙ pairs_none s (n + m) (none (n + m) (omega arith)) ∙ pairs_past s n none m
