-- The number of pairs that partners are.
use Rattle.std.proofs.Common.{◌≡◌, ℕ, zero, suc, ◌+◌, ◌-◌, ◌≤◌, cond, ltb, length, is_some, Some, None, Option, sym, refl, ap, ◌∙◌, arith, length-append}
use Rattle.std.proofs.lemmas.Bool.{le-ltb, lt-ltb}
use Rattle.std.specs.Option.{option_map, option_to_list}
use Rattle.crossbar.specs.Joining.{IsSetting, Joins, pairs_below}
use Rattle.crossbar.specs.Sums.{total}
use Rattle.crossbar.specs.declared.port.Pair.{Pair}
use Rattle.crossbar.proofs.Joins.{pairs_past}
use Rattle.crossbar.proofs.Sums.{total_same}
use Rattle.policy.specs.Graphs.{partners}
use Rattle.policy.specs.Mending.{pair_count}
use Rattle.policy.proofs.Partnering.{partnered}
use Rattle.policy.proofs.Turning.{partners_none, partners_some}

-- a pair for each output that is joined
pairs_counted : (s : Joins) (k : ℕ) → length (pairs_below s k) ≡ total k (λ j. cond (is_some (s j)) 1 0)
unfolding pairs_below total
pairs_counted s zero = refl
pairs_counted s (suc k) =
    length-append (pairs_below s k) _ ∙ omega (arith, pairs_counted s k, one (s k))
  where
    one : (o : Option ℕ) → length {A = Pair} (option_to_list (option_map (λ i. record { input = i; output = k }) o)) ≡ cond (is_some o) 1 0
    one None = refl
    one (Some i) = refl

pub pair_count_partners : (n : ℕ) (s : Joins) → n ≤ 16 → IsSetting n s → pair_count s ≡ partnered n (partners s)
pair_count_partners n s small rule =
    let e : n + (16 - n) ≡ 16 = omega arith in
    ap (λ k. length (pairs_below s k)) (sym e)
    ∙ ap length (pairs_past s n past (16 - n))
    ∙ pairs_counted s n
    ∙ total_same n _ _ (λ j l. at j (s j) refl)
  where
    past : (j : ℕ) → n ≤ j → s j ≡ None
    past j h = go (s j) refl
      where
        go : (o : Option ℕ) → s j ≡ o → s j ≡ None
        go None e = e
        go (Some i) e = absurd (omega (arith, (rule.inside i j e).1))

    at : (j : ℕ) (o : Option ℕ) → s j ≡ o → cond {A = ℕ} (is_some (s j)) 1 0 ≡ cond (ltb (partners s j) n) 1 0
    at j None e = ap (λ o. cond {A = ℕ} (is_some o) 1 0) e ∙ sym (ap (λ t. cond {A = ℕ} t 1 0) (le-ltb (partners s j) n (omega (arith, partners_none s j e))))
    at j (Some i) e =
        ap (λ o. cond {A = ℕ} (is_some o) 1 0) e
        ∙ sym (ap (λ t. cond {A = ℕ} t 1 0) (lt-ltb (partners s j) n (omega (arith, partners_some s i j e, (rule.inside i j e).0))))
