use Rattle.std.proofs.Common.{◌≡◌, ℕ, ◌<◌, ◌≤◌, true, false, Some, None, Option, MatchOption, arith, rules}
use Rattle.std.proofs.lemmas.Iterator.{first_from_Range}
use Rattle.policy.specs.Kernel.{FirstOpen, is_open, ports_of}
use Rattle.policy.specs.declared.mending.Mending.{Mending}
use Rattle.policy.proofs.mending.Mending.first_open.Goals as goal

-- the first of the inputs from 0 on
from_zero : (m : Mending) (n : ℕ) (found : Option ℕ) → n ≡ ports_of m → MatchOption found ((k : ℕ) → 0 ≤ k → k < n → is_open m k ≡ false) (λ i. (0 ≤ i) × (i < n) × (is_open m i ≡ true) × ((k : ℕ) → 0 ≤ k → k < i → is_open m k ≡ false)) → FirstOpen m found
from_zero m n None e none = λ k l. none k (omega arith) (omega arith)
from_zero m n (Some i) e (_, within, open', before) = (omega arith, open', λ k l. before k (omega arith) l)

pub returns : goal.returns
returns c =
    let m = c.args.self.now in
    from_zero m c.count.result c.find.result c.count.ensures
    (first_from_Range _ _ _ _ (λ i. is_open m i ≡ true) (λ i. is_open m i ≡ false) c.find.ensures.ran (λ x q k. search rules) (λ x q k. search rules))
