use Rattle.std.proofs.Common.{◌≡◌, ◌+◌, ◌-◌, ◌≤◌, [], ◌∷◌, ◌++◌, Some, None, sym, ap, ◌∙◌, arith, rules}
use Rattle.crossbar.specs.Joining.{pairs_below}
use Rattle.crossbar.specs.Models.{given_by, input_at}
use Rattle.crossbar.specs.declared.setting.pairs.Pairs.{Pairs}
use Rattle.crossbar.proofs.Joins.{joined_end, joined_past, pairs_none, pairs_past, pairs_some}
use Rattle.crossbar.proofs.setting.pairs.PairsIterator.next.Goals as goal
use Rattle.std.proofs.iter.Next.{firm}

pub returns-in-Some : goal.returns-in-Some
returns-in-Some c =
    let p = c.args.self.now in
    let s = input_at p.setting.now in
    let k = c.loop-output.output in
    let same = c.loop-output.invariant.0 in
    let here : s k ≡ Some c.in-Some.input = sym (c.input_of.ensures ∙ ap (λ (q : Pairs). input_at q.setting.now k) same) ∙ c.in-Some.is in
    let past : p.output ≤ k = omega arith in
    record {
      steps = (
        ap (λ (q : Pairs). q.setting.now) same,
        ap (λ (q : Pairs). pairs_below (input_at q.setting.now) (k + 1)) same ∙ pairs_some s k c.in-Some.input here ∙ ap (λ xs. xs ++ record { input = c.in-Some.input; output = k } ∷ []) c.loop-output.invariant.1,
      );
      goes = firm ((tt, tt, omega arith)) (λ h. search rules);
    }

pub loop-output-preserved : goal.loop-output-preserved
loop-output-preserved c =
    let p = c.args.self.now in
    let k = c.loop-output.output in
    let same = c.loop-output.invariant.0 in
    let here : input_at p.setting.now k ≡ None = sym (c.input_of.ensures ∙ ap (λ (q : Pairs). input_at q.setting.now k) same) ∙ c.in_default.is in
    (same, pairs_none (input_at p.setting.now) k here ∙ c.loop-output.invariant.1)

pub returns : goal.returns
returns c =
    let p = c.args.self.now in
    let s = input_at p.setting.now in
    let k = c.loop-output.output in
    let same = c.loop-output.invariant.0 in
    let past : p.setting.now.end ≤ k = omega arith in
    let far : k + 16 ≡ 16 + k = omega arith in
    let all : given_by p ≡ pairs_below s 16 =
    sym c.loop-output.invariant.1
    ∙ sym (pairs_past s k (λ j h. joined_end p.setting.now j (omega (arith, past))) 16)
    ∙ ap (pairs_below s) far
    ∙ pairs_past s 16 (joined_past p.setting.now) k
    in
    record {
      steps = (
        ap (λ (q : Pairs). q.setting.now) same,
        (all, ap (λ (q : Pairs). pairs_below (input_at q.setting.now) 16) same ∙ sym all),
      );
      goes = firm (tt) (λ h. search rules);
    }
