use Rattle.std.proofs.Common.{◌≡◌, ℕ, ◌≤◌, Some, sym, ◌∙◌, subst, length, arith, MatchOption}
use Rattle.std.proofs.lemmas.Bool.{ltb-false}
use Rattle.crossbar.specs.Models.{input_at}
use Rattle.crossbar.proofs.Joins.{output_joined, output_past}
use Rattle.crossbar.proofs.setting.Setting.output_of.Goals as goal

pub returns-in_err-get-clause-joined : goal.returns-in_err-get-clause-joined
returns-in_err-get-clause-joined c =
    let s = c.args.self.now in
    let i = c.args.input in
    let past : length s.outputs ≤ i = ltb-false i (length s.outputs) (sym c.in_err-get.ensures.lookup.0) in
    subst (λ o. MatchOption o ((j : ℕ) → input_at s j ≡ Some i → ⊥) (λ j. input_at s j ≡ Some i))
    (output_past s i (omega (arith, s.sized.1)) ∙ sym c.from_residual.ensures)
    (output_joined s i)
