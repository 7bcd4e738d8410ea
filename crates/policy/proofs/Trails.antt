-- A trail with one step more.
use Rattle.std.proofs.Common.{◌≡◌, ℕ, zero, suc, ◌+◌, ◌<◌, [], ◌∷◌, ◌++◌, add-one, refl, ap, slice_index_or, ◌∙◌, arith}
use Rattle.std.proofs.lemmas.List.{get_or_append_left, get_or_push}
use Rattle.arrayvec.specs.ArrayVec.{array_vec_len}
use Rattle.policy.specs.Kernel.{ins, no_step, outs, parents, step_at}
use Rattle.policy.specs.declared.trail.Step.{Step}
use Rattle.policy.specs.declared.trail.Trail.{Trail}
use Rattle.policy.proofs.Reach.{Pushes}

module _ (t u : Trail) (step : Step) (start : u.start ≡ t.start) (more : u.steps.items ≡ t.steps.items ++ step ∷ []) where
  step_here : step_at u (array_vec_len t.steps) ≡ step
  step_here = ap (λ xs. slice_index_or xs (array_vec_len t.steps) no_step) more ∙ get_or_push t.steps.items step no_step _ refl

  step_before : (k : ℕ) → k < array_vec_len t.steps → step_at u k ≡ step_at t k
  step_before k l = ap (λ xs. slice_index_or xs k no_step) more ∙ get_or_append_left t.steps.items (step ∷ []) no_step k l

  pub pushes_ins : Pushes (ins t) (array_vec_len t.steps + 1) step.input (ins u)
  pushes_ins = (ap (ins u) (add-one (array_vec_len t.steps)) ∙ ap (λ (a : Step). a.input) step_here, before)
    where
      before : (k : ℕ) → k < array_vec_len t.steps + 1 → ins u k ≡ ins t k
      before zero l = start
      before (suc k) l = ap (λ (a : Step). a.input) (step_before k (omega arith))

  pub pushes_outs : Pushes (outs t) (array_vec_len t.steps) step.output (outs u)
  pushes_outs = (ap (λ (a : Step). a.output) step_here, λ k l. ap (λ (a : Step). a.output) (step_before k l))

  pub pushes_parents : Pushes (parents t) (array_vec_len t.steps) step.parent (parents u)
  pushes_parents = (ap (λ (a : Step). a.parent) step_here, λ k l. ap (λ (a : Step). a.parent) (step_before k l))
