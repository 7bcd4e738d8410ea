-- One slot more within a period, and at its end.
use Rattle.std.proofs.Common.{◌≡◌, ℕ, suc, ◌+◌, ◌*◌, ◌/◌, ◌%◌, ◌<◌, sym, ap, ◌∙◌, add-mul, div-add-mod', arith}
use lib.Arith.{digits_div, digits_mod}

pub whole : (s l : ℕ) → s ≡ s / l * l + s % l
whole s l = sym (div-add-mod' s l)

module _ (s l : ℕ) where
  pub on_div : suc (s % l) < l → (s + 1) / l ≡ s / l
  on_div h = let e : s + 1 ≡ s / l * l + suc (s % l) = omega (arith, whole s l) in ap (λ x. x / l) e ∙ digits_div (s / l) h

  pub on_mod : suc (s % l) < l → (s + 1) % l ≡ suc (s % l)
  on_mod h = let e : s + 1 ≡ s / l * l + suc (s % l) = omega (arith, whole s l) in ap (λ x. x % l) e ∙ digits_mod (s / l) h

  pub turn_div : suc (s % l) ≡ l → (s + 1) / l ≡ suc (s / l)
  turn_div h =
      let z : 0 < l = omega arith in
      let e : s + 1 ≡ suc (s / l) * l + 0 = omega (arith, whole s l, add-mul (s / l) 1 l) in
      ap (λ x. x / l) e ∙ digits_div (suc (s / l)) z

  pub turn_mod : suc (s % l) ≡ l → (s + 1) % l ≡ 0
  turn_mod h =
      let z : 0 < l = omega arith in
      let e : s + 1 ≡ suc (s / l) * l + 0 = omega (arith, whole s l, add-mul (s / l) 1 l) in
      ap (λ x. x % l) e ∙ digits_mod (suc (s / l)) z
