-- A set without one of its ports, and what is in two sets.
use Rattle.std.proofs.Common.{◌≡◌, ℕ, true, false, not, ◌&&◌, eqb, refl, sym, ap, ◌∙◌}
use Rattle.std.proofs.Math.Bool.{and-false, and-true}
use Rattle.std.proofs.lemmas.Bool.{and_parts, eq-eqb, ne_eqb}
use Rattle.mask.specs.Bits.{holds}
use Rattle.mask.specs.declared.Mask.{Mask}

module _ (u v : Mask) (j : ℕ) (e : (k : ℕ) → holds v k ≡ (holds u k && not (eqb k j))) where
  pub cleared : holds v j ≡ false
  cleared = e j ∙ ap (λ b. holds u j && not b) (eq-eqb j j refl) ∙ and-false (holds u j)

  pub others_stay : (k : ℕ) → (k ≡ j → ⊥) → holds v k ≡ holds u k
  others_stay k ne = e k ∙ ap (λ b. holds u k && not b) (ne_eqb k j ne) ∙ and-true (holds u k)

-- a port of both sets is one of the second
pub in_second : (row unseen both : Mask) (k : ℕ) → ((j : ℕ) → holds both j ≡ (holds row j && holds unseen j)) → holds both k ≡ true → holds unseen k ≡ true
in_second row unseen both k meet here = (and_parts (holds row k) (holds unseen k) (sym (meet k) ∙ here)).1
