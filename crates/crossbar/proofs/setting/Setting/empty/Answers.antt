use Rattle.std.proofs.Common.{◌≡◌, ℕ, get_or, replicate, None, Option, refl, arith}
use Rattle.crossbar.specs.Arrays.{Mirrors, Within}
use Rattle.crossbar.proofs.Places.{same_everywhere}
use Rattle.crossbar.proofs.setting.Setting.empty.Goals as goal

-- where nothing is joined, there is nothing to mirror
mirrored : Mirrors (replicate 16 None) (replicate 16 None)
mirrored i j e =
    let none : get_or (replicate {A = Option ℕ} 16 None) j None ≡ None = same_everywhere 16 None j in
    let z : ◌≡◌ {A = ℕ} 0 1 = cc in
    absurd (omega arith)

within_none : Within 0 (replicate 16 None)
within_none i j e =
    let none : get_or (replicate {A = Option ℕ} 16 None) j None ≡ None = same_everywhere 16 None j in
    let z : ◌≡◌ {A = ℕ} 0 1 = cc in
    absurd (omega arith)

pub invariant_of-result : goal.invariant_of-result
invariant_of-result c = record { sized = (refl, refl); there = mirrored; back = mirrored; few = omega arith; within = within_none }
