-- What is said of a side and a load, where two settings are mended for the same.
use Rattle.std.proofs.Common.{ℕ, sym, subst}
use Rattle.crossbar.specs.declared.side.Side.{Side}
use Rattle.policy.specs.Kernel.{Alike}
use Rattle.policy.specs.declared.mending.Mending.{Mending}

module _ (m x : Mending) (alike : Alike m x) (P : Side → ℕ → Type 0) where
  pub along : P m.side m.want → P x.side x.want
  along h = subst (λ side. P side x.want) (sym alike.side) (subst (λ w. P m.side w) (sym alike.want) h)

  pub back : P x.side x.want → P m.side m.want
  back h = subst (λ side. P side m.want) alike.side (subst (λ w. P x.side w) alike.want h)
