-- Why dropping the pairs without a packet leaves a lawful setting.
use Rattle.std.proofs.Common.{◌≡◌, ◌<◌, ◌≤◌, ap, subst, arith}
use Rattle.crossbar.specs.Clearing.{Lawful}
use Rattle.crossbar.specs.Joining.{IsSetting, Joined, Joins}
use Rattle.crossbar.specs.Loads.{Critical, index}
use Rattle.crossbar.specs.Models.{largest_of, load_of, size, waiting}
use Rattle.crossbar.specs.declared.demand.Demand.{Demand}
use Rattle.crossbar.specs.declared.port.Port.{Port}
use Rattle.crossbar.specs.declared.port.Port.TheVariants.{Input, Output}
use Rattle.crossbar.specs.declared.ports.Ports.{Ports}
use Rattle.crossbar.proofs.Loads.{load_le, loads_le}
use Rattle.policy.specs.Mending.{with_packets}
use Rattle.policy.proofs.Dropping.{packets_setting, packets_some, packets_tell}
use Rattle.policy.specs.Raising.{Raised}

module _ (d r : Demand) (up : Raised d r) where
  sizes : size r ≡ size d
  sizes = ap (λ (p : Ports). p.count) up.ports

  -- every port of a raised demand is critical where any is
  all_critical : (p : Port) → Critical (size d) (waiting d) p → Critical (size r) (waiting r) p
  all_critical p c =
      let here : load_of r p ≡ largest_of d = up.level p c.within in
      let top : largest_of r ≤ largest_of d = loads_le (size r) (waiting r) (largest_of d) (λ q l. omega (arith, up.level q (omega (arith, sizes)))) in
      let in_r : index p < size r = omega (arith, sizes, c.within) in
      let most : load_of r p ≡ largest_of r = omega (arith, load_le (size r) (waiting r) p in_r) in
      record { within = in_r; most = most; busy = omega (arith, c.busy) }

  pub peeled : (s : Joins) → Lawful (size r) (waiting r) s → Lawful (size d) (waiting d) (with_packets (waiting d) s)
  peeled s law =
      record {
        setting = packets_setting (size d) (waiting d) s (subst (λ n. IsSetting n s) sizes law.setting);
        packet = λ i j e. (packets_tell (waiting d) s i j e).1;
        critical = joined;
      }
    where
      joined : (p : Port) → Critical (size d) (waiting d) p → Joined (with_packets (waiting d) s) p
      joined (Input i) c =
          let (j, e) = law.critical (Input i) (all_critical (Input i) c) in
          (j, packets_some (waiting d) s i j e (omega (arith, law.packet i j e, up.at_input i j c)))
      joined (Output j) c =
          let (i, e) = law.critical (Output j) (all_critical (Output j) c) in
          (i, packets_some (waiting d) s i j e (omega (arith, law.packet i j e, up.at_output i j c)))
