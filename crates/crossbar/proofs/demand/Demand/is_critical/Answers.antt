use Rattle.std.proofs.Common.{◌≡◌, ◌≤◌, sym, ◌∙◌, arith}
use Rattle.std.proofs.lemmas.Bool.{eq-eqb, eqb-true}
use Rattle.crossbar.specs.Models.{largest_of, load_of}
use Rattle.crossbar.proofs.Room.{port_inside}
use Rattle.crossbar.proofs.demand.Demand.is_critical.Goals as goal

pub returns-then-largest-ge1 : goal.returns-then-largest-ge1
returns-then-largest-ge1 c =
    let d = c.args.self.now in
    let p = c.args.port in
    let top = c.largest_load-largest.ensures.value in
    let busy : 1 ≤ largest_of d = omega (arith, top, c.if-largest-ge1.true) in (
      λ e.
          let most : load_of d p ≡ largest_of d = sym c.load.ensures ∙ eqb-true _ _ e ∙ top in
          record { within = port_inside d p (omega (arith, most, busy)); most = most; busy = busy },
      λ critical. eq-eqb _ _ (c.load.ensures ∙ critical.most ∙ sym top),
    )
