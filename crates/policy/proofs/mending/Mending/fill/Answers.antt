use Rattle.std.proofs.Common.{◌+◌, sym, ◌∙◌, subst}
use Rattle.policy.proofs.Filling.{full_closed, partway_best, partway_critical, partway_mend, partway_none, partway_skip, Partway}
use Rattle.policy.proofs.mending.Mending.fill.Goals as goal
use Rattle.policy.proofs.mending.Mending.fill.Goals.{then-is_open+in-Some-join_one, else-is_open}

pub returns-in_default-clause-full : goal.returns-in_default-clause-full
returns-in_default-clause-full c = λ _. full_closed c.args.self.now c.in_default.ensures

pub loop-input-init : goal.loop-input-init
loop-input-init c = partway_none _ _ _ c.ends-ends.ensures c.in-Some.ensures.2

pub returns-in-None-clause-best : goal.returns-in-None-clause-best
returns-in-None-clause-best c = λ _. partway_best _ _ _ _ c.loop-input.invariant c.in-None.ensures.joined.1

pub returns-in-None-clause-critical : goal.returns-in-None-clause-critical
returns-in-None-clause-critical c =
    λ counts weighs pos cap. absurd (partway_critical _ _ _ _ c.loop-input.invariant c.in-None.ensures.joined.1 counts weighs pos cap)

pub loop-input-preserved : goal.loop-input-preserved
loop-input-preserved c =
    let m = c.args.self.now in
    let i = c.loop-input.input in
    let inv = c.loop-input.invariant in
    elim c.if-is_open.branch [
      | then-is_open+in-Some-join_one w ↦
          subst (λ y. Partway m y c.if-is_open.ends (i + 1)) (sym w.self-is)
          (subst (λ e. Partway m w.join_one.new.self e (i + 1)) (sym w.ends-is)
          (partway_mend _ _ _ _ inv _ _ w.in-Some-join_one.ensures.alike w.in-Some-join_one.ensures.joined))
      | else-is_open w ↦
          subst (λ y. Partway m y c.if-is_open.ends (i + 1)) (sym w.self-is)
          (subst (λ e. Partway m c.loop-input.self e (i + 1)) (sym w.ends-is)
          (partway_skip _ _ _ _ inv (sym c.is_open.ensures ∙ w.if-is_open.false)))
    ]
