use Rattle.std.proofs.Common.{refl}
use Rattle.policy.proofs.Flipping.{last_fits, last_holds, last_mended, read_step, step_fits, step_midway}
use Rattle.policy.proofs.mending.Mending.shift.Goals as goal

pub invariant_of-self : goal.invariant_of-self
invariant_of-self c =
    record {
      fits =
          step_fits _ _ c.requires _ _ _ c.loop-place.invariant c.loop-place-test.true _ (read_step c.args.path.now.trail _ _ c.deref.ensures.0)
          c.rejoin.new.self c.rejoin.ensures.after;
    }

pub loop-place-preserved : goal.loop-place-preserved
loop-place-preserved c =
    step_midway _ _ c.requires _ _ _ c.loop-place.invariant c.loop-place-test.true _ (read_step c.args.path.now.trail _ _ c.deref.ensures.0)
    c.rejoin.new.self c.rejoin.ensures.after _ (record { side = refl; want = refl }) refl

pub invariant_of-self-2 : goal.invariant_of-self-2
invariant_of-self-2 c =
    record { fits = last_fits _ _ c.requires _ _ _ c.loop-place.invariant c.loop-place-test.false c.rejoin-2.new.self c.rejoin-2.ensures.after }

pub returns : goal.returns
returns c =
    let inv = c.loop-place.invariant in
    record {
      alike = record { side = inv.alike.side; want = inv.alike.want };
      mended = last_mended _ _ c.requires _ _ _ inv c.loop-place-test.false c.rejoin-2.new.self c.rejoin-2.ensures.after;
      holds = last_holds _ _ c.requires _ _ _ inv c.loop-place-test.false c.rejoin-2.new.self c.rejoin-2.ensures.after;
    }
