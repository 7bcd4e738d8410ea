use Rattle.std.proofs.Common.{◌≡◌, false, Ok, eqb, ap, ◌∙◌, arith}
use Rattle.std.proofs.lemmas.Bool.{ne_eqb}
use Rattle.batch.proofs.Runs.{run_more, slot_from}
use Rattle.batch.proofs.clearing.Clearing.slot.Goals as goal
use Rattle.reply.specs.Answers.{done}

pub returns-clause-run : goal.returns-clause-run
returns-clause-run g c b ss run =
    let before = c.args.self.now in
    let s = c.choose-setting.result in
    let reply = Ok c.from-3.result in
    let some : eqb before.left 0 ≡ false = ne_eqb before.left 0 c.if-self-eq0.false in
    rw some
    (run_more b ss before s reply _ run
    (slot_from before s reply _ c.serve-departed.result c.choose-setting.ensures.lawful c.serve-departed.ensures (omega (arith, c.if-self-eq0.false)) (ap done (c.from-3.ensures ∙ c.from-2.ensures))))
