use Rattle.std.proofs.Common.{map, sym, ◌∙◌, arith}
use Rattle.std.proofs.lemmas.List.{at_drop_all}
use Rattle.crossbar.specs.Clearing.{served_all}
use Rattle.crossbar.specs.Models.{input_at, size, waiting}
use Rattle.crossbar.proofs.Clearing.{exactly}
use Rattle.crossbar.proofs.demand.Demand.serve_all.Goals as goal

pub returns : goal.returns
returns c =
    let d = c.args.self.now in
    let ss = c.args.settings.now in
    record {
      ports = c.loop-setting.invariant.0;
      counts = sym (at_drop_all (λ xs. served_all (map input_at xs) (waiting c.loop-setting.self)) ss c.loop-setting.setting-index (omega arith)) ∙ c.loop-setting.invariant.1;
      exactly = exactly (size d) (waiting d) (map input_at ss);
    }
