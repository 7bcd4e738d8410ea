use Rattle.std.proofs.Common.{sym, ◌∙◌}
use Rattle.crossbar.proofs.Joins.{setting_rule}
use Rattle.crossbar.proofs.setting.Setting.free.Goals as goal

pub bounds-self-input : goal.bounds-self-input
bounds-self-input c = ((setting_rule c.args.self.now).inside c.in-Some.input c.args.output (sym c.input_of.ensures ∙ c.in-Some.is)).0
