use Rattle.std.proofs.Common.{refl}
use Rattle.crossbar.specs.Joining.{pairs_below}
use Rattle.crossbar.proofs.Joins.{setting_rule}
use Rattle.crossbar.proofs.setting.Setting.pairs.Goals as goal

pub returns : goal.returns
unfolding pairs_below
returns c = record { rule = setting_rule c.args.self.now; setting = refl; start = refl }
