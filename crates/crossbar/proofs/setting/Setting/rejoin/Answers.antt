use Rattle.std.proofs.Common.{sym, ap, ◌∙◌, inl, inr, subst, arith}
use Rattle.crossbar.specs.Joining.{with_pair}
use Rattle.crossbar.specs.Models.{input_at}
use Rattle.crossbar.proofs.Moving.{apart_joinable, apart_moved, apart_none, apart_some, Apart}
use Rattle.crossbar.proofs.setting.Setting.rejoin.Goals as goal
use Rattle.crossbar.proofs.setting.Setting.rejoin.Goals.{in-Some, in_default}

pub put-requires : goal.put-requires
put-requires c =
    let s = c.args.self.now in
    let a = c.args.pair.input in
    let t = input_at c.match-output_of.self in
    let apart : Apart s a t =
    elim c.match-output_of.branch [
      | in-Some w ↦
          subst (Apart s a) (sym (ap input_at w.self-is ∙ w.free.ensures)) (apart_some s a w.in-Some.output w.in-Some.ensures.joined)
      | in_default w ↦ subst (Apart s a) (sym (ap input_at w.self-is)) (apart_none s a w.in_default.ensures.joined)
    ]
    in
    apart_joinable s a c.args.pair.output t apart c.free-2.new.self (omega arith) (omega arith) c.free-2.ensures

pub returns : goal.returns
returns c =
    let s = c.args.self.now in
    let a = c.args.pair.input in
    let b = c.args.pair.output in
    let t = input_at c.match-output_of.self in
    let apart : Apart s a t =
    elim c.match-output_of.branch [
      | in-Some w ↦
          subst (Apart s a) (sym (ap input_at w.self-is ∙ w.free.ensures)) (apart_some s a w.in-Some.output w.in-Some.ensures.joined)
      | in_default w ↦ subst (Apart s a) (sym (ap input_at w.self-is)) (apart_none s a w.in_default.ensures.joined)
    ]
    in
    record {
      after = λ _ _. c.put.ensures ∙ ap (λ f. with_pair a b f) c.free-2.ensures ∙ apart_moved s a b t apart;
      outside = λ far. elim far [ inl h ↦ absurd (omega arith) | inr h ↦ absurd (omega arith) ];
    }
