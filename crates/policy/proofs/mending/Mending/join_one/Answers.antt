use Rattle.std.proofs.Common.{◌≡◌, ℕ, ◌<◌, ◌≤◌, true, length, not, is_some, leb, Some, sym, ap, ◌∙◌, subst, inl, inr, arith}
use Rattle.std.proofs.lemmas.Bool.{and_parts, both_ways, cases_lt, leb-true, ltb-true, not-true}
use Rattle.arrayvec.specs.ArrayVec.{array_vec_len}
use Rattle.crossbar.specs.Models.{input_at, links_at, load_at, output_at}
use Rattle.mask.specs.Bits.{holds}
use Rattle.policy.specs.Kernel.{ins, joined_by, ports_of}
use Rattle.policy.proofs.Turning.{partners_tell}
use Rattle.policy.proofs.mending.Mending.join_one.Goals as goal

-- a trail without a step, and an output that its input has a packet for, are a path
pub shift-requires : goal.shift-requires
shift-requires c =
    let m = c.args.self.now in
    let t = c.new-trail.result in
    let out = c.in-Some.output in
    let begins : t.start ≡ c.args.start = c.new-trail.ensures.start in
    let none : array_vec_len t.steps ≡ 0 = ap length c.new-trail.ensures.steps in
    let at_end = and_parts _ _ (sym (c.meet.ensures out) ∙ c.in-Some.ensures.here) in
    let near = and_parts _ _ (sym (c.meet-near.ensures out) ∙ at_end.0) in
    let inside : out < ports_of m = ltb-true out (ports_of m) (sym (c.new-trail.ensures.unseen out) ∙ near.1) in
    let link : holds (links_at m.side t.start) out ≡ true =
    ap (λ i. holds (links_at m.side i) out) begins ∙ sym (c.links.ensures out) ∙ near.0
    in
    let open_ = and_parts _ _ c.requires.open in
    let heavy : m.want ≤ load_at m.side t.start = subst (λ i. m.want ≤ load_at m.side i) (sym begins) (leb-true _ _ open_.0) in
    record {
      tree =
          record {
            root = omega (arith, begins, c.requires.within);
            unjoined =
                λ j l e.
                let there : output_at m.setting c.args.start ≡ Some j =
                m.setting.there c.args.start j (partners_tell (input_at m.setting) c.args.start j (omega (arith, c.requires.within, m.side.ports.few)) (e ∙ begins))
                in
                both_ways (is_some (output_at m.setting c.args.start)) (not-true _ open_.1) (ap is_some there);
            within = λ k l. absurd (omega (arith, none));
            joined = λ k l. absurd (omega (arith, none));
            next = λ k l. absurd (omega (arith, none));
            apart = λ j k l. absurd (omega (arith, none));
            earlier = λ k l. absurd (omega (arith, none));
            packet = λ k l. absurd (omega (arith, none));
          };
      ending =
          record {
            low = omega arith;
            within = inside;
            packet = link;
            fresh = λ k l. absurd (omega (arith, none));
            spare =
                λ l.
                elim (cases_lt (load_at m.side (joined_by m out)) m.want) [
                  | inl small ↦ small
                  | inr large ↦ absurd (c.requires.ends.free out inside at_end.1 (l, large))
                ];
          };
      heavy = λ k l. let first : 0 ≡ k = omega arith in subst (λ x. m.want ≤ load_at m.side (ins t x)) first heavy;
    }
