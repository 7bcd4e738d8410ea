-- Flipping a path, one step at a time.
use Rattle.std.proofs.Common.{◌≡◌, ℕ, zero, suc, ◌+◌, ◌-◌, ◌<◌, ◌≤◌, List, slice_index_or, sym, ap, ◌∙◌, subst, arith}
use Rattle.arrayvec.specs.ArrayVec.{array_vec_len}
use Rattle.crossbar.specs.Joining.{moved}
use Rattle.crossbar.specs.Models.{input_at}
use Rattle.crossbar.specs.declared.setting.Setting.{Setting}
use Rattle.policy.specs.Graphs.{Fits, graph_of, Keeps, partners}
use Rattle.policy.specs.Kernel.{Alike, ins, IsPath, joined_by, no_step, outs, parents, ports_of, step_at}
use Rattle.policy.specs.Paths.{Held, Holds, Mended}
use Rattle.policy.specs.declared.mending.Mending.{Mending}
use Rattle.policy.specs.declared.trail.Path.{Path}
use Rattle.policy.specs.declared.trail.Step.{Step}
use Rattle.policy.specs.declared.trail.Trail.{Trail}
use Rattle.policy.proofs.Alike.{along, back}
use Rattle.policy.proofs.Moves.{fits_moved, holding_all, holding_more, Holding, last_other, more_other, moving_all, moving_more, Moving, Puts, puts_moved}
use Rattle.policy.proofs.Reach.{tree_input}
use Rattle.policy.proofs.Turning.{fits_keeps}

-- the input at any place but the first
ins_past : (t : Trail) (p : ℕ) → 0 < p → ins t p ≡ (step_at t (p - 1)).input
ins_past t zero l = absurd (omega arith)
ins_past t (suc k) l = let e : k ≡ suc k - 1 = omega arith in ap (λ x. (step_at t x).input) e

-- a step read from the steps as a slice
pub read_step : (t : Trail) (xs : List Step) (k : ℕ) → xs ≡ t.steps.items → slice_index_or xs k no_step ≡ step_at t k
read_step t xs k e = ap (λ ys. slice_index_or ys k no_step) e

-- x is on the way from m along the path p: the input at `place` is to move to `output`
pub record Midway (m : Mending) (p : Path) (x : Mending) (place output : ℕ) : Type 0 where
  pub low : place ≤ p.place
  pub alike : Alike m x
  pub moving : Moving (ports_of m) (graph_of m.side) (joined_by m) m.want (ins p.trail) (outs p.trail) place output (joined_by x)
  pub holding : Holding (ports_of m) (graph_of m.side) (joined_by m) m.want p.output output (joined_by x)

module _ (m : Mending) (p : Path) (path : IsPath m p) (x : Mending) (place output : ℕ) (mid : Midway m p x place output) where
  fits_x : Fits (ports_of m) (graph_of m.side) (input_at x.setting)
  fits_x = back m x mid.alike (λ side _. Fits side.ports.count (graph_of side) (input_at x.setting)) x.fits

  keeps : Keeps (ports_of m) (graph_of m.side) (joined_by x)
  keeps = fits_keeps _ m.side.ports.few _ _ fits_x

  input : ins p.trail place < ports_of m
  input = tree_input _ _ _ _ _ _ _ path.tree place (omega (arith, mid.low, path.ending.low))

  puts : Puts (ports_of m) (joined_by x) output (ins p.trail place) (partners (moved (ins p.trail place) output (input_at x.setting)))
  puts = puts_moved (ports_of m) (input_at x.setting) (ins p.trail place) output m.side.ports.few input

  -- the setting s after the move
  module _ (i : ℕ) (is : i ≡ ins p.trail place) (s : Setting) (after : i < 16 → output < 16 → input_at s ≡ moved i output (input_at x.setting)) where
    after' : input_at s ≡ moved (ins p.trail place) output (input_at x.setting)
    after' =
        after (omega (arith, input, m.side.ports.few)) (omega (arith, mid.moving.within, m.side.ports.few))
        ∙ ap (λ k. moved k output (input_at x.setting)) is

    fits' : Fits (ports_of m) (graph_of m.side) (input_at s)
    fits' =
        subst (λ f. Fits (ports_of m) (graph_of m.side) f) (sym after')
        (fits_moved _ _ _ _ _ fits_x input mid.moving.within mid.moving.packet)

    flip_fits : Fits (ports_of x) (graph_of x.side) (input_at s)
    flip_fits = along m x mid.alike (λ side _. Fits side.ports.count (graph_of side) (input_at s)) fits'

  -- ---- a move to the output that comes before

  module _ (pos : 0 < place) (step : Step) (step_is : step ≡ step_at p.trail (place - 1)) (s : Setting)
      (after : step.input < 16 → output < 16 → input_at s ≡ moved step.input output (input_at x.setting)) where
    e : place ≡ place - 1 + 1
    e = omega arith

    top : place ≤ array_vec_len p.trail.steps
    top = omega (arith, mid.low, path.ending.low)

    at : step.input ≡ ins p.trail place
    at = ap (λ (a : Step). a.input) step_is ∙ sym (ins_past p.trail place pos)

    pub step_fits : Fits (ports_of x) (graph_of x.side) (input_at s)
    step_fits = flip_fits step.input at s after

    held : (k : ℕ) → k + 1 ≤ place → Held (ports_of m) (graph_of m.side) (joined_by m) m.want (outs p.trail k)
    held k l =
        let kc : k < array_vec_len p.trail.steps = omega (arith, top) in (
          path.tree.joined k kc,
          subst (λ a. m.want ≤ (graph_of m.side).load a) (sym (path.tree.next k kc)) (path.heavy (k + 1) (omega (arith, mid.low))),
        )

    pub step_midway : (y : Mending) → Alike x y → y.setting ≡ s → Midway m p y step.parent step.output
    step_midway y alike is =
        subst (λ (a : Step). Midway m p y a.parent a.output) (sym step_is)
        (record {
          low = omega (arith, mid.low, path.tree.earlier (place - 1) (omega (arith, top)));
          alike = record { side = alike.side ∙ mid.alike.side; want = alike.want ∙ mid.alike.want };
          moving =
              subst (λ f. Moving (ports_of m) (graph_of m.side) (joined_by m) m.want (ins p.trail) (outs p.trail) (parents p.trail (place - 1)) (outs p.trail (place - 1)) (partners f)) (sym joins)
              (moving_more _ _ _ _ _ _ _ _ path.tree place output (joined_by x) _ mid.moving keeps (place - 1) e top puts);
          holding =
              subst (λ f. Holding (ports_of m) (graph_of m.side) (joined_by m) m.want p.output (outs p.trail (place - 1)) (partners f)) (sym joins)
              (holding_more _ _ _ _ _ path.ending.within output (ins p.trail place) _ _ _ mid.holding puts.here
              (more_other _ _ _ _ _ _ _ _ path.tree place output (joined_by x) _ mid.moving keeps (place - 1) e top puts)
              input (path.heavy place mid.low) (held (place - 1) (omega arith)));
        })
      where
        joins : input_at y.setting ≡ moved (ins p.trail place) output (input_at x.setting)
        joins = ap input_at is ∙ after' step.input at s after

  -- ---- the last move

  module _ (z : place ≤ 0) (s : Setting) (after : p.trail.start < 16 → output < 16 → input_at s ≡ moved p.trail.start output (input_at x.setting)) where
    first : ins p.trail 0 ≡ ins p.trail place
    first = let q : 0 ≡ place = omega arith in ap (ins p.trail) q

    pub last_fits : Fits (ports_of x) (graph_of x.side) (input_at s)
    last_fits = flip_fits p.trail.start first s after

    first_puts : Puts (ports_of m) (joined_by x) output (ins p.trail 0) (partners (input_at s))
    first_puts =
        subst (λ i. Puts (ports_of m) (joined_by x) output i (partners (input_at s))) (sym first)
        (subst (λ f. Puts (ports_of m) (joined_by x) output (ins p.trail place) (partners f)) (sym (after' p.trail.start first s after)) puts)

    pub last_mended : Mended (ports_of m) (graph_of m.side) (joined_by m) m.want p.trail.start (partners (input_at s))
    last_mended =
        moving_all _ _ _ _ _ _ _ _ path.tree place output (joined_by x) _ mid.moving (omega arith) first_puts
        (fits_keeps _ m.side.ports.few _ _ (fits' p.trail.start first s after))

    pub last_holds : Holds (ports_of m) (graph_of m.side) (joined_by m) m.want p.output (partners (input_at s))
    last_holds =
        holding_all _ _ _ _ _ path.ending.within output (ins p.trail 0) (ports_of m) _ _ mid.holding first_puts.here
        (λ a l ne _. last_other _ _ _ _ _ _ _ _ path.tree place output (joined_by x) _ mid.moving (omega arith) first_puts a l ne)
        path.tree.root (path.heavy 0 (omega arith)) (omega arith)
