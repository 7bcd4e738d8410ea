-- What the kernel's values mean: a setting that is being mended, and a search in its course.
use Rattle.std.specs.Prelude.{◌≡◌, ℕ, zero, suc, ◌<◌, ◌≤◌, Bool, false, true, not, ◌&&◌, is_some, Some, None, MatchOption, Option, nat_le, slice_index_or}
use Rattle.arrayvec.specs.ArrayVec.{array_vec_len}
use Rattle.crossbar.specs.Models.{input_at, load_at, output_at}
use Rattle.mask.specs.declared.Mask.{Mask}
use Rattle.policy.specs.Graphs.{Partners, Stuck, graph_of, partners}
use Rattle.policy.specs.Paths.{Ending, Full, Grown, Holds, Mended, Spare, Tree}
use Rattle.policy.specs.Searching.{Course, Row}
use Rattle.policy.specs.declared.mending.Mending.{Mending}
use Rattle.policy.specs.declared.trail.Path.{Path}
use Rattle.policy.specs.declared.trail.Step.{Step}
use Rattle.policy.specs.declared.trail.Trail.{Trail}

-- ---- a setting that is being mended

abbrev pub ports_of : Mending → ℕ
ports_of m = m.side.ports.count

abbrev pub joined_by : Mending → Partners
joined_by m = partners (input_at m.setting)

-- the input i has a load of `want` or more, and is not joined
abbrev pub is_open : Mending → ℕ → Bool
is_open m i = nat_le m.want (load_at m.side i) && not (is_some (output_at m.setting i))

-- the first of the inputs that are open, or none where there is none
abbrev pub FirstOpen : Mending → Option ℕ → Type 0
FirstOpen m found =
    MatchOption found
    ((k : ℕ) → k < ports_of m → is_open m k ≡ false)
    (λ i. (i < ports_of m) × (is_open m i ≡ true) × ((k : ℕ) → k < i → is_open m k ≡ false))

-- the side and the load are the same; only the setting may differ (they stand in one struct, since its invariant speaks of side and setting)
pub record Alike (m k : Mending) : Type 0 where
  pub side : k.side ≡ m.side
  pub want : k.want ≡ m.want

-- k joins every output that m joins, and every input of load `want` or more that m joins
abbrev pub GrownFrom : Mending → Mending → Type 0
GrownFrom m k = Grown (ports_of m) (graph_of m.side) (joined_by m) m.want (joined_by k)

-- k is grown from m, and joins `start` too
abbrev pub MendedFrom : Mending → ℕ → Mending → Type 0
MendedFrom m start k = Mended (ports_of m) (graph_of m.side) (joined_by m) m.want start (joined_by k)

-- every input of load `want` or more is joined
abbrev pub IsFull : Mending → Type 0
IsFull m = Full (ports_of m) (graph_of m.side) m.want (joined_by m)

-- the outputs that are free or joined to an input of load below `want`
abbrev pub Ends : Mending → Mask → Type 0
Ends m ends = Spare (ports_of m) (graph_of m.side) (joined_by m) m.want ends

abbrev pub IsStuck : Mending → ℕ → Type 0
IsStuck m start = (q : ℕ → Bool) × Stuck (ports_of m) (graph_of m.side) (joined_by m) m.want start q

-- one input more is joined, with the outputs that still end a path; or the search for it is stuck and nothing changed
abbrev pub JoinedOne : Mending → ℕ → Mending → Option Mask → Type 0
JoinedOne m start k (Some left) = MendedFrom m start k × Ends k left
JoinedOne m start k None = (k ≡ m) × IsStuck m start

-- ---- a search

abbrev pub no_step : Step
no_step = record { input = 0; output = 0; parent = 0 }

abbrev pub step_at : Trail → ℕ → Step
step_at t k = slice_index_or t.steps.items k no_step

-- the input at each place of a trail: the one where the search began, and then those of its steps
abbrev pub ins : Trail → ℕ → ℕ
ins t zero = t.start
ins t (suc k) = (step_at t k).input

abbrev pub outs : Trail → ℕ → ℕ
outs t k = (step_at t k).output

abbrev pub parents : Trail → ℕ → ℕ
parents t k = (step_at t k).parent

-- the trail t of a search that is done with the first p inputs
abbrev pub OnCourse : Mending → Trail → ℕ → Type 0
OnCourse m t p =
    Course (ports_of m) (graph_of m.side) (joined_by m) m.want (ins t) (outs t) (parents t) t.unseen (array_vec_len t.steps) p

-- the trail t of a search that is at the row of its p-th input
abbrev pub InRow : Mending → Mask → Trail → ℕ → Type 0
InRow m row t p =
    Row (ports_of m) (graph_of m.side) (joined_by m) m.want row (ins t) (outs t) (parents t) t.unseen (array_vec_len t.steps) p

-- a path of a trail, all of whose inputs have loads of `want` or more
pub record IsPath (m : Mending) (p : Path) : Type 0 where
  pub tree : Tree (ports_of m) (graph_of m.side) (joined_by m) (ins p.trail) (outs p.trail) (parents p.trail) (array_vec_len p.trail.steps)
  pub ending : Ending (ports_of m) (graph_of m.side) (joined_by m) m.want (ins p.trail) (outs p.trail) (array_vec_len p.trail.steps) p.place p.output
  pub heavy : (k : ℕ) → k ≤ p.place → m.want ≤ load_at m.side (ins p.trail k)

-- what a search from `start` finds: a path, or that it is stuck
abbrev pub Searched : Mending → ℕ → Option Path → Type 0
Searched m start (Some p) = (p.trail.start ≡ start) × IsPath m p
Searched m start None = IsStuck m start

-- the path's last output is held, and of the others those that m holds
abbrev pub HoldsEnd : Mending → Path → Mending → Type 0
HoldsEnd m p k = Holds (ports_of m) (graph_of m.side) (joined_by m) m.want p.output (joined_by k)
