-- Filled from both sides, and what the setting is then.
use Rattle.std.proofs.Common.{◌≡◌, ℕ, ◌<◌, ◌≤◌, Bool, true, ltb, Some, sym, refl, ap, ◌∙◌, subst, arith}
use Rattle.std.proofs.lemmas.Bool.{ltb-true, lt-ltb}
use Rattle.crossbar.specs.Clearing.{Lawful}
use Rattle.crossbar.specs.Joining.{Joined, Joins, IsSetting}
use Rattle.crossbar.specs.Loads.{Counts, Critical, largest_load, load, turned}
use Rattle.crossbar.specs.Models.{input_at, links_at, load_at, output_at}
use Rattle.crossbar.specs.declared.port.Port.{Port}
use Rattle.crossbar.specs.declared.port.Port.TheVariants.{Input, Output}
use Rattle.crossbar.specs.declared.ports.Ports.{Ports}
use Rattle.crossbar.specs.declared.setting.Setting.{Setting}
use Rattle.crossbar.specs.declared.side.Side.{Side}
use Rattle.crossbar.proofs.Loads.{load_le}
use Rattle.mask.specs.Bits.{holds}
use Rattle.policy.specs.Graphs.{Fits, graph_of, Graph, InJoined, OutJoined, partners, Turned, Weighs, Keeps}
use Rattle.policy.specs.Kernel.{Alike, GrownFrom, IsFull, joined_by, ports_of}
use Rattle.policy.specs.Mending.{pair_count}
use Rattle.policy.specs.Paths.{Full, Grown}
use Rattle.policy.specs.Settled.{Matched}
use Rattle.policy.specs.declared.mending.Mending.{Mending}
use Rattle.policy.proofs.PairCount.{pair_count_partners}
use Rattle.policy.proofs.Partnering.{partnered, partnered_inverse, partnered_le}
use Rattle.policy.proofs.Turning.{fits_turned, in_from_out, inverse_of, out_from_in, partners_some, partners_tell, turned_back, fits_keeps}

-- ---- a setting with packets

module _ (n : ℕ) (d : Graph) (c : Counts) (weighs : Weighs n d c) (s : Joins) where
  pub matched_from_fits : Fits n d s → Matched n c s
  matched_from_fits f =
      record {
        setting = f.setting;
        packet = λ i j e. let (l, h) = f.setting.inside i j e in ltb-true 0 (c i j) (sym (weighs.links i j l h) ∙ f.packet i j e);
      }

  -- and back; as partners a free output is 16, which is no port where there are sixteen or fewer
  pub fits_from_matched : Matched n c s → Fits n d s
  fits_from_matched m =
      record {
        setting = m.setting;
        packet = λ i j e. let (l, h) = m.setting.inside i j e in weighs.links i j l h ∙ lt-ltb 0 (c i j) (m.packet i j e);
      }

  pub keeps_from_matched : n ≤ 16 → Matched n c s → Keeps n d (partners s)
  keeps_from_matched few m = fits_keeps n few d s (fits_from_matched m)

-- a setting of n ports is one of more
pub wider : (n m : ℕ) (s : Joins) → n ≤ m → IsSetting n s → IsSetting m s
wider n m s le rule =
    record { inside = λ i j e. let (a, b) = rule.inside i j e in (omega arith, omega arith); once = rule.once }

-- no port is critical where nothing waits, so that whatever is joined joins all that are
pub covers_nothing : (n : ℕ) (c : Counts) → largest_load n c ≡ 0 → (p : Port) → Critical n c p → ⊥
covers_nothing n c z p critical = omega (arith, critical.busy)

-- the graphs of a demand's two sides are each other seen from the other side
pub turned_sides : (n : ℕ) (d e : Graph) (c : Counts) → Weighs n d c → Weighs n e (turned c) → Turned n d e
turned_sides n d e c weighs weighs' i j l m = weighs'.links j i m l ∙ sym (weighs.links i j l m)

-- ---- filling one side of a demand

-- m is to join the ports of load w or more, of n, of which the counts are c
pub record Serves (n : ℕ) (c : Counts) (w : ℕ) (m : Mending) : Type 0 where
  pub ports : ports_of m ≡ n
  pub want : m.want ≡ w
  pub weighs : Weighs n (graph_of m.side) c

pub serves_side : (p : Ports) (c : Counts) (w : ℕ) (m : Mending) → m.side.ports ≡ p → m.want ≡ w → ((i j : ℕ) → holds (links_at m.side i) j ≡ ltb 0 (c i j)) → ((i : ℕ) → load_at m.side i ≡ load p.count c (Input i)) → Serves p.count c w m
serves_side p c w m ports want links loads =
    record { ports = ap (λ (q : Ports). q.count) ports; want = want; weighs = record { links = λ i j _ _. links i j; loads = λ i _. loads i } }

module _ (n : ℕ) (c : Counts) (w : ℕ) (m : Mending) (f : Serves n c w m) where
  pub serves_small : n ≤ 16
  serves_small = omega (arith, f.ports, m.side.ports.few)

  pub serves_fits : Fits n (graph_of m.side) (input_at m.setting)
  serves_fits = subst (λ k. Fits k (graph_of m.side) (input_at m.setting)) f.ports m.fits

  pub full_of : IsFull m → Full n (graph_of m.side) w (joined_by m)
  full_of full = subst (λ k. Full k (graph_of m.side) w (joined_by m)) f.ports (subst (λ v. Full (ports_of m) (graph_of m.side) v (joined_by m)) f.want full)

  pub is_full : Full n (graph_of m.side) w (joined_by m) → IsFull m
  is_full full =
      subst (λ v. Full (ports_of m) (graph_of m.side) v (joined_by m)) (sym f.want)
      (subst (λ k. Full k (graph_of m.side) w (joined_by m)) (sym f.ports) full)

  module _ (x : Mending) (alike : Alike m x) where
    pub serves_along : Serves n c w x
    serves_along =
        record {
          ports = ap (λ side. side.ports.count) alike.side ∙ f.ports;
          want = alike.want ∙ f.want;
          weighs = subst (λ side. Weighs n (graph_of side) c) (sym alike.side) f.weighs;
        }

    pub grown_of : GrownFrom m x → Grown n (graph_of m.side) (joined_by m) w (joined_by x)
    grown_of grown =
        subst (λ k. Grown k (graph_of m.side) (joined_by m) w (joined_by x)) f.ports
        (subst (λ v. Grown (ports_of m) (graph_of m.side) (joined_by m) v (joined_by x)) f.want grown)

    -- no port's load passes w, so that filling joins them all
    pub filled_all : 0 < w → ((j : ℕ) → j < n → load n c (Output j) ≤ w) → (done : Bool) → (done ≡ true → IsFull x) → ((k : Counts) → Weighs (ports_of m) (graph_of m.side) k → 0 < m.want → ((j : ℕ) → j < ports_of m → load (ports_of m) k (Output j) ≤ m.want) → done ≡ true) → IsFull x
    filled_all busy cap done full critical =
        full (critical c
        (subst (λ k. Weighs k (graph_of m.side) c) (sym f.ports) f.weighs)
        (omega (arith, f.want))
        (subst (λ k. (j : ℕ) → j < k → load k c (Output j) ≤ m.want) (sym f.ports) (λ j l. omega (arith, cap j l, f.want))))

-- ---- filling both

-- by inputs, from m to x, and then by outputs, from x turned, which is y, to z
module _ (n : ℕ) (c : Counts) (w : ℕ) (same : w ≡ largest_load n c) (m x y z : Mending)
    (fm : Serves n c w m) (fx : Serves n c w x) (fy : Serves n (turned c) w y) (fz : Serves n (turned c) w z)
    (turns : input_at y.setting ≡ output_at x.setting) where
  small : n ≤ 16
  small = serves_small n c w x fx

  module _ (full : IsFull x) (grown : Grown n (graph_of y.side) (joined_by y) w (joined_by z)) (full' : IsFull z) where
    pub settled_lawful : Lawful n c (output_at z.setting)
    settled_lawful = record { setting = matched.setting; packet = matched.packet; critical = joined }
      where
        matched : Matched n c (output_at z.setting)
        matched =
            matched_from_fits n (graph_of x.side) c fx.weighs _
            (fits_turned n (graph_of z.side) (graph_of x.side)
            (turned_back n (graph_of x.side) (graph_of z.side) (turned_sides n (graph_of x.side) (graph_of z.side) c fx.weighs fz.weighs))
            z.setting (serves_fits n (turned c) w z fz))

        joined : (p : Port) → Critical n c p → Joined (output_at z.setting) p
        joined (Input i) k =
            let l = k.within in
            let a : InJoined n (joined_by x) i = full_of n c w x fx full i l (omega (arith, same, k.most, fx.weighs.loads i l)) in
            let b : OutJoined n (partners (output_at x.setting)) i = out_from_in n _ _ (inverse_of n small x.setting) i l a in
            let b' : OutJoined n (joined_by y) i = subst (λ f. OutJoined n (partners f) i) (sym turns) b in
            let (j, lj, e) = in_from_out n _ _ (inverse_of n small z.setting) i l (grown.outputs i l b') in
            (j, partners_tell (output_at z.setting) i j (omega (arith, small)) e)
        joined (Output j) k =
            let l = k.within in
            let a : InJoined n (joined_by z) j = full_of n (turned c) w z fz full' j l (omega (arith, same, k.most, fz.weighs.loads j l)) in
            let b : OutJoined n (partners (output_at z.setting)) j = out_from_in n _ _ (inverse_of n small z.setting) j l a in
            (partners (output_at z.setting) j, partners_tell (output_at z.setting) _ j (omega (arith, small)) refl)

    -- no fewer pairs than before
    pub settled_grown : Grown n (graph_of m.side) (joined_by m) w (joined_by x) → pair_count (input_at m.setting) ≤ pair_count (output_at z.setting)
    settled_grown first =
        omega (
          arith,
          pair_count_partners n (input_at m.setting) small (serves_fits n c w m fm).setting,
          partnered_le n (joined_by m) (joined_by x) first.outputs,
          partnered_inverse n (joined_by x) (partners (output_at x.setting)) (inverse_of n small x.setting),
          ap (λ f. partnered n (partners f)) turns,
          partnered_le n (joined_by y) (joined_by z) grown.outputs,
          partnered_inverse n (joined_by z) (partners (output_at z.setting)) (inverse_of n small z.setting),
          pair_count_partners n (output_at z.setting) small settled_lawful.setting,
        )

  -- nothing changes where every critical port is joined
  module _ (busy : 0 < w) (law : Lawful n c (input_at m.setting)) where
    full_inputs : IsFull m
    full_inputs = is_full n c w m fm at
      where
        at : Full n (graph_of m.side) w (joined_by m)
        at i l h =
            let (j, e) = law.critical (Input i) (record { within = l; most = omega (arith, fm.weighs.loads i l, load_le n c (Input i) l); busy = omega arith }) in
            (j, (law.setting.inside i j e).1, partners_some (input_at m.setting) i j e)

    full_outputs : x.setting ≡ m.setting → IsFull y
    full_outputs still = is_full n (turned c) w y fy at
      where
        at : Full n (graph_of y.side) w (joined_by y)
        at j l h =
            let (i, e) = law.critical (Output j) (record { within = l; most = omega (arith, fy.weighs.loads j l, load_le n c (Output j) l); busy = omega arith }) in
            let turned_e : input_at y.setting i ≡ Some j = ap (λ f. f i) turns ∙ ap (λ s. output_at s i) still ∙ m.setting.there i j e in
            (i, (law.setting.inside i j e).0, partners_some (input_at y.setting) j i turned_e)

    pub settled_still : output_at y.setting ≡ input_at x.setting → (IsFull m → x.setting ≡ m.setting) → (IsFull y → z.setting ≡ y.setting) → output_at z.setting ≡ input_at m.setting
    settled_still turns' first second =
        let still = first full_inputs in
        ap output_at (second (full_outputs still)) ∙ turns' ∙ ap input_at still

-- what the critical ports promise of filling m, which has answered `done`
abbrev pub NeverStuck : Mending → Bool → Type 0
NeverStuck m done =
    (k : Counts) → Weighs (ports_of m) (graph_of m.side) k → 0 < m.want → ((j : ℕ) → j < ports_of m → load (ports_of m) k (Output j) ≤ m.want) → done ≡ true

pub settled : (n : ℕ) (c : Counts) (w : ℕ) (m x y z : Mending) (done done' : Bool) → Alike m x → Alike y z → w ≡ largest_load n c → 0 < w → Serves n c w m → Serves n (turned c) w y → input_at y.setting ≡ output_at x.setting → output_at y.setting ≡ input_at x.setting → GrownFrom m x → GrownFrom y z → (done ≡ true → IsFull x) → (done' ≡ true → IsFull z) → NeverStuck m done → NeverStuck y done' → (IsFull m → x.setting ≡ m.setting) → (IsFull y → z.setting ≡ y.setting) → Lawful n c (output_at z.setting) × (pair_count (input_at m.setting) ≤ pair_count (output_at z.setting)) × (Lawful n c (input_at m.setting) → output_at z.setting ≡ input_at m.setting)
settled n c w m x y z done done' alike alike' same busy fm fy turns turns' grown grown' full full' never never' still still' =
    let fx = serves_along n c w m fm x alike in
    let fz = serves_along n (turned c) w y fy z alike' in
    let all = filled_all n c w m fm x alike busy (λ j l. omega (arith, load_le n c (Output j) l, same)) done full never in
    let all' = filled_all n (turned c) w y fy z alike' busy (λ i l. omega (arith, load_le n c (Input i) l, same)) done' full' never' in
    let g' = grown_of n (turned c) w y fy z alike' grown' in (
      settled_lawful n c w same m x y z fm fx fy fz turns all g' all',
      settled_grown n c w same m x y z fm fx fy fz turns all g' all' (grown_of n c w m fm x alike grown),
      λ law. settled_still n c w same m x y z fm fx fy fz turns busy law turns' still still',
    )

-- a setting turned to the other side fits it
pub fits_other : (n : ℕ) (c : Counts) (w : ℕ) (x : Mending) → Serves n c w x → (side : Side) → side.ports.count ≡ n → Weighs n (graph_of side) (turned c) → (s : Setting) → input_at s ≡ output_at x.setting → Fits side.ports.count (graph_of side) (input_at s)
fits_other n c w x f side same weighs s turns =
    subst (λ k. Fits k (graph_of side) (input_at s)) (sym same)
    (subst (Fits n (graph_of side)) (sym turns)
    (fits_turned n (graph_of x.side) (graph_of side) (turned_sides n (graph_of x.side) (graph_of side) c f.weighs weighs) x.setting (serves_fits n c w x f)))
