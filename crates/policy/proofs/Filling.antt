-- Joining one input after another.
use Rattle.std.proofs.Common.{◌≡◌, ℕ, ◌+◌, ◌<◌, ◌≤◌, Bool, true, false, not, ◌&&◌, is_some, Some, None, Option, refl, ap, ◌∙◌, below_more, arith}
use Rattle.std.proofs.lemmas.Bool.{both_ways, le-leb}
use Rattle.crossbar.specs.Loads.{Counts, load, Critical, largest_load, turned}
use Rattle.crossbar.specs.Models.{input_at, load_at, output_at}
use Rattle.crossbar.specs.declared.port.Port.TheVariants.{Output, Input}
use Rattle.crossbar.proofs.Loads.{load_le}
use Rattle.mask.specs.declared.Mask.{Mask}
use Rattle.policy.specs.Graphs.{Graph, graph_of, InJoined, Keeps, Partners, Stuck, Weighs, OutJoined}
use Rattle.policy.specs.Kernel.{Alike, Ends, is_open, IsFull, IsStuck, joined_by, JoinedOne, ports_of}
use Rattle.policy.specs.Paths.{Full, Grown, Mended}
use Rattle.policy.specs.declared.mending.Mending.{Mending}
use Rattle.policy.proofs.Alike.{back}
use Rattle.policy.proofs.Hall.{best_possible, never_stuck}
use Rattle.policy.proofs.Turning.{fits_keeps, partners_some, in_from_out, Inverse, out_from_in}

-- ---- inputs that are open

module _ (m : Mending) (i : ℕ) where
  -- an input that is not open is joined, or has a load below `want`
  pub closed_joined : is_open m i ≡ false → m.want ≤ load_at m.side i → InJoined (ports_of m) (joined_by m) i
  closed_joined e heavy = go (output_at m.setting i) refl
    where
      go : (o : Option ℕ) → output_at m.setting i ≡ o → InJoined (ports_of m) (joined_by m) i
      go None f =
          absurd (both_ways (is_open m i) e (ap (λ t. t && not (is_some (output_at m.setting i))) (le-leb m.want (load_at m.side i) heavy) ∙ ap (λ o. true && not (is_some o)) f))
      go (Some j) f =
          let joined = m.setting.back j i f in
          (j, (m.fits.setting.inside i j joined).1, partners_some (input_at m.setting) i j joined)

-- where no input is open, all are joined
pub full_closed : (m : Mending) → ((k : ℕ) → k < ports_of m → is_open m k ≡ false) → IsFull m
full_closed m closed i l heavy = closed_joined m i (closed i l) heavy

-- ---- filling

-- t is grown from s, and joins each input below m of load w or more
pub record Filled (n : ℕ) (d : Graph) (s : Partners) (w : ℕ) (t : Partners) (m : ℕ) : Type 0 where
  pub grown : Grown n d s w t
  pub full : (i : ℕ) → i < m → i < n → w ≤ d.load i → InJoined n t i

pub grown_none : (n : ℕ) (d : Graph) (s : Partners) (w : ℕ) → Keeps n d s → Grown n d s w s
grown_none n d s w ok = record { keeps = ok; outputs = λ j l h. h; inputs = λ i l _ h. h }

-- before the first input
pub filled_none : (n : ℕ) (d : Graph) (s : Partners) (w : ℕ) → Keeps n d s → Filled n d s w s 0
filled_none n d s w ok = record { grown = grown_none n d s w ok; full = λ i l. absurd (omega arith) }

-- an input of load w or more that is not joined
pub not_full : (n : ℕ) (d : Graph) (s t : Partners) (w m : ℕ) → Inverse n s t → m < n → (w ≤ d.load m) × (n ≤ t m) → Full n d w s → ⊥
not_full n d s t w m v l (heavy, free) full = omega (arith, free, out_from_in n s t v m l (full m l heavy))

-- where every critical port of a side is joined, filling has nothing to do on it
module _ (n : ℕ) (c : Counts) (s : Partners) (w : ℕ) (same : w ≡ largest_load n c) (busy : 0 < w) where
  pub full_inputs : ((i : ℕ) → Critical n c (Input i) → InJoined n s i) → (d : Graph) → Weighs n d c → Full n d w s
  full_inputs covers d weighs i l h =
      covers i (record { within = l; most = omega (arith, weighs.loads i l, load_le n c (Input i) l); busy = omega arith })

  pub full_outputs : ((j : ℕ) → Critical n c (Output j) → OutJoined n s j) → (e : Graph) → Weighs n e (turned c) → (t : Partners) → Inverse n s t → Full n e w t
  full_outputs covers e weighs t v j l h =
      in_from_out n s t v j l
      (covers j (record { within = l; most = omega (arith, weighs.loads j l, load_le n c (Output j) l); busy = omega arith }))

module _ (n : ℕ) (d : Graph) (s : Partners) (w : ℕ) (t : Partners) (m : ℕ) (f : Filled n d s w t m) where
  pub filled_skip : (w ≤ d.load m → InJoined n t m) → Filled n d s w t (m + 1)
  filled_skip h = record { grown = f.grown; full = below_more _ m f.full (λ _ k. h k) }

  pub filled_mend : (t' : Partners) → Mended n d t w m t' → Filled n d s w t' (m + 1)
  filled_mend t' e =
      record {
        grown =
            record {
              keeps = e.grown.keeps;
              outputs = λ j l h. e.grown.outputs j l (f.grown.outputs j l h);
              inputs = λ i l k h. e.grown.inputs i l k (f.grown.inputs i l k h);
            };
        full = below_more _ m (λ i l q k. e.grown.inputs i q k (f.full i l q k)) (λ _ _. e.start_joined);
      }

  module _ (start : ℕ) (stuck : (q : ℕ → Bool) × Stuck n d t w start q) where
    pub filled_best : (u : Partners) → Keeps n d u → Full n d w u → ⊥
    filled_best u ok all = best_possible n d t u w start stuck.0 f.grown.keeps stuck.1 ok all

    pub filled_critical : (c : Counts) → Weighs n d c → 0 < w → ((j : ℕ) → j < n → load n c (Output j) ≤ w) → ⊥
    filled_critical c weighs pos cap = never_stuck n d c t w start stuck.0 weighs f.grown.keeps pos cap stuck.1

-- x is m with the inputs below i done, and `ends` are the outputs that still end a path
pub record Partway (m x : Mending) (ends : Mask) (i : ℕ) : Type 0 where
  pub alike : Alike m x
  pub filled : Filled (ports_of m) (graph_of m.side) (joined_by m) m.want (joined_by x) i
  pub ended : Ends x ends

pub partway_none : (m : Mending) (ends : Mask) (first : ℕ) → Ends m ends → ((k : ℕ) → k < first → is_open m k ≡ false) → Partway m m ends first
partway_none m ends first here closed =
    record {
      alike = record { side = refl; want = refl };
      filled =
          record {
            grown = grown_none _ _ _ _ (fits_keeps _ m.side.ports.few _ _ m.fits);
            full = λ i l _ heavy. closed_joined m i (closed i l) heavy;
          };
      ended = here;
    }

module _ (m x : Mending) (ends : Mask) (i : ℕ) (h : Partway m x ends i) where
  pub partway_skip : is_open x i ≡ false → Partway m x ends (i + 1)
  partway_skip closed =
      record {
        alike = h.alike;
        filled =
            filled_skip _ _ _ _ _ _ h.filled
            (back m x h.alike (λ side w. w ≤ load_at side i → InJoined side.ports.count (joined_by x) i) (closed_joined x i closed));
        ended = h.ended;
      }

  pub partway_mend : (y : Mending) (left : Mask) → Alike x y → JoinedOne x i y (Some left) → Partway m y left (i + 1)
  partway_mend y left alike (mended, here) =
      record {
        alike = record { side = alike.side ∙ h.alike.side; want = alike.want ∙ h.alike.want };
        filled =
            filled_mend _ _ _ _ _ _ h.filled _
            (back m x h.alike (λ side w. Mended side.ports.count (graph_of side) (joined_by x) w i (joined_by y)) mended);
        ended = here;
      }

  module _ (stuck : IsStuck x i) where
    stuck' : Stuck (ports_of m) (graph_of m.side) (joined_by x) m.want i stuck.0
    stuck' = back m x h.alike (λ side w. Stuck side.ports.count (graph_of side) (joined_by x) w i stuck.0) stuck.1

    pub partway_best : (u : Partners) → Keeps (ports_of m) (graph_of m.side) u → Full (ports_of m) (graph_of m.side) m.want u → ⊥
    partway_best u ok all = filled_best _ _ _ _ _ _ h.filled i (stuck.0, stuck') u ok all

    pub partway_critical : (c : Counts) → Weighs (ports_of m) (graph_of m.side) c → 0 < m.want → ((j : ℕ) → j < ports_of m → load (ports_of m) c (Output j) ≤ m.want) → ⊥
    partway_critical c weighs pos cap = filled_critical _ _ _ _ _ _ h.filled i (stuck.0, stuck') c weighs pos cap
