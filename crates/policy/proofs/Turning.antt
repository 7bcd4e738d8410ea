-- Settings as partners, and seen from either side.
use Rattle.std.proofs.Common.{◌≡◌, ℕ, ◌<◌, ◌≤◌, Some, None, Option, sym, refl, ap, ◌∙◌, arith}
use Rattle.std.specs.Option.{unwrap_or}
use Rattle.crossbar.specs.Joining.{Joins}
use Rattle.crossbar.specs.Models.{input_at, output_at}
use Rattle.crossbar.specs.declared.setting.Setting.{Setting}
use Rattle.policy.specs.Graphs.{Fits, Graph, InJoined, Keeps, OutJoined, Partners, partners, Turned}

-- ---- a setting as partners

pub partners_some : (s : Joins) (i j : ℕ) → s j ≡ Some i → partners s j ≡ i
partners_some s i j e = ap (λ o. unwrap_or o 16) e

pub partners_none : (s : Joins) (j : ℕ) → s j ≡ None → partners s j ≡ 16
partners_none s j e = ap (λ o. unwrap_or o 16) e

pub partners_tell : (s : Joins) (i j : ℕ) → i < 16 → partners s j ≡ i → s j ≡ Some i
partners_tell s i j l e = go (s j) e
  where
    go : (o : Option ℕ) → unwrap_or o 16 ≡ i → o ≡ Some i
    go None f = absurd (omega arith)
    go (Some a) f = ap Some f

-- t gives each input the output that s joins it to
pub record Inverse (n : ℕ) (s t : Partners) : Type 0 where
  pub there : (j : ℕ) → j < n → s j < n → t (s j) ≡ j
  pub back : (i : ℕ) → i < n → t i < n → s (t i) ≡ i

module _ (n : ℕ) (small : n ≤ 16) where
  pub fits_keeps : (d : Graph) (s : Joins) → Fits n d s → Keeps n d (partners s)
  fits_keeps d s f =
      record {
        once =
            λ j k lj lk h e.
            f.setting.once (partners s j) j k (partners_tell s _ j (omega arith) refl) (partners_tell s _ k (omega arith) (sym e));
        packet = λ j l h. f.packet (partners s j) j (partners_tell s _ j (omega arith) refl);
      }

  pub inverse_of : (s : Setting) → Inverse n (partners (input_at s)) (partners (output_at s))
  inverse_of s =
      record {
        there = λ j l h. partners_some (output_at s) j _ (s.there _ j (partners_tell (input_at s) _ j (omega arith) refl));
        back = λ i l h. partners_some (input_at s) i _ (s.back _ i (partners_tell (output_at s) _ i (omega arith) refl));
      }

-- the setting of the other side, where it has the same packets
pub fits_turned : (n : ℕ) (d e : Graph) → Turned n d e → (s : Setting) → Fits n d (input_at s) → Fits n e (output_at s)
fits_turned n d e turned s f =
    record {
      setting =
          record {
            inside = λ j i h. let (l, m) = f.setting.inside i j (s.back j i h) in (m, l);
            once = λ j i k h g. same i k (s.back j i h) (s.back j k g);
          };
      packet =
          λ j i h.
          let there = s.back j i h in
          let (l, m) = f.setting.inside i j there in
          turned i j l m ∙ f.packet i j there;
    }
  where
    same : {o : Option ℕ} (i k : ℕ) → o ≡ Some i → o ≡ Some k → i ≡ k
    same i k p q = cc

-- ---- partners and their inverse

module _ (n : ℕ) (s t : Partners) (v : Inverse n s t) where
  pub out_from_in : (i : ℕ) → i < n → InJoined n s i → OutJoined n t i
  out_from_in i l (j, m, e) = omega (arith, v.there j m (omega arith), ap t e)

  pub in_from_out : (j : ℕ) → j < n → OutJoined n s j → InJoined n t j
  in_from_out j l h = (s j, h, v.there j l h)

  -- with a packet for each pair, so has the inverse, where the other side has the same packets
  pub inverse_keeps : (d e : Graph) → Turned n d e → Keeps n d s → Keeps n e t
  inverse_keeps d e turned ok =
      record {
        once = λ a b la lb h q. sym (v.back a la h) ∙ ap s q ∙ v.back b lb (omega arith);
        packet =
            λ a la h.
            turned a (t a) la h ∙ ap (λ x. d.link x (t a)) (sym (v.back a la h)) ∙ ok.packet (t a) h (omega (arith, v.back a la h));
      }

pub inverse_back : (n : ℕ) (s t : Partners) → Inverse n s t → Inverse n t s
inverse_back n s t v = record { there = v.back; back = v.there }

-- partners that join nothing
pub empty_inverse : (n : ℕ) (s : Partners) → ((j : ℕ) → j < n → n ≤ s j) → Inverse n s s
empty_inverse n s none = record { there = λ j l h. absurd (omega (arith, none j l)); back = λ i l h. absurd (omega (arith, none i l)) }

pub turned_back : (n : ℕ) (d e : Graph) → Turned n d e → Turned n e d
turned_back n d e h = λ i j l m. sym (h j i m l)
