-- A refused packet leaves the batch as it was, and tells why.
use Rattle.std.proofs.Common.{◌≡◌, ℕ, ◌<◌, is_some, Some, None, Err, Option, sym, refl, ap, ◌∙◌, subst, arith}
use Rattle.batch.specs.Calls.{Took}
use Rattle.batch.specs.Models.{gathered, refusal_in}
use Rattle.batch.specs.Rules.{taken_unless}
use Rattle.batch.specs.declared.gathering.Gathering.{Gathering}
use Rattle.crossbar.specs.Loads.{one_more}
use Rattle.readout.specs.Readouts.{Grown, ReadOut}
use Rattle.readout.specs.declared.Readout.{Readout}
use Rattle.reply.specs.Answers.{refused}
use Rattle.reply.specs.declared.reason.Reason.{Reason}
use Rattle.reply.specs.declared.refusal.Refusal.{Refusal}
use Rattle.std.proofs.lemmas.Bool.Decides.{when_true}

why : (o : Option Reason) (w : Reason) (place : ℕ) → refused w place ≡ taken_unless o → (v : Reason) × (o ≡ Some v)
why None w place e = let z : ◌≡◌ {A = ℕ} 0 1 = cc in absurd (omega arith)
why (Some v) w place e = (v, refl)

module _ (before b after : Gathering) (r : Readout) (k : ℕ) (refusal : Refusal) (took : Took b r.pair (Err refusal) after) where
  -- the next packet was refused, for some reason and at some place
  pub stopped : Grown before r.pair.input r.pair.output k b → k < r.packets → ReadOut before r (record { packets = k; refused = Some refusal }) after
  stopped grown more =
      let (v, given) = why (refusal_in b r.pair) refusal.reason refusal.place.value took.reply in
      let same : after ≡ b =
      when_true (after ≡ b) (gathered after ≡ one_more r.pair.input r.pair.output (gathered b)) (ap is_some given) took.packets
      in
      record {
        grown = subst (Grown before r.pair.input r.pair.output k) (sym same) grown;
        whole = (more, (v, ap (λ x. refusal_in x r.pair) same ∙ given, took.reply ∙ ap taken_unless given));
      }
