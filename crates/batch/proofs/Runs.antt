-- One slot more of a run.
use Rattle.std.proofs.Common.{◌≡◌, ℕ, ◌+◌, List, [], ◌∷◌, ◌++◌, refl, arith}
use Rattle.std.proofs.lemmas.Grind.{common_steps}
use Rattle.std.proofs.lemmas.List.{length_push}
use Rattle.crossbar.proofs.Clearing.{exactly}
use Rattle.crossbar.specs.Calls.{Served}
use Rattle.crossbar.specs.Clearing.{AllLawful, Exactly, Lawful, served, served_all}
use Rattle.crossbar.specs.Joining.{Joins}
use Rattle.crossbar.specs.Loads.{Counts}
use Rattle.crossbar.specs.Models.{input_at, size}
use Rattle.crossbar.specs.declared.setting.Setting.{Setting}
use Rattle.reply.specs.Answers.{Reply, answer, done}
use Rattle.batch.specs.Calls.{Run, SlotDone}
use Rattle.batch.specs.Models.{slots_left, to_clear}
use Rattle.batch.specs.declared.clearing.Clearing.{Clearing}

served_push : (ss : List Joins) (s : Joins) (d : Counts) → served_all (ss ++ s ∷ []) d ≡ served s (served_all ss d)
served_push [] s d = refl
served_push (t ∷ ss) s d = served_push ss s (served t d)

lawful_push : (n : ℕ) (ss : List Joins) (s : Joins) (d : Counts) → AllLawful n d ss → Lawful n (served_all ss d) s → AllLawful n d (ss ++ s ∷ [])
lawful_push n [] s d h law = (law, tt)
lawful_push n (t ∷ ss) s d h law = (h.0, lawful_push n ss s (served t d) h.1 law)

pub run_more : (b : Clearing) (ss : List Joins) (c : Clearing) (s : Setting) (r : Reply) (c' : Clearing) → Run b ss c → SlotDone c s r c' → Run b (ss ++ input_at s ∷ []) c' × Exactly (size b.demand) (to_clear b) (ss ++ input_at s ∷ [])
run_more b ss c s r c' run slot =
    let law : Lawful (size b.demand) (served_all ss (to_clear b)) (input_at s) = rw (← run.packets, ← run.ports) slot.lawful in
    let all = lawful_push (size b.demand) ss (input_at s) (to_clear b) run.lawful law in (
      record {
        ports = cc;
        lawful = all;
        packets = cc (served_push ss (input_at s) (to_clear b));
        left = omega (arith, length_push ss (input_at s));
      },
      exactly (size b.demand) (to_clear b) (ss ++ input_at s ∷ []) all,
    )

-- what a served demand makes of a slot
pub slot_from : (before : Clearing) (s : Setting) (r : Reply) (after : Clearing) (departed : ℕ) → Lawful (size before.demand) (to_clear before) (input_at s) → Served before.demand s departed after.demand → slots_left after + 1 ≡ slots_left before → answer r ≡ done departed → SlotDone before s r after
slot_from before s r after departed law served left reply = grind (arith, common_steps)
