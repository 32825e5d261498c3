-- What a batch comes to, from what its parts did.
use Rattle.std.proofs.Common.{◌≡◌, ◌+◌, ℕ, List, [], ◌∷◌, ◌++◌, length, Option, None, refl, sym, ap, ◌∙◌, subst, arith, suc}
use Rattle.std.specs.Prelude.{map, option_map}
use Rattle.std.specs.List.{AllZip, flat_map}
use Rattle.edge_core.specs.Device.{SinkState, SourceState}
use Rattle.edge_core.specs.Doors.{CountsFaults, Device, DoorsState, Told}
use Rattle.edge_core.specs.declared.doors.DoorError.{DoorError}
use Rattle.edge_core.specs.declared.doors.DoorError.TheVariants.{Failed, OutOfMemory}
use Rattle.frame_grammar.specs.declared.job.Job.{Job}
use Rattle.relay_model.specs.declared.status.Status.{Status}
use Rattle.relay_model.specs.declared.status.Status.TheVariants as exit
use Rattle.relay_model.specs.Answers.{Answer, FinishesAlone, Relayed, Sums, answers, returned}
use Rattle.relay_model.specs.Devices.{Devices, HasComeBack, both, faults_among, with_all, with_out}
use Rattle.relay_model.specs.Lines.{IsWritten, door_line, memory_line}
use Rattle.relay_model.specs.World.{world}
use Rattle.relay_top.specs.Batch.{AreFreshOf, Batches, HasNoMemory, HasRelayed, IsRefused, IsRelayedOf}
use Rattle.relay_top.specs.Opening.{OpensNotAll, TellsRefusal}
use Rattle.relay_model.proofs.DevicesLemmas.{doors_are, nothing_back}

-- ---- all were relayed

pub record AreRelayed {F : Type 0} (told : Option Told) (job : Job) (ended : F → Devices) (answer : F → Answer) (names : List (List ℕ)) (finished : List F) : Type 0 where
  pub relayed : List Relayed
  pub each : AllZip (IsRelayedOf told job) names relayed
  pub answers : answers relayed ≡ map answer finished
  pub back : returned relayed ≡ flat_map both (map ended finished)
  pub same : length finished ≡ length names

pub relayed_from : {T F : Type 0} (told : Option Told) (job : Job) (opened : T → Devices) (ended : F → Devices) (answer : F → Answer) (names : List (List ℕ)) (tasks : List T) (finished : List F)
    → AllZip (λ name task. AreFreshOf told name (opened task)) names tasks
    → AllZip (λ task done. FinishesAlone job (answer done) (opened task).inlet (ended done).inlet (opened task).outlet (ended done).outlet) tasks finished
    → AreRelayed told job ended answer names finished
relayed_from told job opened ended answer [] [] [] fresh finishes = record { relayed = []; each = tt; answers = refl; back = refl; same = refl }
relayed_from told job opened ended answer [] [] (done ∷ finished) fresh finishes = absurd finishes
relayed_from told job opened ended answer [] (task ∷ tasks) finished fresh finishes = absurd fresh
relayed_from told job opened ended answer (name ∷ names) [] finished fresh finishes = absurd fresh
relayed_from told job opened ended answer (name ∷ names) (task ∷ tasks) [] fresh finishes = absurd finishes
relayed_from told job opened ended answer (name ∷ names) (task ∷ tasks) (done ∷ finished) fresh finishes =
    let rest = relayed_from told job opened ended answer names tasks finished fresh.1 finishes.1 in
    record {
      relayed = record { opened = opened task; ended = ended done; answer = answer done } ∷ rest.relayed;
      each = (record { fresh = fresh.0; finishes = finishes.0.finishes; in_time = finishes.0.in_time }, rest.each);
      answers = ap (λ (xs : List Answer). answer done ∷ xs) rest.answers;
      back = ap (λ (xs : List Device). both (ended done) ++ xs) rest.back;
      same = ap (λ n. suc n) rest.same;
    }

pub relayed_all : {F : Type 0} (names : List (List ℕ)) (first : ℕ) (job : Job) (status : Status) (source : SourceState) (ended : F → Devices) (answer : F → Answer) (finished : List F) (before between after : DoorsState) (kb ka fb fa : SinkState)
    → AreRelayed before.told job ended answer names finished → between ≡ with_out (length names) before → HasComeBack (map ended finished) between after → length (map ended finished) ≡ length finished
    → Sums names (map answer finished) status kb ka fb fa → Batches names first job status (world source before kb fb) (world source after ka fa)
relayed_all names first job status source ended answer finished before between after kb ka fb fa are opened back size sums =
    HasRelayed are.relayed are.each
    (record {
      counted = subst (λ (xs : List Device). CountsFaults before.faults (faults_among xs) after.faults) (sym are.back) (subst (λ n. CountsFaults n (faults_among (flat_map both (map ended finished))) after.faults) (ap (λ d. d.faults) opened) back.counted);
      returned = doors_are after before.refusals after.faults before.is_listening before.inlets_out before.outlets_out (option_map (with_all (returned are.relayed)) before.told)
          (ap (λ d. d.refusals) back.returned ∙ ap (λ d. d.refusals) opened)
          refl
          (ap (λ d. d.is_listening) back.returned ∙ ap (λ d. d.is_listening) opened)
          (let b = ap (λ d. d.inlets_out) back.returned in let o = ap (λ d. d.inlets_out) opened in omega (arith, b, o, size, are.same))
          (let b = ap (λ d. d.outlets_out) back.returned in let o = ap (λ d. d.outlets_out) opened in omega (arith, b, o, size, are.same))
          (ap (λ d. d.told) back.returned ∙ ap (λ d. option_map (with_all (flat_map both (map ended finished))) d.told) opened ∙ ap (λ (xs : List Device). option_map (with_all xs) before.told) (sym are.back));
    })
    refl
    (subst (λ (xs : List Answer). Sums names xs status kb ka fb fa) (sym are.answers) sums)

-- ---- not all were

pub refused_all : (names : List (List ℕ)) (first count : ℕ) (job : Job) (status : Status) (source : SourceState) (error : DoorError) (before after : DoorsState) (kb ka fb fa : SinkState)
    → OpensNotAll names error count before after → TellsRefusal error (first + count) status fb fa → ka ≡ kb → Batches names first job status (world source before kb fb) (world source after ka fa)
refused_all names first count job status source Failed before after kb ka fb fa refuses tells same =
    IsRefused refuses.opened refuses.alone refuses.unused refuses.some refuses.fails.0 refuses.fails.1 tells.0
    (record { source = refl; sink = same; told = subst (λ n. IsWritten (door_line (first + n)) fb fa) refuses.behind tells.1 })
refused_all names first count job status source OutOfMemory before after kb ka fb fa refuses tells same =
    HasNoMemory refuses.opened refuses.alone refuses.unused refuses.fails tells.0 (record { source = refl; sink = same; told = tells.1 })

-- before any was opened
pub no_room : (names : List (List ℕ)) (first : ℕ) (job : Job) (status : Status) (source : SourceState) (before after : DoorsState) (kb ka fb fa : SinkState) → after ≡ before → status ≡ exit.OutOfMemory → ka ≡ kb → IsWritten memory_line fb fa
    → Batches names first job status (world source before kb fb) (world source after ka fa)
no_room names first job status source before after kb ka fb fa doors memory same line =
    HasNoMemory [] None (record { done = []; rest = names; parts = refl; fresh = tt; next = tt })
    (doors ∙ ap (λ (t : Option Told). record before { told = t }) (sym (nothing_back before.told))) memory (record { source = refl; sink = same; told = line })
