-- What a server comes to, from what its calls did.
use Rattle.std.proofs.Common.{◌≡◌, ◌<◌, ℕ, List, [], length, get_or, refl, sym, ap, ◌∙◌, subst}
use Rattle.std.specs.Prelude.{String, string_bytes}
use Rattle.std.specs.declared.alloc.Global.{Global}
use Rattle.std.proofs.lemmas.List.{get_or-map}
use Rattle.std.proofs.lemmas.Option.{unwrap_or-slice_get}
use Rattle.edge_core.specs.Device.{SinkState, SourceState}
use Rattle.edge_core.specs.Doors.{DoorsState}
use Rattle.edge_core.specs.declared.doors.DoorError.TheVariants as door
use Rattle.frame_grammar.specs.declared.job.Job.{Job}
use Rattle.relay_model.specs.declared.status.Status.{Status}
use Rattle.relay_model.specs.declared.status.Status.TheVariants as exit
use Rattle.relay_model.specs.Lines.{IsWritten, memory_line}
use Rattle.relay_model.specs.World.{World, world}
use Rattle.relay_threads.specs.Serve.{IsDeaf, IsTold, Serves}
use Rattle.relay_threads.specs.declared.serve_end.Ending.{Ending}
use Rattle.relay_threads.specs.declared.serve_end.Ending.TheVariants as served
use Rattle.relay_threads.specs.declared.serve_end.ServeEnd.{ServeEnd}
use Rattle.relay_threads.specs.declared.serve_end.ServeEnd.TheVariants as ends
use Rattle.relay_top.specs.Serving.{ServesAt, status_of_end, word_at}
use Rattle.relay_words.specs.Words.{texts}

-- there is no memory to begin with
pub no_pool : (target : List ℕ) (count : ℕ) (job : Job) (status : Status) (source : SourceState) (doors : DoorsState) (sink fb fa : SinkState) → status ≡ exit.OutOfMemory → IsWritten memory_line fb fa
    → ServesAt target count job status (world source doors sink fb) (world source doors sink fa)
no_pool target count job status source doors sink fb fa ended told = record {
  ending = served.Refused door.OutOfMemory 1;
  served = IsDeaf door.OutOfMemory refl refl refl;
  end = ends.OutOfMemory;
  told = (refl, told);
  ended = ended;
  source = refl;
}

pub served_at : (target : List ℕ) (count : ℕ) (job : Job) (status : Status) (end : ServeEnd) (source : SourceState) (before after : DoorsState) (kb ka fb fa : SinkState)
    → (ending : Ending) × Serves job target count ending before after kb ka × IsTold ending end fb fa → status ≡ status_of_end end
    → ServesAt target count job status (world source before kb fb) (world source after ka fa)
served_at target count job status end source before after kb ka fb fa did ended = record { ending = did.0; served = did.1; end = end; told = did.2; ended = ended; source = refl }

-- ---- the target among the words

pub word_is : (words : List (String Global)) (at : ℕ) (it : String Global) → at < length words → it ≡ get_or words at it → string_bytes it ≡ word_at at (texts words)
word_is words at it within is = sym (unwrap_or-slice_get (texts words) at [] ∙ get_or-map string_bytes words at it [] within ∙ ap string_bytes (sym is))

pub served_to : (target other : List ℕ) (count : ℕ) (job : Job) (status : Status) (was is : World) → target ≡ other → ServesAt target count job status was is → ServesAt other count job status was is
served_to target other count job status was is same serves = subst (λ (t : List ℕ). ServesAt t count job status was is) same serves
