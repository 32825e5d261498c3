use Rattle.std.proofs.Common.{◌≡◌, drop}
use Rattle.relay_top.specs.Batch.{Batches, CompletesBatch}
use Rattle.relay_top.proofs.BatchCauseLemmas.{batch_completed, batch_reads_nothing}
use Rattle.relay_top.proofs.CommandLemmas.{batch_at}
use Rattle.relay_words.specs.Words.{command_of}
use Rattle.relay_top.proofs.laws.what_batches_do.Goals as goal

pub returns-clause-batch_reads_nothing : goal.returns-clause-batch_reads_nothing
returns-clause-batch_reads_nothing c = λ words status was is runs.
    batch_at words status was is (λ workers job names_from. is.source ≡ was.source) (λ workers job names_from batches. batch_reads_nothing (drop names_from words) names_from job status was is batches) (command_of words) runs

pub returns-clause-batched : goal.returns-clause-batched
returns-clause-batched c = λ words status was is runs.
    batch_at words status was is (λ workers job names_from. Batches (drop names_from words) names_from job status was is) (λ workers job names_from batches. batches) (command_of words) runs

pub returns-clause-batch_complete : goal.returns-clause-batch_complete
returns-clause-batch_complete c = λ words status was is runs.
    batch_at words status was is (λ workers job names_from. CompletesBatch (drop names_from words) job status was.doors is.doors was.sink is.sink)
    (λ workers job names_from batches. batch_completed c.complete_where_lawful.ensures (drop names_from words) names_from job status was is batches) (command_of words) runs
