use Rattle.std.proofs.Common.{◌≡◌}
use Rattle.relay_top.specs.Serving.{CompletesServing, ServesAt, word_at}
use Rattle.relay_top.proofs.CommandLemmas.{serve_at}
use Rattle.relay_top.proofs.ServeCauseLemmas.{serve_completed}
use Rattle.relay_words.specs.Words.{command_of}
use Rattle.relay_top.proofs.laws.what_servers_do.Goals as goal

pub returns-clause-serve_reads_nothing : goal.returns-clause-serve_reads_nothing
returns-clause-serve_reads_nothing c = λ words status was is runs.
    serve_at words status was is (λ listen target count job. is.source ≡ was.source) (λ listen target count job serves. serves.source) (command_of words) runs

pub returns-clause-served : goal.returns-clause-served
returns-clause-served c = λ words status was is runs.
    serve_at words status was is (λ listen target count job. ServesAt (word_at target words) count job status was is) (λ listen target count job serves. serves) (command_of words) runs

pub returns-clause-serve_complete : goal.returns-clause-serve_complete
returns-clause-serve_complete c = λ words status was is runs.
    serve_at words status was is (λ listen target count job. CompletesServing (word_at target words) count job status was.doors is.doors was.sink is.sink)
    (λ listen target count job serves. serve_completed (word_at target words) count job status was is c.complete_where_lawful.ensures serves) (command_of words) runs
