use Rattle.relay_model.specs.Answers.{IsRelayed}
use Rattle.relay_model.specs.Run.{IsComplete}
use Rattle.relay_model.proofs.AnswerLemmas.{is_relayed, of_relay}
use Rattle.relay_top.proofs.CommandLemmas.{copy_in_time, relay_at}
use Rattle.relay_words.specs.Words.{command_of}
use Rattle.relay_top.proofs.laws.what_relays_do.Goals as goal

pub returns-clause-relayed : goal.returns-clause-relayed
returns-clause-relayed c = λ words status was is runs memory.
    relay_at words status was is (λ job. IsRelayed job status was is) (λ job relays. is_relayed job status was is relays memory) (command_of words) runs

pub returns-clause-complete : goal.returns-clause-complete
returns-clause-complete c = λ words status was is runs memory.
    relay_at words status was is (λ job. IsComplete job status was.source is.source was.sink is.sink)
    (λ job relays. of_relay (λ job status sb sa kb ka. IsComplete job status sb sa kb ka) c.complete_where_lawful.ensures job status was is relays memory) (command_of words) runs

pub returns-clause-in_time : goal.returns-clause-in_time
returns-clause-in_time c = λ words status was is runs. copy_in_time words status was is (command_of words) runs
