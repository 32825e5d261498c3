use Rattle.relay_top.proofs.CommandLemmas.{caused, translated, whole}
use Rattle.relay_words.specs.Words.{command_of}
use Rattle.relay_top.proofs.laws.what_runs_come_to.Goals as goal

pub returns-clause-translated : goal.returns-clause-translated
returns-clause-translated c = λ words status was is runs. translated words status was is c.translates_all.ensures (command_of words) runs

pub returns-clause-whole : goal.returns-clause-whole
returns-clause-whole c = λ words status was is runs. whole words status was is c.whole_on_status_0.ensures (command_of words) runs

pub returns-clause-caused : goal.returns-clause-caused
returns-clause-caused c = λ words status was is runs. caused words status was is c.causes_of_statuses.ensures (command_of words) runs
