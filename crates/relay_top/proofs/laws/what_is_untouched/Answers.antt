use Rattle.std.proofs.Common.{◌≡◌}
use Rattle.relay_model.specs.Lines.{IsWritten, memory_line}
use Rattle.relay_top.proofs.CommandLemmas.{doors_untouched, memory_unless, source_untouched, told_only, usage, usage_told}
use Rattle.relay_words.specs.Words.{command_of}
use Rattle.relay_top.proofs.laws.what_is_untouched.Goals as goal

pub returns-clause-usage : goal.returns-clause-usage
returns-clause-usage c = λ words status was is runs. usage words status was is c.causes_of_statuses.ensures (command_of words) runs

pub returns-clause-usage_told : goal.returns-clause-usage_told
returns-clause-usage_told c = λ words status was is runs. usage_told words status was is (command_of words) runs

pub returns-clause-source_untouched : goal.returns-clause-source_untouched
returns-clause-source_untouched c = λ words status was is runs. source_untouched words status was is c.causes_of_statuses.ensures (command_of words) runs

pub returns-clause-sink_untouched : goal.returns-clause-sink_untouched
returns-clause-sink_untouched c = λ words status was is runs none. (told_only words status was is c.causes_of_statuses.ensures (command_of words) runs none).1.tells.sink

pub returns-clause-sink_without_memory : goal.returns-clause-sink_without_memory
returns-clause-sink_without_memory c = λ words status was is runs. memory_unless words status was is (is.sink ≡ was.sink) (λ only. only.tells.sink) (command_of words) runs

pub returns-clause-memory_told : goal.returns-clause-memory_told
returns-clause-memory_told c = λ words status was is runs. memory_unless words status was is (IsWritten memory_line was.faults is.faults) (λ only. only.tells.told) (command_of words) runs

pub returns-clause-no_doors : goal.returns-clause-no_doors
returns-clause-no_doors c = λ words status was is runs none. (told_only words status was is c.causes_of_statuses.ensures (command_of words) runs none).1.doors

pub returns-clause-doors_untouched : goal.returns-clause-doors_untouched
returns-clause-doors_untouched c = λ words status was is runs. doors_untouched words status was is (command_of words) runs
