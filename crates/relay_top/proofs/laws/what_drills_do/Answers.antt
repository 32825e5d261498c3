use Rattle.std.proofs.Common.{◌≡◌}
use Rattle.relay_top.specs.Drill.{Drills, HasGained, SumsUp}
use Rattle.relay_top.proofs.CommandLemmas.{drill_at}
use Rattle.relay_top.proofs.DrillLemmas.{drill_completed, drill_gained, drill_keeps}
use Rattle.relay_words.specs.Words.{command_of}
use Rattle.relay_top.proofs.laws.what_drills_do.Goals as goal

pub returns-clause-drill_reads_nothing : goal.returns-clause-drill_reads_nothing
returns-clause-drill_reads_nothing c = λ words status was is runs.
    drill_at words status was is (λ seed count job. is.source ≡ was.source) (λ seed count job drills. (drill_keeps seed count job status was is drills).source) (command_of words) runs

pub returns-clause-drilled : goal.returns-clause-drilled
returns-clause-drilled c = λ words status was is runs.
    drill_at words status was is (λ seed count job. Drills seed count job status was is) (λ seed count job drills. drills) (command_of words) runs

pub returns-clause-drill_gained : goal.returns-clause-drill_gained
returns-clause-drill_gained c = λ words status was is runs.
    drill_at words status was is (λ seed count job. HasGained seed count job status was.sink is.sink) (λ seed count job drills. drill_gained seed count job status was is drills) (command_of words) runs

pub returns-clause-drill_complete : goal.returns-clause-drill_complete
returns-clause-drill_complete c = λ words status was is runs.
    drill_at words status was is (λ seed count job. SumsUp seed count job status was.sink is.sink) (λ seed count job drills. drill_completed seed count job status was is drills) (command_of words) runs
